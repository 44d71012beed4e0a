-- Blocked cubes make a row false.
use Rattle.prime_implicants.specs.Partial.{IsWithin, HasFrom, IsTotal}
use Rattle.prime_implicants.specs.DenseClauses.{fits, row_unfalsified, all_unfalsified, mentions}
use Rattle.clause_form.specs.Clauses.{any_below}
use Rattle.clause_form.proofs.SomeValue.{none_below, some_below}
use Rattle.prime_implicants.specs.Found.{CoversAt, Covers, IsBlockedByRows}
use Rattle.std.proofs.Common.{◌≡◌, ℕ, zero, suc, ◌<◌, ◌≤◌, Bool, true, false, not, cond, ◌&&◌, ◌||◌, eqb, List, [], ◌∷◌, length, Option, Some, None, refl, sym, ◌∙◌, ap, subst, arith, set, get_or, ◌⊎◌, inl, inr}
use Rattle.std.specs.List.{filter}
use Rattle.std.proofs.lemmas.Bool.{and_parts, eqb-true, not-false}
use Rattle.list_laws.proofs.Passing.{all_pass_too}
use Rattle.cca_base.specs.Sets.{has}
use Rattle.cca_base.proofs.SetLaws.{has-empty}
use Rattle.prime_implicants.proofs.DenseClauseLaws.{list_all-filter, either_so, length-within}
use Rattle.prime_implicants.proofs.PartialValueLaws.{within-set}

-- ---- the cases of a subject's value

-- a total assignment extends itself
pub extends_self : (q : List (Option ℕ)) → Covers q q
extends_self [] = tt
extends_self (None ∷ q) = (tt, extends_self q)
extends_self (Some v ∷ q) = (refl, extends_self q)

pub start : (sizes : List ℕ) (rows : List (List ℕ)) (q : List (Option ℕ)) → IsWithin sizes q → HasFrom 0 q → IsBlockedByRows sizes rows q → all_unfalsified q rows ≡ false
start sizes rows q w h b = b q w h (extends_self q)

-- the subject has a value already, or has none
has_or_lacks : (k : ℕ) (q : List (Option ℕ)) → k < length q → HasFrom (suc k) q → HasFrom k q ⊎ (get_or q k None ≡ None)
has_or_lacks zero [] h f = absurd (omega arith)
has_or_lacks zero (None ∷ q) h f = inr refl
has_or_lacks zero (Some v ∷ q) h f = inl (refl, f)
has_or_lacks (suc k) [] h f = absurd (omega arith)
has_or_lacks (suc k) (o ∷ q) h f = let l : k < length q = omega arith in has_or_lacks k q l f

has_from-set : (q : List (Option ℕ)) (k v : ℕ) → HasFrom (suc k) q → HasFrom k (set q k (Some v))
has_from-set [] k v f = tt
has_from-set (o ∷ q) zero v f = (refl, f)
has_from-set (o ∷ q) (suc k) v f = has_from-set q k v f

-- what extends the set values extends the values
extends-set : (a q : List (Option ℕ)) (k v : ℕ) → get_or q k None ≡ None → Covers a (set q k (Some v)) → Covers a q
extends-set [] [] k v e h = tt
extends-set [] (o ∷ q) zero v e h = absurd h
extends-set [] (o ∷ q) (suc k) v e h = absurd h
extends-set (p ∷ a) [] k v e h = absurd h
extends-set (p ∷ a) (o ∷ q) zero v e h = (subst (CoversAt p) (sym e) tt, h.1)
extends-set (p ∷ a) (o ∷ q) (suc k) v e h = (h.0, extends-set a q k v e h.1)

blocked-set : (sizes : List ℕ) (rows : List (List ℕ)) (q : List (Option ℕ)) (k v : ℕ) → get_or q k None ≡ None → IsBlockedByRows sizes rows q → IsBlockedByRows sizes rows (set q k (Some v))
blocked-set sizes rows q k v e b a w t h = b a w t (extends-set a q k v e h)

-- ---- rows that don't mention a subject

-- a value of a subject that a row doesn't mention, where there was none
pub row_unfalsified-other : (q : List (Option ℕ)) (row : List ℕ) (k v : ℕ) → get_or q k None ≡ None → mentions k row ≡ false → row_unfalsified (set q k (Some v)) row ≡ row_unfalsified q row
row_unfalsified-other [] row k v e m = refl
row_unfalsified-other (o ∷ q) [] zero v e m = refl
row_unfalsified-other (o ∷ q) [] (suc k) v e m = refl
row_unfalsified-other (o ∷ q) (s ∷ row) zero v e m =
    let none : o ≡ None = e in
    let zero_set : s ≡ 0 = eqb-true s 0 (not-false (eqb s 0) m) in
    let before : fits o s ≡ false = rw (none, zero_set) in
    ap (λ z. z || row_unfalsified q row) ((ap (λ z. has z v) zero_set ∙ has-empty v) ∙ sym before)
row_unfalsified-other (o ∷ q) (s ∷ row) (suc k) v e m = ap (λ z. fits o s || z) (row_unfalsified-other q row k v e m)

and_false : (a b c : Bool) → (a && b) ≡ false → (b ≡ false → c ≡ false) → (a && c) ≡ false
and_false true b c m f = f m
and_false false b c m f = refl

by_mention : (q : List (Option ℕ)) (r : List ℕ) (fs : List (List ℕ)) (b rest : Bool) → (b ≡ false → row_unfalsified q r ≡ true) → (row_unfalsified q r && rest) ≡ false
    → (rest ≡ false → all_unfalsified q fs ≡ false) → all_unfalsified q (cond b (r ∷ fs) fs) ≡ false
by_mention q r fs true rest f m ih = and_false (row_unfalsified q r) rest (all_unfalsified q fs) m ih
by_mention q r fs false rest f m ih = ih (ap (λ z. z && rest) (sym (f refl)) ∙ m)

-- if all rows are open and not with the value, one that mentions the subject is not
one_mentions : (q : List (Option ℕ)) (rows : List (List ℕ)) (k v : ℕ) → get_or q k None ≡ None → all_unfalsified q rows ≡ true
    → all_unfalsified (set q k (Some v)) rows ≡ false → all_unfalsified (set q k (Some v)) (filter (mentions k) rows) ≡ false
one_mentions q [] k v e h m = absurd (cc)
one_mentions q (r ∷ rows) k v e h m =
    let both = and_parts (row_unfalsified q r) (all_unfalsified q rows) h in
    by_mention (set q k (Some v)) r (filter (mentions k) rows) (mentions k r) (all_unfalsified (set q k (Some v)) rows)
    (λ n. row_unfalsified-other q r k v e n ∙ both.0) m (one_mentions q rows k v e both.1)

-- ---- one more subject

and_else : (a b : Bool) → (a ≡ true → b ≡ false) → (a && b) ≡ false
and_else true b f = f refl
and_else false b f = refl

and_same : (a b : Bool) → (a ≡ true → b ≡ true) → (a && b) ≡ a
and_same true b f = f refl
and_same false b f = refl

-- what `close` ensures
abbrev pub IsClosed : List ℕ → ℕ → List (List ℕ) → List (List ℕ) → Type 0
IsClosed sizes k rows more = (q : List (Option ℕ)) → IsWithin sizes q
    → all_unfalsified q more ≡ (all_unfalsified q rows && any_below (get_or sizes k 0) (λ v. all_unfalsified (set q k (Some v)) (filter (mentions k) rows)))

pub complete_step : (sizes : List ℕ) (first rows more : List (List ℕ)) (k : ℕ) → k < length sizes → IsClosed sizes k rows more
    → ((q : List (Option ℕ)) → IsWithin sizes q → HasFrom k q → IsBlockedByRows sizes first q → all_unfalsified q rows ≡ false)
    → (q : List (Option ℕ)) → IsWithin sizes q → HasFrom (suc k) q → IsBlockedByRows sizes first q → all_unfalsified q more ≡ false
complete_step sizes first rows more k h closed was q w f b =
    let l : k < length q = rw (length-within sizes q w) h in
    let rest = any_below (get_or sizes k 0) (λ v. all_unfalsified (set q k (Some v)) (filter (mentions k) rows)) in
    closed q w ∙ elim (has_or_lacks k q l f) [
      | inl from ↦ ap (λ z. z && rest) (was q w from b)
      | inr e ↦ and_else (all_unfalsified q rows) rest (λ o. none_below (get_or sizes k 0) (λ v. all_unfalsified (set q k (Some v)) (filter (mentions k) rows))
          (λ v m. one_mentions q rows k v e o (was (set q k (Some v)) (within-set sizes q k v w m) (has_from-set q k v f) (blocked-set sizes first q k v e b))))
    ]

-- the value of a subject, set again
total_at : (sizes : List ℕ) (a : List (Option ℕ)) (k : ℕ) → IsWithin sizes a → IsTotal a → k < length sizes → (v : ℕ) × (v < get_or sizes k 0) × (set a k (Some v) ≡ a)
total_at [] a k w t h = absurd (omega arith)
total_at (n ∷ sizes) [] k w t h = absurd w
total_at (n ∷ sizes) (None ∷ a) zero w t h = absurd (cc)
total_at (n ∷ sizes) (Some v ∷ a) zero w t h = (v, w.0, refl)
total_at (n ∷ sizes) (o ∷ a) (suc k) w t h =
    let l : k < length sizes = omega arith in let r = total_at sizes a k w.1 t.1 l in (r.0, r.1, ap (λ z. o ∷ z) r.2)

pub same_step : (sizes : List ℕ) (rows more : List (List ℕ)) (k : ℕ) → k < length sizes → IsClosed sizes k rows more
    → (a : List (Option ℕ)) → IsWithin sizes a → IsTotal a → all_unfalsified a more ≡ all_unfalsified a rows
same_step sizes rows more k h closed a w t =
    let r = total_at sizes a k w t h in
    closed a w ∙ and_same (all_unfalsified a rows) _ (λ o. some_below (get_or sizes k 0) (λ v. all_unfalsified (set a k (Some v)) (filter (mentions k) rows)) r.0 r.1
    (ap (λ z. all_unfalsified z (filter (mentions k) rows)) r.2 ∙ list_all-filter (row_unfalsified a) (mentions k) rows o))

pub from_end : (q : List (Option ℕ)) (n : ℕ) → length q ≤ n → HasFrom n q
from_end [] n h = tt
from_end (o ∷ q) zero h = absurd (omega arith)
from_end (o ∷ q) (suc n) h = let l : length q ≤ n = omega arith in from_end q n l

-- ---- what follows

not_empty : (s v : ℕ) (b : Bool) → eqb s 0 ≡ b → has s v ≡ true → not b ≡ true
not_empty s v true e h = let none : has s v ≡ false = ap (λ z. has z v) (eqb-true s 0 e) ∙ has-empty v in cc
not_empty s v false e h = refl

pub fits_wider : (o p : Option ℕ) (s : ℕ) → CoversAt o p → fits o s ≡ true → fits p s ≡ true
fits_wider o (Some v) s e h = ap (λ z. fits z s) (sym e) ∙ h
fits_wider None None s e h = h
fits_wider (Some v) None s e h = not_empty s v (eqb s 0) refl h

row_unfalsified_wider : (a q : List (Option ℕ)) (row : List ℕ) → Covers a q → row_unfalsified a row ≡ true → row_unfalsified q row ≡ true
row_unfalsified_wider [] [] row x h = h
row_unfalsified_wider [] (p ∷ q) row x h = absurd x
row_unfalsified_wider (o ∷ a) [] row x h = absurd x
row_unfalsified_wider (o ∷ a) (p ∷ q) [] x h = h
row_unfalsified_wider (o ∷ a) (p ∷ q) (s ∷ row) x h = either_so (fits o s) (row_unfalsified a row) (fits p s) (row_unfalsified q row) (fits_wider o p s x.0) (row_unfalsified_wider a q row x.1) h

pub all_unfalsified_wider : (a q : List (Option ℕ)) (rows : List (List ℕ)) → Covers a q → all_unfalsified a rows ≡ true → all_unfalsified q rows ≡ true
all_unfalsified_wider a q rows x = all_pass_too (row_unfalsified a) (row_unfalsified q) (λ r. row_unfalsified_wider a q r x) rows

pub false_if : (a b : Bool) → (a ≡ true → b ≡ true) → b ≡ false → a ≡ false
false_if true b f e = let t = f refl in cc
false_if false b f e = refl

-- a cube that makes a row false is blocked
pub blocked_if : (sizes : List ℕ) (first rows : List (List ℕ)) (q : List (Option ℕ))
    → ((a : List (Option ℕ)) → IsWithin sizes a → IsTotal a → all_unfalsified a rows ≡ all_unfalsified a first)
    → all_unfalsified q rows ≡ false → IsBlockedByRows sizes first q
blocked_if sizes first rows q same e a w t x = sym (same a w t) ∙ false_if (all_unfalsified a rows) (all_unfalsified q rows) (all_unfalsified_wider a q rows x) e
