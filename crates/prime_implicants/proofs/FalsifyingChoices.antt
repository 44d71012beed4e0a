-- Choices of values that make a row false.
use Rattle.prime_implicants.specs.Partial.{IsWithin}
use Rattle.prime_implicants.specs.DenseClauses.{fits, row_unfalsified, all_unfalsified, is_zero}
use Rattle.prime_implicants.specs.Found.{AreComplete, CoversAt, Covers, all_below, is_needed, IsFoundable, AgreesTo, IsChoice, IsChoiceFrom, IsPrimeByRows, Key, key_of}
use Rattle.std.proofs.Common.{◌≡◌, ℕ, zero, suc, ◌+◌, ◌<◌, ◌≤◌, ◌≢◌, Bool, true, false, ◌&&◌, ◌||◌, eqb, List, [], ◌∷◌, length, Option, Some, None, refl, sym, ◌∙◌, ap, subst, arith, set, get_or, ◌⊎◌, inl, inr, get_or-set_other, get_or-set_same, replicate}
use Rattle.std.specs.List.{list_all}
use Rattle.std.specs.Option.{is_none}
use Rattle.std.specs.Prelude.{MatchOption}
use Rattle.prime_implicants.proofs.DenseClauseLaws.{length-within}
use Rattle.cca_base.specs.Sets.{has}
use Rattle.prime_implicants.proofs.PartialValueLaws.{within_nothing}
use Rattle.prime_implicants.proofs.Completeness.{all_unfalsified_wider, false_if, blocked_if, extends_self}
use Rattle.std.proofs.lemmas.List.Folds.{list_all_at}
use Rattle.std.proofs.lemmas.Bool.{cases_Bool, not-false, or_parts, and_parts, eqb-true}
use Rattle.std.proofs.lemmas.List.{ext_get_or}

pub passes_below : (n : ℕ) (t : ℕ → Bool) (i : ℕ) → i < n → all_below n t ≡ true → t i ≡ true
passes_below zero t i h e = absurd (omega arith)
passes_below (suc n) t i h e =
    let both = and_parts (all_below n t) (t n) e in
    let P : ℕ → Type 0 = λ z. t z ≡ true in
    let cases : (i < n) ⊎ (i ≡ n) = grind arith in
    elim cases [ inl l ↦ passes_below n t i l both.0 | inr same ↦ subst P (sym same) both.1 ]

pub fails_below : (n : ℕ) (t : ℕ → Bool) (i : ℕ) → i < n → t i ≡ false → all_below n t ≡ false
fails_below n t i h e = elim (cases_Bool (all_below n t)) [ inl all ↦ (let passes = passes_below n t i h all in absurd (cc)) | inr fails ↦ fails ]

-- ---- a refuted part of a minimal one is the whole

-- what extends a part that has no value at i still does without its own
extends_without : (p q : List (Option ℕ)) (i : ℕ) → Covers p q → get_or q i None ≡ None → Covers (set p i None) q
extends_without [] [] i x e = tt
extends_without [] (o ∷ q) i x e = absurd x
extends_without (o ∷ p) [] i x e = absurd x
extends_without (o ∷ p) (s ∷ q) zero x e = (subst (CoversAt None) (sym e) tt, x.1)
extends_without (o ∷ p) (s ∷ q) (suc i) x e = (x.0, extends_without p q i x.1 e)

extends_at : (p q : List (Option ℕ)) (i : ℕ) → Covers p q → CoversAt (get_or p i None) (get_or q i None)
extends_at [] [] i x = tt
extends_at [] (o ∷ q) i x = absurd x
extends_at (o ∷ p) [] i x = absurd x
extends_at (o ∷ p) (s ∷ q) zero x = x.0
extends_at (o ∷ p) (s ∷ q) (suc i) x = extends_at p q i x.1

same_at : (a b : Option ℕ) (free : Bool) → CoversAt a b → (b ≡ None → (is_none a || free) ≡ true) → (b ≡ None → free ≡ false) → a ≡ b
same_at a (Some v) free x n f = x
same_at None None free x n f = refl
same_at (Some w) None free x n f = let yes = n refl in let no = f refl in cc

pub same_length : (p q : List (Option ℕ)) → Covers p q → length p ≡ length q
same_length [] [] x = refl
same_length [] (o ∷ q) x = absurd x
same_length (o ∷ p) [] x = absurd x
same_length (o ∷ p) (s ∷ q) x = ap suc (same_length p q x.1)

part_is_whole : (rows : List (List ℕ)) (p q : List (Option ℕ)) → Covers p q → all_unfalsified q rows ≡ false → all_below (length p) (is_needed rows p) ≡ true → p ≡ q
part_is_whole rows p q x blocked minimal =
    ext_get_or None p q (same_length p q x) (λ i h. same_at (get_or p i None) (get_or q i None) (all_unfalsified (set p i None) rows) (extends_at p q i x)
    (λ e. passes_below (length p) (is_needed rows p) i h minimal)
    (λ e. false_if (all_unfalsified (set p i None) rows) (all_unfalsified q rows) (all_unfalsified_wider (set p i None) q rows (extends_without p q i x e)) blocked))

extends_same : (o : Option ℕ) → CoversAt o o
extends_same None = tt
extends_same (Some v) = refl

-- what agrees with q up to where q has no more values extends it
agrees_extends : (at : ℕ) (p q : List (Option ℕ)) → length p ≡ length q → AgreesTo at q p → ((i : ℕ) → at ≤ i → i < length q → get_or q i None ≡ None) → Covers p q
agrees_extends at [] [] e a f = tt
agrees_extends at [] (o ∷ q) e a f = absurd (omega arith)
agrees_extends at (o ∷ p) [] e a f = absurd (omega arith)
agrees_extends zero (o ∷ p) (s ∷ q) e a f =
    let l : length p ≡ length q = omega arith in
    (subst (CoversAt o) (sym (f 0 (omega arith) (omega arith))) tt, agrees_extends zero p q l (λ i h. absurd (omega arith)) (λ i h k. f (suc i) (omega arith) (omega arith)))
agrees_extends (suc at) (o ∷ p) (s ∷ q) e a f =
    let l : length p ≡ length q = omega arith in
    let first : o ≡ s = a 0 (omega arith) in
    (subst (CoversAt o) first (extends_same o), agrees_extends at p q l (λ i h. a (suc i) (omega arith)) (λ i h k. f (suc i) (omega arith) (omega arith)))

-- ---- the cases of `choose`

whole : (sizes : List ℕ) (rows : List (List ℕ)) (at : ℕ) (p q : List (Option ℕ)) → IsWithin sizes q → IsFoundable sizes rows p → AgreesTo at q p
    → ((i : ℕ) → at ≤ i → i < length q → get_or q i None ≡ None) → all_unfalsified q rows ≡ false → p ≡ q
whole sizes rows at p q w f a free blocked =
    let long : length p ≡ length q = length-within sizes p f.within ∙ sym (length-within sizes q w) in
    part_is_whole rows p q (agrees_extends at p q long a free) blocked f.minimal

pub whole_found : (sizes : List ℕ) (rows : List (List ℕ)) (at : ℕ) (p q : List (Option ℕ)) → IsWithin sizes q → IsFoundable sizes rows p → AgreesTo at q p
    → ((i : ℕ) → at ≤ i → i < length q → get_or q i None ≡ None) → all_unfalsified q rows ≡ false
    → (t : Key → Bool) → (all_below (length q) (is_needed rows q) ≡ true → t (key_of q) ≡ true) → t (key_of p) ≡ true
whole_found sizes rows at p q w f a free blocked t there =
    let same : p ≡ q = whole sizes rows at p q w f a free blocked in
    ap (λ z. t (key_of z)) same ∙ there (subst (λ z. all_below (length z) (is_needed rows z) ≡ true) same f.minimal)

pub ended : (sizes : List ℕ) (rows : List (List ℕ)) (at : ℕ) (p q : List (Option ℕ)) → IsWithin sizes q → IsFoundable sizes rows p → length q ≤ at → AgreesTo at q p
    → all_unfalsified q rows ≡ true → ⊥
ended sizes rows at p q w f l a o =
    let long : length p ≡ length q = length-within sizes p f.within ∙ sym (length-within sizes q w) in
    let same : p ≡ q = ext_get_or None p q long (λ i h. a i (omega arith)) in
    let no : all_unfalsified q rows ≡ false = subst (λ z. all_unfalsified z rows ≡ false) same f.refuted in cc

no_choice : (o : Option ℕ) (s : ℕ) → s ≡ 0 → IsChoice o s → o ≡ None
no_choice None s e c = refl
no_choice (Some v) s e c = absurd (c.0 e)

-- p has no value of the subjects that the row doesn't name, as q
pub agrees_to_next : (at x : ℕ) (row : List ℕ) (p q : List (Option ℕ)) → x ≤ length p → length p ≡ length q → ((i : ℕ) → at ≤ i → i < x → is_zero i row ≡ true)
    → ((i : ℕ) → at ≤ i → i < length q → get_or q i None ≡ None) → AgreesTo at q p → IsChoiceFrom at row p → AgreesTo x q p
agrees_to_next at x row p q h long unnamed free a c i l =
    let cases : (i < at) ⊎ (at ≤ i) = grind arith in
    elim cases [
      | inl k ↦ a i k
      | inr k ↦ no_choice (get_or p i None) (get_or row i 0) (eqb-true (get_or row i 0) 0 (unnamed i k l)) (c i k (omega arith)) ∙ sym (free i k (omega arith))
    ]

pub later : (at x : ℕ) (row : List ℕ) (p : List (Option ℕ)) → at ≤ x → IsChoiceFrom at row p → IsChoiceFrom x row p
later at x row p h c i k l = c i (omega arith) l

-- a choice from a set that has members
pub chosen : (o : Option ℕ) (s : ℕ) → s ≢ 0 → IsChoice o s → (v : ℕ) × (o ≡ Some v) × (has s v ≡ false)
chosen None s n c = absurd (n c)
chosen (Some v) s n c = (v, refl, c.1)

within_some : (o : Option ℕ) (n v : ℕ) → MatchOption o (Unit {0}) (λ w. w < n) → o ≡ Some v → v < n
within_some o n v m e = let P : Option ℕ → Type 0 = λ z. MatchOption z (Unit {0}) (λ w. w < n) in subst P e m

pub below_size : (sizes : List ℕ) (p : List (Option ℕ)) (i v : ℕ) → IsWithin sizes p → get_or p i None ≡ Some v → v < get_or sizes i 0
below_size [] [] i v w e = absurd (cc)
below_size [] (o ∷ p) i v w e = absurd w
below_size (n ∷ sizes) [] i v w e = absurd w
below_size (n ∷ sizes) (o ∷ p) zero v w e = within_some o n v w.0 e
below_size (n ∷ sizes) (o ∷ p) (suc i) v w e = below_size sizes p i v w.1 e

-- with the value at the subject, the two agree up to the next
pub agree_set : (at v : ℕ) (p q : List (Option ℕ)) → at < length q → AgreesTo at q p → get_or p at None ≡ Some v → AgreesTo (at + 1) (set q at (Some v)) p
agree_set at v p q l a e i h =
    let cases : (i < at) ⊎ (i ≡ at) = grind arith in
    elim cases [
      | inl k ↦ a i k ∙ sym (get_or-set_other q at i (Some v) None (λ s. absurd (omega arith)))
      | inr s ↦ subst (λ z. get_or p z None ≡ get_or (set q at (Some v)) z None) (sym s) (e ∙ sym (get_or-set_same q at (Some v) None l))
    ]

pub free_set : (at v : ℕ) (q : List (Option ℕ)) → ((i : ℕ) → at ≤ i → i < length q → get_or q i None ≡ None)
    → (i : ℕ) → at + 1 ≤ i → i < length q → get_or (set q at (Some v)) i None ≡ None
free_set at v q free i h k = get_or-set_other q at i (Some v) None (λ s. absurd (omega arith)) ∙ free i (omega arith) k

pub set_none : (at v : ℕ) (q : List (Option ℕ)) → get_or q at None ≡ None → set (set q at (Some v)) at None ≡ q
set_none at v [] e = refl
set_none zero v (o ∷ q) e = ap (λ z. z ∷ q) (sym e)
set_none (suc at) v (o ∷ q) e = ap (λ z. o ∷ z) (set_none at v q e)

-- ---- from a row that is false to a choice of it

pub nothing_within : (sizes : List ℕ) (q : List (Option ℕ)) → q ≡ replicate (length sizes) None → IsWithin sizes q
nothing_within sizes q e = subst (IsWithin sizes) (sym e) (within_nothing sizes)

nothing_at : (n i : ℕ) → let none : List (Option ℕ) = replicate n None in get_or none i None ≡ None
nothing_at zero i = refl
nothing_at (suc n) zero = refl
nothing_at (suc n) (suc i) = nothing_at n i

pub nothing_free : (n : ℕ) (q : List (Option ℕ)) → q ≡ replicate n None → (i : ℕ) → 0 ≤ i → i < length q → get_or q i None ≡ None
nothing_free n q e i h k = ap (λ z. get_or z i None) e ∙ nothing_at n i

fits_at : (p : List (Option ℕ)) (r : List ℕ) (i : ℕ) → length r ≡ length p → i < length p → row_unfalsified p r ≡ false → fits (get_or p i None) (get_or r i 0) ≡ false
fits_at [] r i e h o = absurd (omega arith)
fits_at (s ∷ p) [] i e h o = absurd (omega arith)
fits_at (s ∷ p) (m ∷ r) zero e h o = (or_parts (fits s m) (row_unfalsified p r) o).0
fits_at (s ∷ p) (m ∷ r) (suc i) e h o =
    let l : length r ≡ length p = omega arith in let k : i < length p = omega arith in fits_at p r i l k (or_parts (fits s m) (row_unfalsified p r) o).1

pub row_unfalsified-drop : (p : List (Option ℕ)) (r : List ℕ) (i : ℕ) → get_or r i 0 ≡ 0 → row_unfalsified p r ≡ false → row_unfalsified (set p i None) r ≡ false
row_unfalsified-drop [] r i z o = o
row_unfalsified-drop (s ∷ p) [] zero z o = refl
row_unfalsified-drop (s ∷ p) [] (suc i) z o = refl
row_unfalsified-drop (s ∷ p) (m ∷ r) zero z o =
    let none : m ≡ 0 = z in let rest = (or_parts (fits s m) (row_unfalsified p r) o).1 in
    ap (λ b. b || row_unfalsified p r) (ap (λ t. fits None t) none) ∙ rest
row_unfalsified-drop (s ∷ p) (m ∷ r) (suc i) z o =
    let both = or_parts (fits s m) (row_unfalsified p r) o in
    ap (λ b. b || row_unfalsified (set p i None) r) both.0 ∙ row_unfalsified-drop p r i z both.1

choice_of : (o : Option ℕ) (s : ℕ) (free : Bool) → fits o s ≡ false → (is_none o || free) ≡ true → (s ≡ 0 → free ≡ false) → IsChoice o s
choice_of None s free f n d = eqb-true s 0 (not-false (eqb s 0) f)
choice_of (Some v) s free f n d = ((λ z. let no = d z in let yes : free ≡ true = n in absurd (cc)), f)

pub is_choice : (sizes : List ℕ) (rows : List (List ℕ)) (k : ℕ) (p : List (Option ℕ)) → k < length rows → length (get_or rows k []) ≡ length p → IsFoundable sizes rows p
    → row_unfalsified p (get_or rows k []) ≡ false → IsChoiceFrom 0 (get_or rows k []) p
is_choice sizes rows k p h e f o i z l =
    let r = get_or rows k [] in
    choice_of (get_or p i None) (get_or r i 0) (all_unfalsified (set p i None) rows) (fits_at p r i e l o) (passes_below (length p) (is_needed rows p) i l f.minimal)
    (λ none. list_all_at (row_unfalsified (set p i None)) rows k [] h (row_unfalsified-drop p r i none o))

find_case : {X : Type 0} (t : X → Bool) (x : X) (xs : List X) (d : X) (b : Bool) → t x ≡ b → (b && list_all t xs) ≡ false
    → (list_all t xs ≡ false → (k : ℕ) × (k < length xs) × (t (get_or xs k d) ≡ false)) → (k : ℕ) × (k < length (x ∷ xs)) × (t (get_or (x ∷ xs) k d) ≡ false)
find_case t x xs d true e h ih = let r = ih h in (suc r.0, omega (arith, r.1), r.2)
find_case t x xs d false e h ih = (0, omega arith, e)

pub find_false : {X : Type 0} (t : X → Bool) (xs : List X) (d : X) → list_all t xs ≡ false → (k : ℕ) × (k < length xs) × (t (get_or xs k d) ≡ false)
find_false t [] d e = absurd (cc)
find_false t (x ∷ xs) d e = find_case t x xs d (t x) refl e (find_false t xs d)

-- ---- what the tests find is what is prime

within_part : (sizes : List ℕ) (p q : List (Option ℕ)) → IsWithin sizes p → Covers p q → IsWithin sizes q
within_part [] [] [] w x = tt
within_part [] [] (o ∷ q) w x = absurd x
within_part [] (s ∷ p) q w x = absurd w
within_part (n ∷ sizes) [] q w x = absurd w
within_part (n ∷ sizes) (s ∷ p) [] w x = absurd x
within_part (n ∷ sizes) (s ∷ p) (None ∷ q) w x = (tt, within_part sizes p q w.1 x.1)
within_part (n ∷ sizes) (s ∷ p) (Some v ∷ q) w x = (subst (λ z. MatchOption z (Unit {0}) (λ u. u < n)) x.0 w.0, within_part sizes p q w.1 x.1)

pub prime_if : (sizes : List ℕ) (first rows : List (List ℕ)) (p : List (Option ℕ)) → AreComplete sizes first rows → IsFoundable sizes rows p → IsPrimeByRows sizes first p
prime_if sizes first rows p c f = record {
  within = f.within;
  blocked = blocked_if sizes first rows p c.same f.refuted;
  minimal = λ part x b. sym (part_is_whole rows p part x (c.complete part (within_part sizes p part f.within x) b) f.minimal);
}

below_all : (n : ℕ) (t : ℕ → Bool) → ((i : ℕ) → i < n → t i ≡ true) → all_below n t ≡ true
below_all zero t f = refl
below_all (suc n) t f = let a : all_below n t ≡ true = below_all n t (λ i h. f i (omega arith)) in let b : t n ≡ true = f n (omega arith) in rw (a, b)

part_without : (p : List (Option ℕ)) (i : ℕ) → Covers p (set p i None)
part_without [] i = tt
part_without (o ∷ p) zero = (tt, extends_self p)
part_without (o ∷ p) (suc i) = (extends_same o, part_without p i)

needed_case : (o : Option ℕ) (free : Bool) → (free ≡ false → o ≡ None) → (is_none o || free) ≡ true
needed_case None free f = refl
needed_case (Some v) true f = refl
needed_case (Some v) false f = let none = f refl in cc

pub found_if : (sizes : List ℕ) (first rows : List (List ℕ)) (p : List (Option ℕ)) → AreComplete sizes first rows → IsPrimeByRows sizes first p → IsFoundable sizes rows p
found_if sizes first rows p c f = record {
  within = f.within;
  refuted = c.complete p f.within f.blocked;
  minimal = below_all (length p) (is_needed rows p) (λ i h. needed_case (get_or p i None) (all_unfalsified (set p i None) rows)
      (λ e. let whole_again : set p i None ≡ p = f.minimal (set p i None) (part_without p i) (blocked_if sizes first rows (set p i None) c.same e) in
      sym (ap (λ z. get_or z i None) whole_again) ∙ get_or-set_same p i None None h));
}
