-- Keys in a set.
use Rattle.prime_implicants.specs.Found.{key_from}
use Rattle.std.proofs.Common.{◌≡◌, ℕ, Bool, true, false, ◌&&◌, List, [], ◌∷◌, refl, sym, ◌∙◌, ap, suc, ◌+◌, ◌++◌, ◌<◌, length, take, get_or, Option, Some, None, arith, length-take-le}
use Rattle.std.proofs.lemmas.List.{take_more}
use Rattle.std.specs.List.{list_all}
use Rattle.std.specs.BTreeSet.{insert_key}
use Rattle.std.specs.Ordering.{match_ordering}
use Rattle.std.specs.declared.cmp.Ordering.{Ordering}
use Rattle.std.specs.declared.cmp.Ordering.TheVariants.{Less, Equal, Greater}
use mathlib.Core.Bool.{and_comm, and-true}

same_and : (a b c : Bool) → a ≡ c → (a && b) ≡ ((a && b) && c)
same_and true b c e = sym (ap (λ z. b && z) (sym e) ∙ and-true b)
same_and false b c e = refl

swap_and : (a b c r : Bool) → r ≡ (b && c) → (a && r) ≡ ((a && b) && c)
swap_and true b c r e = e
swap_and false b c r e = refl

by_case : {K : Type 0} (t : K → Bool) (x k : K) (xs rest : List K) (o : Ordering) → (o ≡ Equal → t x ≡ t k) → list_all t rest ≡ (list_all t xs && t k)
    → list_all t (match_ordering o (k ∷ x ∷ xs) (x ∷ xs) (x ∷ rest)) ≡ ((t x && list_all t xs) && t k)
by_case t x k xs rest Less e h = and_comm (t k) (t x && list_all t xs)
by_case t x k xs rest Equal e h = same_and (t x) (list_all t xs) (t k) (e refl)
by_case t x k xs rest Greater e h = swap_and (t x) (list_all t xs) (t k) (list_all t rest) h

pub list_all-insert_key : {K : Type 0} (cmp : K → K → Ordering) (t : K → Bool) → ((a b : K) → cmp a b ≡ Equal → t b ≡ t a) → (xs : List K) (k : K)
    → list_all t (insert_key cmp xs k) ≡ (list_all t xs && t k)
list_all-insert_key cmp t e [] k = and-true (t k)
list_all-insert_key cmp t e (x ∷ xs) k = by_case t x k xs (insert_key cmp xs k) (cmp k x) (e k x) (list_all-insert_key cmp t e xs k)

-- ---- the key of a partial value

key_from-push : (k : ℕ) (q : List (Option ℕ)) (o : Option ℕ) → key_from k (q ++ o ∷ []) ≡ key_from k q ++ key_from (k + length q) (o ∷ [])
key_from-push k [] o = ap (λ n. key_from n (o ∷ [])) (omega arith)
key_from-push k (None ∷ q) o = key_from-push (suc k) q o ∙ ap (λ n. key_from (suc k) q ++ key_from n (o ∷ [])) (omega arith)
key_from-push k (Some v ∷ q) o =
    ap (λ z. k ∷ v ∷ z) (key_from-push (suc k) q o ∙ ap (λ n. key_from (suc k) q ++ key_from n (o ∷ [])) (omega arith))

pub key_step : (q : List (Option ℕ)) (i : ℕ) → i < length q → key_from 0 (take (i + 1) q) ≡ key_from 0 (take i q) ++ key_from i (get_or q i None ∷ [])
key_step q i h =
    let l : 0 + length (take i q) ≡ i = omega (arith, length-take-le i q (omega arith)) in
    ap (key_from 0) (take_more q i None h) ∙ key_from-push 0 (take i q) (get_or q i None) ∙ ap (λ n. key_from 0 (take i q) ++ key_from n (get_or q i None ∷ [])) l
