-- The pairs of a state.
use Rattle.std.proofs.Common.{◌≡◌, ◌+◌, ℕ, List, [], ◌∷◌, slice_get, Some, Contains, zero, suc, ap, subst, inl, inr, arith}
use Rattle.std.proofs.lemmas.Option.{same_Some, none-some}
use Rattle.list_laws.proofs.Members.{contains_cases, contains_here, contains_none, contains_there}
use Rattle.cca_base.specs.declared.cube.Pair.{Pair}
use Rattle.cca_base.specs.Repairs.{pairs_from, pairs_of}

to_pairs : (k : ℕ) (s : List ℕ) (i j x : ℕ) → j ≡ k + i → slice_get s i ≡ Some x → Contains (pairs_from k s) (record { item = j; value = x })
to_pairs k [] i j x e h = absurd (none-some x h)
to_pairs k (mode ∷ s) zero j x e h =
    let here : k ≡ j = omega arith in
    contains_here (record { item = k; value = mode }) (record { item = j; value = x }) (pairs_from (k + 1) s) (λ d. record { item = here d; value = same_Some mode x h d })
to_pairs k (mode ∷ s) (suc i) j x e h =
    contains_there (record { item = k; value = mode }) (record { item = j; value = x }) (pairs_from (k + 1) s) (to_pairs (k + 1) s i j x (omega arith) h)

pub from_pairs : (k : ℕ) (s : List ℕ) (p : Pair) → Contains (pairs_from k s) p → (i : ℕ) × (p.item ≡ k + i) × (slice_get s i ≡ Some p.value)
from_pairs k [] p among = absurd (contains_none p among)
from_pairs k (mode ∷ s) p among = elim (contains_cases (record { item = k; value = mode }) p (pairs_from (k + 1) s) among) [
  | inl e ↦ (zero, omega (arith, ap (λ q. q.item) e), ap (λ q. Some q.value) e)
  | inr there ↦ let rest = from_pairs (k + 1) s p there in (suc rest.0, omega (arith, rest.1), rest.2)
]

pub in_pairs : (s : List ℕ) (p : Pair) → slice_get s p.item ≡ Some p.value → Contains (pairs_of s) p
in_pairs s p h = to_pairs 0 s p.item p.item p.value (omega arith) h

pub stands_in : (s : List ℕ) (p : Pair) → Contains (pairs_of s) p → slice_get s p.item ≡ Some p.value
stands_in s p among =
    let found = from_pairs 0 s p among in
    let e : found.0 ≡ p.item = omega (arith, found.1) in
    subst (λ i. slice_get s i ≡ Some p.value) e found.2
