-- What is pending, and what the worlds of the plant's state agree on of the mirrored variables, are what a tick observes.
use Rattle.std.proofs.Common.{◌≡◌, ◌≢◌, ◌+◌, ◌<◌, ◌≤◌, ◌++◌, ◌∙◌, ℕ, true, false, eqb, List, length, map, get_or, All, Contains, inl, inr, sym, subst, arith, length-append}
use Rattle.std.specs.List.{IsDistinct}
use Rattle.std.proofs.lemmas.Bool.{both_ways, ne_eqb}
use Rattle.std.proofs.lemmas.List.{get_or-map, length-map}
use Rattle.std.proofs.lemmas.List.Elements.{All-contains, All-map, Contains-append_cases}
use Rattle.std.proofs.lemmas.Map.Keys.{IsDistinct-from_apart}
use Rattle.list_laws.proofs.Members.{all_from}
use Rattle.cca_base.specs.declared.cube.Pair.{Pair}
use Rattle.cca_base.specs.PlantModel.{PlantModel}
use Rattle.cca_base.specs.Cube.{IsCube, IsRising, IsUnion, Lacks}
use Rattle.cca_base.specs.Sets.{has}
use Rattle.cca_base.specs.State.{HasValue}
use Rattle.cca_base.proofs.CubeLaws.{both_cube, rising_once}
use Rattle.cca_base.proofs.NextModes.{few_below}
use Rattle.cca_base.proofs.Within.{value_within}
use Rattle.consistency.specs.Forced.{AreForced, AreShown}
use Rattle.consistency.specs.Observed.{IsObserved}

-- what the worlds agree on of the mirrored variables names none that is pending
pub forced_new : (m : PlantModel) (s : List ℕ) (mirrored : ℕ) (pending forced : List Pair) → All (λ p. has mirrored p.item ≡ false) pending → AreForced m s mirrored forced
    → All (λ p. Lacks p.item pending) forced
forced_new m s mirrored pending forced unmirrored h = all_from (λ p. Lacks p.item pending) forced (λ p among. all_from (λ q. q.item ≢ p.item) pending (λ q there same.
    both_ways (has mirrored q.item) (All-contains (λ r. has mirrored r.item ≡ false) pending q unmirrored there)
    (subst (λ v. has mirrored v ≡ true) (sym same) ((h.each p).0 among).0)))

-- the pending pairs, and the pairs of the mirrored variables on which the worlds agree
pub observed : (m : PlantModel) (plant : List ℕ) (mirrored : ℕ) (pending forced both : List Pair) → AreForced m plant mirrored forced
    → IsUnion (Contains pending) (Contains forced) both → IsObserved m plant mirrored pending both
observed m plant mirrored pending forced both h union = record {
  rising = union.rising;
  each = λ p. (
    (λ among. elim ((union.each p).0 among) [ inl before ↦ inl before | inr one ↦ inr ((h.each p).0 one) ]),
    (λ either. (union.each p).1 (elim either [ inl before ↦ inl before | inr one ↦ inr ((h.each p).1 one) ])),
  );
}

-- all that are observed are values of the model
pub observed_values : (m : PlantModel) (pending forced both : List Pair) → All (λ p. HasValue m p.item p.value) pending → All (λ p. HasValue m p.item p.value) forced
    → IsUnion (Contains pending) (Contains forced) both → All (λ p. HasValue m p.item p.value) both
observed_values m pending forced both old new union = all_from (λ p. HasValue m p.item p.value) both (λ p among. elim ((union.each p).0 among) [
  | inl before ↦ All-contains (λ q. HasValue m q.item q.value) pending p old before
  | inr one ↦ All-contains (λ q. HasValue m q.item q.value) forced p new one
])

-- pairs of different variables of n are at most n
pub cube_few : (n : ℕ) (pairs : List Pair) → IsCube pairs → All (λ p. p.item < n) pairs → length pairs ≤ n
cube_few n pairs cube inside =
    let item : Pair → ℕ = λ p. p.item in
    let items : List ℕ = map item pairs in
    let long : length items ≡ length pairs = length-map pairs item in
    let distinct : IsDistinct eqb items = IsDistinct-from_apart eqb items (λ i j d before within.
    let at : Pair = record { item = d; value = 0 } in
    let last : j < length pairs = omega (arith, within, long) in
    let first : i < length pairs = omega (arith, before, last) in
    ne_eqb (get_or items i d) (get_or items j d) (λ same. cube i j at before last (sym (get_or-map item pairs i at d first) ∙ same ∙ get_or-map item pairs j at d last))) in
    omega (arith, long, few_below n items distinct (λ x h. All-contains (λ k. k < n) items x (All-map (λ (k : ℕ). k < n) item pairs inside) h))

-- what is pending and what is shown are together no more pairs than there are variables
pub observed_few : (m : PlantModel) (s : List ℕ) (mirrored : ℕ) (pending shown : List Pair) → IsRising pending → All (λ p. has mirrored p.item ≡ false) pending
    → All (λ p. HasValue m p.item p.value) pending → AreShown m s mirrored shown → length pending + length shown ≤ length m.variables
observed_few m s mirrored pending shown rising unmirrored values h =
    let cube = both_cube pending shown (rising_once pending rising) (rising_once shown h.forced.rising) (forced_new m s mirrored pending shown unmirrored h.forced) in
    let inside = all_from (λ (p : Pair). p.item < length m.variables) (pending ++ shown) (λ p among. elim (Contains-append_cases pending shown p among) [
      | inl before ↦ value_within m p.item p.value (All-contains (λ (q : Pair). HasValue m q.item q.value) pending p values before)
      | inr one ↦ value_within m p.item p.value (All-contains (λ (q : Pair). HasValue m q.item q.value) shown p h.values one)
    ]) in
    omega (arith, cube_few (length m.variables) (pending ++ shown) cube inside, length-append pending shown)
