-- What is pending, and observations that may come, are no more pairs than there are variables.
use Rattle.std.proofs.Common.{◌<◌, ◌≤◌, ◌+◌, ◌++◌, ℕ, List, length, All, Contains, inl, inr, arith, length-append}
use Rattle.std.proofs.lemmas.List.Elements.{All-contains, All-weaker, Contains-append_cases}
use Rattle.list_laws.proofs.Members.{all_from}
use Rattle.cca_base.specs.declared.cube.Pair.{Pair}
use Rattle.cca_base.specs.Cube.{Lacks}
use Rattle.cca_base.specs.PlantModel.{PlantModel}
use Rattle.cca_base.specs.State.{HasValue}
use Rattle.cca_base.specs.Trace.{MayBeObserved, MayBeSeen}
use Rattle.cca_base.proofs.CubeLaws.{both_cube, rising_once}
use Rattle.cca_base.proofs.Within.{value_within}
use Rattle.consistency.proofs.ObservedPairs.{cube_few}
use Rattle.cca_base.specs.Cube.{IsRising}

pub joined_few : (m : PlantModel) (mirrored : ℕ) (pending pairs : List Pair) → IsRising pending → All (λ p. HasValue m p.item p.value) pending → MayBeObserved m pending mirrored pairs
    → length pending + length pairs ≤ length m.variables
joined_few m mirrored pending pairs rising values may =
    let new : All (λ p. Lacks p.item pending) pairs = All-weaker (λ p. MayBeSeen m pending mirrored p.item) (λ p. Lacks p.item pending) (λ p h. h.new) pairs may.seen in
    let cube = both_cube pending pairs (rising_once pending rising) may.cube new in
    let inside = all_from (λ (p : Pair). p.item < length m.variables) (pending ++ pairs) (λ p among. elim (Contains-append_cases pending pairs p among) [
      | inl before ↦ value_within m p.item p.value (All-contains (λ (q : Pair). HasValue m q.item q.value) pending p values before)
      | inr one ↦ value_within m p.item p.value (All-contains (λ (q : Pair). HasValue m q.item q.value) pairs p may.values one)
    ]) in
    omega (arith, cube_few (length m.variables) (pending ++ pairs) cube inside, length-append pending pairs)
