-- The minimal cubes that nothing meeting all clauses extends.
use Rattle.std.specs.Prelude.{ℕ, ◌<◌, ◌≤◌, ◌↔◌, IsTrue, List, All, Contains, length, slice_index}
use Rattle.cca_base.specs.declared.cube.Pair.{Pair}
use Rattle.cca_base.specs.Cube.{AreInCubeOrder, IsPart, IsRising}
use Rattle.cca_base.specs.State.{Extends}
use Rattle.clause_form.specs.declared.clause.Clauses.{Clauses}
use Rattle.clause_form.specs.Clauses.{AreValues, all_met}
use Rattle.prime_implicants.specs.Many.{AreMoreCubes}
use Rattle.prime_implicants.specs.declared.answer.Primes.{Primes}
use Rattle.prime_implicants.specs.declared.answer.Primes.TheVariants.{Every, More}

-- no values that meet all clauses extend the cube
abbrev pub IsBlocked : Clauses → List Pair → Type 0
IsBlocked clauses cube = (xs : List ℕ) → AreValues clauses.sizes xs → IsTrue (all_met xs clauses.clauses) → Extends xs cube → ⊥

-- a cube of subjects with values of theirs, rising, that is blocked, while no proper part of it is
pub record IsPrime (clauses : Clauses) (cube : List Pair) : Type 0 where
  pub rising : IsRising cube
  pub values : All (λ p. p.value < slice_index clauses.sizes p.item) cube
  pub blocked : IsBlocked clauses cube
  pub minimal : (part : List Pair) → IsPart part cube → IsBlocked clauses part → IsPart cube part

-- exactly the prime cubes, in cube order, and no more than that
pub record AreAllPrimes (clauses : Clauses) (most : ℕ) (cubes : List (List Pair)) : Type 0 where
  pub in_order : AreInCubeOrder cubes
  pub each : (cube : List Pair) → Contains cubes cube ↔ IsPrime clauses cube
  pub few : length cubes ≤ most

-- more than so many prime cubes
abbrev pub AreMorePrimes : Clauses → ℕ → Type 0
AreMorePrimes clauses most = AreMoreCubes most (IsPrime clauses)

-- a fact of the cubes, where they are answered
abbrev pub IfEvery : Primes → (List (List Pair) → Type 0) → Type 0
IfEvery (Every cubes) P = P cubes
IfEvery More P = Unit {0}

-- the answer is that there are more
abbrev pub IsMore : Primes → Type 0
IsMore (Every cubes) = ⊥
IsMore More = Unit {0}
