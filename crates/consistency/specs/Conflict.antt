-- What a conflict is, without how it is found.
use Rattle.std.specs.Prelude.{◌≡◌, ◌==◌, ℕ, not, List, filter, Contains}
use Rattle.cca_base.specs.declared.cube.Pair.{Pair}
use Rattle.cca_base.specs.PlantModel.{PlantModel}
use Rattle.cca_base.specs.Cube.{IsPart}
use Rattle.cca_base.specs.Repairs.{pairs_of}
use Rattle.cca_base.specs.Shown.{Clash, IsConflict}
use Rattle.cca_base.specs.State.{IsState}

-- the pairs that are not of this pair's component
abbrev pub without : Pair → List Pair → List Pair
without p pairs = filter (λ q. not (q.item == p.item)) pairs

-- a part of the state that no state with such a world extends, while some such state extends what is left without any one of its pairs
pub record IsMinimalClash (m : PlantModel) (s : List ℕ) (seen cube : List Pair) : Type 0 where
  pub part : IsPart cube (pairs_of s)
  pub clash : Clash m seen cube
  pub minimal : (p : Pair) → Contains cube p → Clash m seen (without p cube) → ⊥

-- what is shown of a state that no such world fits is a minimal clash
abbrev pub ConflictsAreMinimal : Type 0
ConflictsAreMinimal = (m : PlantModel) (s : List ℕ) (seen cube : List Pair) → IsState m s → IsConflict m s seen cube → IsMinimalClash m s seen cube

-- there is one conflict of a state
abbrev pub ThereIsOneConflict : Type 0
ThereIsOneConflict = (m : PlantModel) (s : List ℕ) (seen a b : List Pair) → IsConflict m s seen a → IsConflict m s seen b → a ≡ b
