-- The estimate of a tick.
use Rattle.std.specs.Prelude.{◌≡◌, ℕ, ◌≤◌, List, Option}
use Rattle.std.specs.Ordering.{nat_cmp}
use Rattle.std.specs.Cmp.Lexicographic.{slice_cmp}
use Rattle.std.specs.declared.cmp.Ordering.TheVariants.{Less}
use Rattle.cca_base.specs.declared.cube.Pair.{Pair}
use Rattle.cca_base.specs.PlantModel.{PlantModel}
use Rattle.cca_base.specs.State.{IsWorld, Extends}
use Rattle.cca_base.specs.Successors.{Costs}

-- the state has this cost as a successor, and a world of it agrees with what is seen
pub record Consistent (m : PlantModel) (s : List ℕ) (k : Option ℕ) (seen : List Pair) (s2 : List ℕ) (cost : ℕ) : Type 0 where
  pub costs : Costs m s k s2 cost
  pub world : List ℕ
  pub is_world : IsWorld m s2 world
  pub agrees : Extends world seen

-- of two states, or of two worlds, the one whose first different number is less
abbrev pub IsEarlier : List ℕ → List ℕ → Type 0
IsEarlier a b = slice_cmp nat_cmp a b ≡ Less

-- a consistent state; no consistent state costs less, and none of equal cost is earlier
pub record Estimate (m : PlantModel) (s : List ℕ) (k : Option ℕ) (seen : List Pair) (s2 : List ℕ) (cost : ℕ) : Type 0 where
  pub consistent : Consistent m s k seen s2 cost
  pub least : (other : List ℕ) (more : ℕ) → Consistent m s k seen other more → cost ≤ more
  pub first : (other : List ℕ) → Consistent m s k seen other cost → IsEarlier other s2 → ⊥

-- no state is consistent
abbrev pub Unexplained : PlantModel → List ℕ → Option ℕ → List Pair → Type 0
Unexplained m s k seen = (other : List ℕ) (cost : ℕ) → Consistent m s k seen other cost → ⊥
