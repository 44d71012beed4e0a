-- States that no world fits.
use Rattle.std.specs.Prelude.{ℕ, List, Option, Some, None}
use Rattle.cca_base.specs.declared.cube.Pair.{Pair}
use Rattle.cca_base.specs.PlantModel.{PlantModel}
use Rattle.cca_base.specs.Shown.{IsShownClash}
use Rattle.cca_base.specs.State.{IsState, HasWorld, HasWorlds}
use Rattle.cca_base.specs.Estimates.{IsEarlier}

-- the first state in mode order that has no world
pub record IsFirstWorldless (m : PlantModel) (s : List ℕ) : Type 0 where
  pub state : IsState m s
  pub worldless : HasWorld m s → ⊥
  pub first : (t : List ℕ) → IsState m t → (HasWorld m t → ⊥) → IsEarlier t s → ⊥

-- the first state that has no world, or none where every state has one
abbrev pub IsFirstWorldlessOrNone : PlantModel → Option (List ℕ) → Type 0
IsFirstWorldlessOrNone m None = HasWorlds m
IsFirstWorldlessOrNone m (Some s) = IsFirstWorldless m s

-- the shown clash, or none where every state has a world
abbrev pub IsClashOrNone : PlantModel → Option (List Pair) → Type 0
IsClashOrNone m None = HasWorlds m
IsClashOrNone m (Some cube) = IsShownClash m cube
