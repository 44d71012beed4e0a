-- States and worlds, and what is true in them.
use Rattle.std.specs.Prelude.{◌≡◌, ℕ, ◌<◌, IsTrue, List, length, map, slice_get, slice_index, Some, All}
use Rattle.cca_base.specs.declared.formula.Formula.{Formula}
use Rattle.cca_base.specs.declared.cube.Pair.{Pair}
use Rattle.cca_base.specs.PlantModel.{PlantModel}
use Rattle.cca_base.specs.Formula.{truth}
use Rattle.cca_base.specs.Model.{HasMode, value_counts}

-- a mode for each component
pub record IsState (m : PlantModel) (s : List ℕ) : Type 0 where
  pub full : length s ≡ length m.components
  pub modes : (c : ℕ) → c < length m.components → HasMode m c (slice_index s c)

-- the mode in which each component starts
abbrev pub start_modes : PlantModel → List ℕ
start_modes m = map (λ c. c.start) m.components

-- the list has each pair's value at the pair's place: a state extends a partial state, and a world what was observed
abbrev pub Extends : List ℕ → List Pair → Type 0
Extends values pairs = All (λ p. slice_get values p.item ≡ Some p.value) pairs

-- the variable has the value
abbrev pub HasValue : PlantModel → ℕ → ℕ → Type 0
HasValue m v value = value < slice_index (value_counts m) v

-- a value for each variable, with which every rule is true in the state
pub record IsWorld (m : PlantModel) (s w : List ℕ) : Type 0 where
  pub full : length w ≡ length m.variables
  pub values : (v : ℕ) → v < length m.variables → HasValue m v (slice_index w v)
  pub rules : All (λ rule. IsTrue (truth s w rule)) m.rules

-- the state has a world
abbrev pub HasWorld : PlantModel → List ℕ → Type 0
HasWorld m s = (w : List ℕ) × IsWorld m s w

-- every state has a world
abbrev pub HasWorlds : PlantModel → Type 0
HasWorlds m = (s : List ℕ) → IsState m s → HasWorld m s

-- the formula is true in every world of the state
abbrev pub Holds : PlantModel → List ℕ → Formula → Type 0
Holds m s f = (w : List ℕ) → IsWorld m s w → IsTrue (truth s w f)

-- the formula is true in every world of every state that extends the pairs
abbrev pub Follows : PlantModel → List Pair → Formula → Type 0
Follows m pairs f = (s : List ℕ) → IsState m s → Extends s pairs → Holds m s f
