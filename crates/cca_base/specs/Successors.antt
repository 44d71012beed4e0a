-- What a state becomes under a command, and what a successor costs.
use Rattle.std.specs.Prelude.{◌≡◌, ◌≢◌, ℕ, ◌<◌, ◌≤◌, ◌⊎◌, List, length, sum, slice_get, slice_index, slice_set, Some, Option, Contains}
use Rattle.cca_base.specs.declared.model.Move.{Move}
use Rattle.cca_base.specs.PlantModel.{PlantModel}
use Rattle.cca_base.specs.State.{IsState, Holds}

-- the command names this move from its component's mode, and its guard holds in the state
pub record IsCommanded (m : PlantModel) (s : List ℕ) (k : Option ℕ) (move : Move) : Type 0 where
  pub of_model : Contains m.moves move
  pub command : k ≡ Some move.command
  pub source : slice_get s move.component ≡ Some move.source
  pub guard : Holds m s move.guard

-- a commanded move's component goes to the target and the others stay, or no move is commanded and every component stays
abbrev pub Nominal : PlantModel → List ℕ → Option ℕ → List ℕ → Type 0
Nominal m s k s2 =
    ((move : Move) × IsCommanded m s k move × (s2 ≡ slice_set s move.component move.target))
    ⊎ (((move : Move) → IsCommanded m s k move → ⊥) × (s2 ≡ s))

-- a failure of the component leads from the one mode to the other at this cost
abbrev pub HasFailure : PlantModel → ℕ → ℕ → ℕ → ℕ → Type 0
HasFailure m c from to cost = Contains m.failures (record { component = c; source = from; target = to; cost = cost })

-- what it costs the component to go from a mode: nothing to its nominal mode, and else the least cost of a failure
abbrev pub ChangeCosts : PlantModel → ℕ → ℕ → ℕ → ℕ → ℕ → Type 0
ChangeCosts m c from nominal to cost =
    ((to ≡ nominal) × (cost ≡ 0))
    ⊎ ((to ≢ nominal) × HasFailure m c from to cost × ((other : ℕ) → HasFailure m c from to other → cost ≤ other))

-- the successor's cost under the command: the sum of what its components cost
pub record Costs (m : PlantModel) (s : List ℕ) (k : Option ℕ) (s2 : List ℕ) (cost : ℕ) : Type 0 where
  pub state : IsState m s2
  pub nominal : List ℕ
  pub is_nominal : Nominal m s k nominal
  pub parts : List ℕ
  pub full : length parts ≡ length s2
  pub each : (c : ℕ) → c < length s2 → ChangeCosts m c (slice_index s c) (slice_index nominal c) (slice_index s2 c) (slice_index parts c)
  pub total : cost ≡ sum parts
