-- Rows of choices, and what each component may become.
use Rattle.std.specs.Prelude.{◌≡◌, ◌↔◌, ℕ, ◌<◌, List, [], ◌∷◌, ◌++◌, length, Contains, Option, Some, None, Bool, ◌==◌, if◌then◌else◌, slice_set, slice_index, slice_index_or}
use Rattle.cca_base.specs.declared.cube.Pair.{Pair}
use Rattle.cca_base.specs.declared.model.Failure.{Failure}
use Rattle.cca_base.specs.PlantModel.{PlantModel}
use Rattle.cca_base.specs.Model.{HasMode, mode_counts}
use Rattle.cca_base.specs.Successors.{Nominal, ChangeCosts}
use Rattle.cca_base.specs.declared.choice.Choice.{Choice}
use Rattle.cca_base.specs.Choices.{IsRow, AreRows}
use Rattle.cca_base.specs.LeastCosts.{IsLeast}

-- the least costs of the component's failures from a mode, mode by mode
abbrev pub AreLeast : List Failure → ℕ → ℕ → List (Option ℕ) → Type 0
AreLeast fs c from costs = (mode : ℕ) → mode < length costs → IsLeast fs c from mode (slice_index_or costs mode None)

-- the same of each component, from its mode
abbrev pub AreAllLeast : List Failure → List ℕ → List (List (Option ℕ)) → Type 0
AreAllLeast fs s table = (c : ℕ) → c < length table → AreLeast fs c (slice_index s c) (slice_index_or table c [])

-- exactly the changes to modes below this one
abbrev pub AreChanges : PlantModel → ℕ → ℕ → ℕ → ℕ → List Choice → Type 0
AreChanges m c from nominal bound row = (x : Choice) → Contains row x ↔ ((x.mode < bound) × ChangeCosts m c from nominal x.mode x.cost)

-- the row with the mode, where the change to it has a cost
abbrev pub IsAdded : List Choice → ℕ → Option ℕ → List Choice → Type 0
IsAdded old mode None new = new ≡ old
IsAdded old mode (Some cost) new = new ≡ old ++ record { mode = mode; cost = cost } ∷ []

-- choices of one mode
abbrev pub same_mode : Choice → Choice → Bool
same_mode x y = x.mode == y.mode

-- the component's mode after the one that moves has moved
abbrev pub mode_after : Option Pair → ℕ → ℕ → ℕ
mode_after None c mode = mode
mode_after (Some p) c mode = (if p.item == c then p.value else mode)

-- the state after the component that moves has moved
abbrev pub state_after : Option Pair → List ℕ → List ℕ
state_after None s = s
state_after (Some p) s = slice_set s p.item p.value

-- the rows of the components below this one are written
pub record AreRowsTo (m : PlantModel) (s : List ℕ) (moved : Option Pair) (bound : ℕ) (rows : List (List Choice)) : Type 0 where
  pub rows_fit : (c : ℕ) → c < bound → IsRow (slice_index_or rows c [])
  pub each : (c : ℕ) → c < bound
      → AreChanges m c (slice_index s c) (mode_after moved c (slice_index s c)) (slice_index (mode_counts m) c) (slice_index_or rows c [])

-- the component's row is written anew: what it may change to from a mode, where another is nominal
pub record IsWritten (m : PlantModel) (c from nominal : ℕ) (old new : List (List Choice)) : Type 0 where
  pub row : List Choice
  pub fits : IsRow row
  pub changes : AreChanges m c from nominal (slice_index (mode_counts m) c) row
  pub is : new ≡ slice_set old c row

-- per component exactly the modes to which it can change, each with what that costs
pub record AreChoices (m : PlantModel) (s : List ℕ) (k : Option ℕ) (rows : List (List Choice)) : Type 0 where
  pub rows_fit : AreRows rows
  pub full : length rows ≡ length m.components
  pub nominal : List ℕ
  pub is_nominal : Nominal m s k nominal
  pub each : (c : ℕ) (x : Choice) → c < length rows
      → Contains (slice_index_or rows c []) x ↔ (HasMode m c x.mode × ChangeCosts m c (slice_index s c) (slice_index nominal c) x.mode x.cost)
