-- What the picked commands to a goal keep.
use Rattle.std.specs.Prelude.{◌≡◌, ◌≢◌, ◌<◌, ◌≤◌, ℕ, true, false, List, ◌++◌, length, slice_index, Contains}
use Rattle.cca_base.specs.declared.cube.Pair.{Pair}
use Rattle.cca_base.specs.PlantModel.{PlantModel}
use Rattle.cca_base.specs.Bounds.{stated_number}
use Rattle.cca_base.specs.Flags.{is_set}
use Rattle.cca_base.specs.Implicants.{Ancestor}
use Rattle.cca_base.specs.Model.{is_broken}
use Rattle.cca_base.specs.State.{Extends}
use Rattle.cca_base.specs.Steps.{Run, AllowedPlan}
use Rattle.cca_base.specs.Plans.{Whole}
use Rattle.reversibility.specs.ClassParts.{ClassParts, CoversState}
use Rattle.policy_tables.specs.Tables.{TableParts}

-- the first commands lead from the state to mid, and the rest of the commands are left
pub record IsPartWay (m : PlantModel) (s ks mid rest : List ℕ) : Type 0 where
  pub first : List ℕ
  pub split : ks ≡ first ++ rest
  pub run : Run m s first mid

-- where the first pairs of the goal stand at some place of the plan, they stand from there to its end
abbrev pub KeepsStanding : PlantModel → List Pair → List ℕ → List ℕ → Type 0
KeepsStanding m goal s ks = (before after : List Pair) → goal ≡ before ++ after
    → (early left : List ℕ) → IsPartWay m s ks early left → Extends early before
    → (late rest : List ℕ) → IsPartWay m early left late rest → Extends late before

-- the component stands all along the plan where it stood at first
abbrev pub StaysAlong : PlantModel → List ℕ → List ℕ → ℕ → Type 0
StaysAlong m s ks d = (mid rest : List ℕ) → IsPartWay m s ks mid rest → slice_index mid d ≡ slice_index s d

-- the component is none of the goal's, and no ancestor of one
abbrev pub IsApart : PlantModel → List Pair → ℕ → Type 0
IsApart m goal d = (p : Pair) → Contains goal p → (d ≢ p.item) × (Ancestor m p.item d → ⊥)

-- the component is broken in the state, and not mendable
pub record IsStuck (c : ClassParts) (s : List ℕ) (d : ℕ) : Type 0 where
  pub within : d < length c.compiled.model.components
  pub broken : is_broken c.compiled.model.moves d (slice_index s d) ≡ true
  pub unmendable : is_set c.mendable d ≡ false

-- the picked commands, each applied as its step, lead to a state that has the goal; they are an allowed plan of at most the goal's number of commands,
-- keep what stands of the goal, and move neither what the goal has no need of nor what is stuck
pub record IsPlanTo (t : TableParts) (s : List ℕ) (goal : List Pair) (ks last : List ℕ) : Type 0 where
  pub whole : Whole t.classes.compiled goal s ks last
  pub allowed : AllowedPlan t.classes.compiled.model s ks last
  pub few : length ks ≤ stated_number t.classes.compiled.bounds goal
  pub stands : Extends last goal
  pub covers : CoversState t.classes last
  pub keeps : KeepsStanding t.classes.compiled.model goal s ks
  pub apart : (d : ℕ) → IsApart t.classes.compiled.model goal d → StaysAlong t.classes.compiled.model s ks d
  pub stuck : (d : ℕ) → IsStuck t.classes s d → StaysAlong t.classes.compiled.model s ks d
