-- How few commands bring a goal about: what the promise of a stated number rests on.
use Rattle.std.specs.Prelude.{◌≡◌, ℕ, ◌<◌, ◌≤◌, List}
use Rattle.cca_base.specs.declared.cube.Pair.{Pair}
use Rattle.cca_base.specs.Accepted.{CompiledModel}
use Rattle.cca_base.specs.State.{IsState, Extends}
use Rattle.cca_base.specs.Steps.{Step, AreReached}
use Rattle.cca_base.specs.Bounds.{stated_number}
use Rattle.cca_base.specs.Choice.{PicksForGoal}
use Rattle.cca_base.specs.Plans.{CanBeServed}
use Rattle.trace_laws.specs.Fits.{IsKeptGoal}

-- each goal that is reached can be served
abbrev pub ServesGoals : CompiledModel → Type 0
ServesGoals b = (s : List ℕ) (goal : List Pair) → IsState b.model s → IsKeptGoal b goal → AreReached b.model s goal → CanBeServed b s goal

-- what is left to a goal that is reached: its stated number at most, less after each picked command, and nothing only where the goal stands
pub record IsMeasure (b : CompiledModel) (goal : List Pair) (left : List ℕ → ℕ) : Type 0 where
  pub small : (s : List ℕ) → IsState b.model s → AreReached b.model s goal → left s ≤ stated_number b.bounds goal
  pub falls : (s next : List ℕ) (k : ℕ) → IsState b.model s → AreReached b.model s goal → PicksForGoal b s goal k → Step b.model s k next → left next < left s
  pub stands : (s : List ℕ) → IsState b.model s → AreReached b.model s goal → left s ≡ 0 → Extends s goal

-- each goal has a measure
abbrev pub MeasuresGoals : CompiledModel → Type 0
MeasuresGoals b = (goal : List Pair) → IsKeptGoal b goal → (left : List ℕ → ℕ) × IsMeasure b goal left
