-- A goal that stays in force, also where it is set anew to the same pairs.
use Rattle.std.specs.Prelude.{◌≡◌, ◌<◌, ◌≤◌, ◌+◌, ℕ, false, List, length, Some, All, slice_get}
use Rattle.cca_base.specs.declared.cube.Pair.{Pair}
use Rattle.cca_base.specs.Accepted.{CompiledModel}
use Rattle.cca_base.specs.Bounds.{stated_number}
use Rattle.cca_base.specs.Runs.{TickRecord, IsRight, LeavesPlantAlone, ServesGoal, is_unreachable, reply_at, stretch}

-- at ticks i to j one goal is in force and the estimates are right, no fault and no reset comes between them, and the first does not say unreachable
pub record IsHeldStretch (ticks : List TickRecord) (goal : List Pair) (i j : ℕ) : Type 0 where
  pub rising : i ≤ j
  pub within : j < length ticks
  pub goals : All (λ t. t.before.goal ≡ Some goal) (stretch ticks i j)
  pub quiet : All (λ t. All LeavesPlantAlone t.since) (stretch ticks (i + 1) j)
  pub right : All IsRight (stretch ticks i j)
  pub reachable : (t : TickRecord) → slice_get ticks i ≡ Some t → is_unreachable (reply_at t) ≡ false

-- in each such stretch the goal is served within its stated number of commands
abbrev pub WithinHeld : CompiledModel → List TickRecord → Type 0
WithinHeld b ticks = (goal : List Pair) (i j : ℕ) → IsHeldStretch ticks goal i j → ServesGoal (stated_number b.bounds goal) ticks i j
