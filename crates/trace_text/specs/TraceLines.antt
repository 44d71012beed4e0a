-- Lines of a printed trace, which are read back.
use Rattle.std.specs.Prelude.{◌≡◌, ℕ, ◌<◌, ◌^◌, List, length, slice_index, All, codes}
use Rattle.cca_base.specs.declared.events.PlanEnd.{PlanEnd}
use Rattle.cca_base.specs.declared.events.PlanEnd.TheVariants as plans
use Rattle.cca_base.specs.declared.events.Reply.{Reply}
use Rattle.cca_base.specs.declared.events.Reply.TheVariants.{Idle, Send, Achieved, Unreachable}
use Rattle.cca_base.specs.declared.events.Shown.{Shown}
use Rattle.cca_base.specs.declared.events.Shown.TheVariants.{Estimated, Unexplained, Holding}
use Rattle.cca_base.specs.declared.events.TickReport.{TickReport}
use Rattle.cca_base.specs.PlantModel.{PlantModel}
use Rattle.cca_base.specs.Model.{WellFormed, HasMode}
use Rattle.cca_base.specs.State.{IsState, HasValue}
use Rattle.trace_text.specs.declared.trace_line.TraceLine.{TraceLine}
use Rattle.trace_text.specs.declared.trace_line.TraceLine.TheVariants.{Tick, World, Plan, Back}
use Rattle.trace_text.specs.Reports.{report_line}
use Rattle.trace_text.specs.ProofLines.{world_line, plan_line}

-- the text of a line, with its LF
abbrev pub trace_line : PlantModel → TraceLine → List ℕ
trace_line m (Tick report) = report_line m report
trace_line m (World world) = world_line m world
trace_line m (Plan end) = plan_line (codes "plan") m end
trace_line m (Back end) = plan_line (codes "back") m end

-- a value for each variable
pub record HasValues (m : PlantModel) (values : List ℕ) : Type 0 where
  pub full : length values ≡ length m.variables
  pub each : (v : ℕ) → v < length m.variables → HasValue m v (slice_index values v)

-- a command of the model, by a number of 16 bits
pub record HasCommand (m : PlantModel) (command : ℕ) : Type 0 where
  pub of_model : command < length m.commands
  pub narrow : command < 2 ^ 16

-- the commands are the model's
abbrev pub FitsPlan : PlantModel → PlanEnd → Type 0
FitsPlan m plans.Long = Unit {0}
FitsPlan m (plans.Plan plan) = All (HasCommand m) plan

-- what the reply names is the model's
abbrev pub FitsReply : PlantModel → Reply → Type 0
FitsReply m Idle = Unit {0}
FitsReply m (Send command) = HasCommand m command
FitsReply m Achieved = Unit {0}
FitsReply m (Unreachable c mode) = HasMode m c mode

-- the cost has 64 bits, the estimate is a state of the model, and the reply fits it
abbrev pub FitsShown : PlantModel → Shown → Type 0
FitsShown m (Estimated cost state reply) = (cost < 2 ^ 64) × IsState m state.modes × FitsReply m reply
FitsShown m Unexplained = Unit {0}
FitsShown m Holding = Unit {0}

-- the tick's number has 64 bits, and what the tick shows fits
abbrev pub FitsReport : PlantModel → TickReport → Type 0
FitsReport m report = (report.tick < 2 ^ 64) × FitsShown m report.shown

-- the line speaks of the model's parts, and its numbers have 64 bits
abbrev pub FitsLine : PlantModel → TraceLine → Type 0
FitsLine m (Tick report) = FitsReport m report
FitsLine m (World world) = HasValues m world.values
FitsLine m (Plan end) = FitsPlan m end
FitsLine m (Back end) = FitsPlan m end

-- no two values that fit a model have one text
abbrev pub TellsLinesApart : Type 0
TellsLinesApart = (m : PlantModel) → WellFormed m → (a b : TraceLine) → FitsLine m a → FitsLine m b → trace_line m a ≡ trace_line m b → a ≡ b
