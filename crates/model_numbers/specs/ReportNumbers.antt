-- Reports of ticks with numbers in place of names.
use Rattle.std.specs.Prelude.{ℕ, ◌-◌, List, [], ◌++◌, length, take, replicate, Option, Some, None}
use Rattle.std.specs.Option.{option_map, option_and_then}
use Rattle.cca_base.specs.declared.events.Reply.{Reply}
use Rattle.cca_base.specs.declared.events.Reply.TheVariants as reply
use Rattle.cca_base.specs.declared.events.Shown.{Shown}
use Rattle.cca_base.specs.declared.events.Shown.TheVariants as shown
use Rattle.cca_base.specs.declared.events.TickReport.{TickReport}
use Rattle.cca_base.specs.PlantModel.{PlantModel}
use Rattle.cca_base.specs.Runs.{reply_of}
use Rattle.cca_base.specs.Trace.{command_of}
use Rattle.model_numbers.specs.declared.modes.TheConstants.{NO_MODE}
use Rattle.model_numbers.specs.declared.report_numbers.ReplyKind.{ReplyKind}
use Rattle.model_numbers.specs.declared.report_numbers.ReplyKind.TheVariants.{Idle, Send, Achieved, Unreachable}
use Rattle.model_numbers.specs.declared.report_numbers.ReportNumbers.{ReportNumbers}
use Rattle.model_numbers.specs.declared.report_numbers.Tells.{Tells}
use Rattle.model_numbers.specs.declared.report_numbers.Tells.TheVariants.{NothingYet, Estimated, Unexplained, Holding}

-- what a tick tells
abbrev pub tells_of : Shown → Tells
tells_of (shown.Estimated cost state reply) = Estimated
tells_of shown.Unexplained = Unexplained
tells_of shown.Holding = Holding

-- the cost of the estimate; 0 where there is none
abbrev pub cost_of : Shown → ℕ
cost_of (shown.Estimated cost state reply) = cost
cost_of shown.Unexplained = 0
cost_of shown.Holding = 0

-- the kind of a reply
abbrev pub kind_of : Reply → ReplyKind
kind_of reply.Idle = Idle
kind_of (reply.Send command) = Send
kind_of reply.Achieved = Achieved
kind_of (reply.Unreachable c mode) = Unreachable

-- the component that can't be reached
abbrev pub component_of : Reply → Option ℕ
component_of reply.Idle = None
component_of (reply.Send command) = None
component_of reply.Achieved = None
component_of (reply.Unreachable c mode) = Some c

-- the mode that can't be reached
abbrev pub mode_of : Reply → Option ℕ
mode_of reply.Idle = None
mode_of (reply.Send command) = None
mode_of reply.Achieved = None
mode_of (reply.Unreachable c mode) = Some mode

-- the numbers of a report
abbrev pub numbers_of : PlantModel → TickReport → ReportNumbers
numbers_of m report = record {
  tick = report.tick;
  cost = cost_of report.shown;
  tells = tells_of report.shown;
  reply = option_map kind_of (reply_of report.shown);
  command = option_and_then command_of (reply_of report.shown);
  component = option_and_then component_of (reply_of report.shown);
  mode = option_and_then mode_of (reply_of report.shown);
  components = length m.components;
}

-- the numbers of what has no estimate
abbrev pub without_estimate : ℕ → Tells → ℕ → ReportNumbers
without_estimate tick tells components = record {
  tick = tick;
  cost = 0;
  tells = tells;
  reply = None;
  command = None;
  component = None;
  mode = None;
  components = components;
}

-- the numbers where there is no report
abbrev pub nothing_yet : ReportNumbers
nothing_yet = without_estimate 0 NothingYet 0

-- the modes that are shown, by the components' numbers; none where there is no estimate
abbrev pub modes_shown : Shown → List ℕ
modes_shown (shown.Estimated cost state reply) = state.modes
modes_shown shown.Unexplained = []
modes_shown shown.Holding = []

-- the modes as far as there is room for them, and behind them no mode up to the end of the room
abbrev pub modes_of : TickReport → ℕ → List ℕ
modes_of report room = take room (modes_shown report.shown) ++ replicate (room - length (modes_shown report.shown)) NO_MODE
