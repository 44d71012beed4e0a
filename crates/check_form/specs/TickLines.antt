-- The lines of one tick of a printed trace: its report, a world behind an estimate, a plan and a way back behind a command.
use Rattle.std.specs.Prelude.{ℕ, ◌+◌, Bool, true, false, Some, None, ◌==◌, if◌then◌else◌}
use Rattle.cca_base.specs.declared.events.PlanEnd.{PlanEnd}
use Rattle.cca_base.specs.declared.events.Reply.{Reply}
use Rattle.cca_base.specs.declared.events.Reply.TheVariants.{Idle, Send, Achieved, Unreachable}
use Rattle.cca_base.specs.declared.events.Shown.{Shown}
use Rattle.cca_base.specs.declared.events.Shown.TheVariants.{Estimated, Unexplained, Holding}
use Rattle.cca_base.specs.declared.events.TickReport.{TickReport}
use Rattle.cca_base.specs.declared.state.World as worlds
use Rattle.plan_checker.specs.Reasons.{Printed}
use Rattle.trace_text.specs.declared.trace_line.TraceLine.{TraceLine}
use Rattle.trace_text.specs.declared.trace_line.TraceLine.TheVariants.{Tick, World, Plan, Back}
use Rattle.check_form.specs.declared.tick_lines.PrintedTick.{PrintedTick}
use Rattle.check_form.specs.declared.tick_lines.TickSoFar.{TickSoFar}
use Rattle.check_form.specs.declared.tick_lines.TickSoFar.TheVariants.{Nothing, Reported, Explained, Planned}
use Rattle.check_form.specs.declared.tick_lines.TickLines as code
use Rattle.check_form.specs.declared.tick_lines.TickLines.TheVariants as codes

-- what a tick's lines are with one more: it isn't the one that is needed, more have to come, or they are all there
pub data TickLines : Type 0 where
  NotNext : TickLines
  More : (lines : TickSoFar) → TickLines
  Whole : (tick : Printed) → TickLines

-- a world belongs to an estimate
abbrev pub has_world : Shown → Bool
has_world (Estimated cost state reply) = true
has_world Unexplained = false
has_world Holding = false

-- a plan and a way back belong to a command
abbrev pub is_command : Reply → Bool
is_command (Send k) = true
is_command Idle = false
is_command Achieved = false
is_command (Unreachable c mode) = false

-- whether a tick that shows this has a plan and a way back
abbrev pub has_route : Shown → Bool
has_route (Estimated cost state reply) = is_command reply
has_route Unexplained = false
has_route Holding = false

-- a tick's line, if it has the number of the next tick
abbrev pub with_report : ℕ → TickReport → TickLines
with_report ticks r =
    if r.tick == ticks + 1 then (if has_world r.shown then More (Reported r) else Whole (record { report = r; world = None; route = None })) else NotNext

-- a tick's lines with a world behind the report
abbrev pub with_world : TickReport → worlds.World → TickLines
with_world r w = if has_route r.shown then More (Explained r w) else Whole (record { report = r; world = Some w; route = None })

-- behind each part of a tick's lines, the line that is needed next, and no other
abbrev pub behind_nothing : ℕ → TraceLine → TickLines
behind_nothing ticks (Tick r) = with_report ticks r
behind_nothing ticks (World w) = NotNext
behind_nothing ticks (Plan p) = NotNext
behind_nothing ticks (Back p) = NotNext

-- what may come behind a tick's line: its world
abbrev pub behind_report : TickReport → TraceLine → TickLines
behind_report r (Tick other) = NotNext
behind_report r (World w) = with_world r w
behind_report r (Plan p) = NotNext
behind_report r (Back p) = NotNext

-- what may come behind the world: the plan
abbrev pub behind_world : TickReport → worlds.World → TraceLine → TickLines
behind_world r w (Tick other) = NotNext
behind_world r w (World v) = NotNext
behind_world r w (Plan p) = More (Planned r w p)
behind_world r w (Back p) = NotNext

-- what may come behind the plan: the way back
abbrev pub behind_plan : TickReport → worlds.World → PlanEnd → TraceLine → TickLines
behind_plan r w p (Tick other) = NotNext
behind_plan r w p (World v) = NotNext
behind_plan r w p (Plan q) = NotNext
behind_plan r w p (Back back) = Whole (record { report = r; world = Some w; route = Some (record { plan = p; back = back }) })

-- the lines of a tick with one more, behind so many ticks
abbrev pub next_lines : ℕ → TickSoFar → TraceLine → TickLines
next_lines ticks Nothing l = behind_nothing ticks l
next_lines ticks (Reported r) l = behind_report r l
next_lines ticks (Explained r w) l = behind_world r w l
next_lines ticks (Planned r w p) l = behind_plan r w p l

-- what code keeps of a whole tick
abbrev pub printed_of : PrintedTick → Printed
printed_of t = record { report = t.report; world = t.world; route = t.route }

-- what the code keeps of a tick's lines
abbrev pub tick_lines : code.TickLines → TickLines
tick_lines codes.NotNext = NotNext
tick_lines (codes.More lines) = More lines
tick_lines (codes.Whole tick) = Whole (printed_of tick)
