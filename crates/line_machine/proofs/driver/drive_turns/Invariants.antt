use Rattle.std.proofs.Common.{◌≡◌, ◌-◌, ◌+◌, ◌≤◌, []}
use Rattle.byte_buffer.specs.Outs.{HasRoomLeft}
use Rattle.line_machine.proofs.DriverInvariant.{IsDriving}
use Rattle.line_machine.proofs.driver.drive_turns.Given as goal
use Rattle.line_machine.specs.declared.driver.TheConstants.{OUT_ROOM}
use Rattle.line_machine.specs.declared.machine.TheConstants.{MAX_LINES}

abbrev pub invariant-lines : goal.invariant-lines
invariant-lines g l = record {
  driving : IsDriving g.M.Machine l.fn.machine (g.I.Intake.left l.fn.source) (g.K.Sink.written l.fn.sink) (g.K.Sink.space l.fn.sink) (g.I.Intake.calls l.fn.source) ⊥ l.count l.machine l.buffer (g.I.Intake.left l.source) (g.K.Sink.written l.sink) (g.K.Sink.space l.sink) (g.I.Intake.calls l.source);
  empty : l.out.bytes ≡ [];
  out_room : HasRoomLeft l.out OUT_ROOM;
  turn : g.M.Machine.awaits l.machine (l.count + 1);
  few : l.count ≤ MAX_LINES;
  quiet_source : g.I.Intake.faults l.source ≡ g.I.Intake.faults l.fn.source;
  quiet_sink : g.K.Sink.faults l.sink ≡ g.K.Sink.faults l.fn.sink;
}

abbrev pub decreases-lines : goal.decreases-lines
decreases-lines g l = MAX_LINES + 1 - l.count
