use Rattle.std.proofs.Common.{◌≡◌, ◌+◌, ◌-◌, length}
use Rattle.line_machine.specs.Found.{Came}
use Rattle.line_machine.proofs.buffer.LineBuffer.next_line.Given as goal

abbrev pub invariant-asks : goal.invariant-asks
invariant-asks g l = record {
  came : Came ⊥ l.limit (g.K.Sink.written l.sink) l.fn.self l.self (g.I.Intake.left l.fn.source) (g.I.Intake.left l.source) (g.I.Intake.calls l.fn.source) (g.I.Intake.calls l.source);
  quiet : g.I.Intake.faults l.source ≡ g.I.Intake.faults l.fn.source;
}

abbrev pub decreases-asks : goal.decreases-asks
decreases-asks g l = l.limit + 1 - length l.self
