use Rattle.std.proofs.Common.{◌≡◌, length}
use Rattle.line_machine.proofs.SentPieces.{IsSending}
use Rattle.line_machine.proofs.send.send.Given as goal

abbrev pub invariant-pieces : goal.invariant-pieces
invariant-pieces g l = record {
  sending : IsSending l.text l.rest (g.K.Sink.written l.fn.sink) (g.K.Sink.written l.sink) (g.K.Sink.space l.fn.sink) (g.K.Sink.space l.sink);
  quiet : g.K.Sink.faults l.sink ≡ g.K.Sink.faults l.fn.sink;
}

abbrev pub decreases-pieces : goal.decreases-pieces
decreases-pieces g l = length l.rest
