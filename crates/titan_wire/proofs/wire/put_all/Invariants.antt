use Rattle.std.proofs.Common.{length, ◌-◌, ◌≡◌, ◌≤◌, take}
use Rattle.std.specs.Io.KnownBytes.{append_known}
use Rattle.titan_wire.specs.Wire.{less_space}
use Rattle.titan_wire.proofs.wire.put_all.Given as goal

abbrev pub invariant-loop-sent : goal.invariant-loop-sent
invariant-loop-sent g l = record {
  in_range : l.sent ≤ length l.piece;
  out : g.K.Sink.written l.sink ≡ append_known (g.K.Sink.written l.fn.sink) (take l.sent l.piece);
  space : g.K.Sink.space l.sink ≡ less_space (g.K.Sink.space l.fn.sink) l.sent;
  quiet : g.K.Sink.faults l.sink ≡ g.K.Sink.faults l.fn.sink;
  no_call : l.sent ≡ 0 → l.sink ≡ l.fn.sink;
}

abbrev pub decreases-loop-sent : goal.decreases-loop-sent
decreases-loop-sent g l = length l.piece - l.sent
