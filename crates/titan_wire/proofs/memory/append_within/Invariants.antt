use Rattle.std.proofs.Common.{◌≡◌, ◌++◌, take, vec_capacity}
use Rattle.titan_wire.proofs.memory.append_within.Given as goal

abbrev pub invariant-loop-byte : goal.invariant-loop-byte
invariant-loop-byte l = record {
  so_far : l.bytes.items ≡ l.fn.bytes.items ++ take l.byte-index l.piece;
  memory : vec_capacity l.bytes ≡ vec_capacity l.fn.bytes;
}
