use Rattle.std.proofs.Common.{drop}
use Rattle.trace_text.specs.Names.{pairs_text}
use Rattle.byte_buffer.proofs.Pushing.{Continues}
use Rattle.trace_text.proofs.names.push_pairs.Given as goal

-- the pairs that are left
abbrev pub invariant-loop-pair : goal.invariant-loop-pair
invariant-loop-pair l = Continues (pairs_text l.components l.pairs) (pairs_text l.components (drop l.pair-index l.pairs)) l.fn.out l.out
