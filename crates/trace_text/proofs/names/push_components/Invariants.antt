use Rattle.std.proofs.Common.{drop}
use Rattle.trace_text.specs.Names.{components_text}
use Rattle.byte_buffer.proofs.Pushing.{Continues}
use Rattle.trace_text.proofs.names.push_components.Given as goal

-- the names that are left
abbrev pub invariant-loop-c : goal.invariant-loop-c
invariant-loop-c l = Continues (components_text l.components l.list) (components_text l.components (drop l.c-index l.list)) l.fn.out l.out
