use Rattle.std.proofs.Common.{drop}
use Rattle.std.proofs.Common.{map}
use Rattle.trace_text.specs.Names.{name_at}
use Rattle.trace_text.specs.Words.{behind_spaces}
use Rattle.byte_buffer.proofs.Pushing.{Continues}
use Rattle.trace_text.proofs.proof_lines.push_commands.Given as goal

-- the commands that are left
abbrev pub invariant-loop-command : goal.invariant-loop-command
invariant-loop-command l = Continues (behind_spaces (map (name_at l.names) l.plan)) (behind_spaces (map (name_at l.names) (drop l.command-index l.plan))) l.fn.out l.out
