use Rattle.std.proofs.Common.{sym, ◌∙◌}
use Rattle.trace_text.proofs.ReadWords.{other_prefix}
use Rattle.trace_text.proofs.read_parts.behind.Goals as goal

pub returns-else-eq : goal.returns-else-eq
returns-else-eq c = other_prefix c.args.prefix.now c.args.word.now c.split_at.result.0.now c.split_at.ensures.front (sym c.eq.ensures ∙ c.if-eq.false)
