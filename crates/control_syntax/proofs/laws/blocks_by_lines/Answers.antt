use Rattle.control_syntax.proofs.Matched.{unmatched_by_lines, limits_count_lines}
use Rattle.control_syntax.proofs.laws.blocks_by_lines.Goals as goal

pub returns-clause-unmatched : goal.returns-clause-unmatched
returns-clause-unmatched c = unmatched_by_lines

pub returns-clause-counts : goal.returns-clause-counts
returns-clause-counts c = limits_count_lines
