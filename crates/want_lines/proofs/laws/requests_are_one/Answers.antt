use Rattle.want_lines.proofs.OneRequest as one
use Rattle.want_lines.proofs.laws.requests_are_one.Goals as goal

pub returns : goal.returns
returns c = one.requests_are_one
