use Rattle.control_syntax.proofs.OneLine as one
use Rattle.control_syntax.proofs.laws.lines_are_one.Goals as goal

pub returns : goal.returns
returns c = one.lines_are_one
