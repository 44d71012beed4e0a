use Rattle.control_syntax.proofs.OneProgram as one
use Rattle.control_syntax.proofs.laws.programs_are_read.Goals as goal

pub returns : goal.returns
returns c = one.programs_are_read
