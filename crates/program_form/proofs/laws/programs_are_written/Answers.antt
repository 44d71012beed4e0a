use Rattle.program_form.proofs.WrittenPrograms as lines
use Rattle.program_form.proofs.laws.programs_are_written.Goals as goal

pub returns-clause-written : goal.returns-clause-written
returns-clause-written c = lines.programs_are_written

pub returns-clause-no_goal : goal.returns-clause-no_goal
returns-clause-no_goal c = lines.lines_set_no_goal
