use Rattle.clash_analysis.proofs.EndLaws.{marks_few, weight_learned, weight_later, weight_level}
use Rattle.clash_analysis.proofs.laws.ends.Goals as goal

pub returns-clause-later : goal.returns-clause-later
returns-clause-later c = weight_later

pub returns-clause-level : goal.returns-clause-level
returns-clause-level c = weight_level

pub returns-clause-marks : goal.returns-clause-marks
returns-clause-marks c = marks_few

pub returns-clause-learned : goal.returns-clause-learned
returns-clause-learned c = weight_learned
