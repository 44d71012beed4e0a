use Rattle.control_syntax.proofs.Examples.{forms_in_bytes, one_of_each, numbers_of_programs, goes_round_once}
use Rattle.control_syntax.proofs.laws.forms.Goals as goal

pub returns-clause-bytes : goal.returns-clause-bytes
returns-clause-bytes c = forms_in_bytes

pub returns-clause-each : goal.returns-clause-each
returns-clause-each c = one_of_each

pub returns-clause-numbers : goal.returns-clause-numbers
returns-clause-numbers c = numbers_of_programs

pub returns-clause-once : goal.returns-clause-once
returns-clause-once c = goes_round_once
