use Rattle.titan_top.proofs.Agreements.{agrees}
use Rattle.titan_top.proofs.laws.forms_do_what_they_mean.Goals as goal

pub returns : goal.returns
returns c = agrees
