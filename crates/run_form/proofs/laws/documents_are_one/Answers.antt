use Rattle.run_form.proofs.laws.documents_are_one.Goals as goal
use Rattle.run_form.proofs.DocumentsAreOne.{documents_are_one}

pub returns : goal.returns
returns c = documents_are_one
