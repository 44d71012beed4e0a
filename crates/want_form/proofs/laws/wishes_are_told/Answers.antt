use Rattle.want_form.proofs.WantForm as told
use Rattle.want_form.proofs.laws.wishes_are_told.Goals as goal

pub returns : goal.returns
returns c = told.wishes_are_told
