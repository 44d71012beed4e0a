use Rattle.watch_form.proofs.WatchForm as told
use Rattle.watch_form.proofs.laws.watch_is_told.Goals as goal

pub returns : goal.returns
returns c = told.watch_is_told
