use Rattle.watch_form.proofs.WatchLeast as least
use Rattle.watch_form.proofs.laws.costs_are_least.Goals as goal

pub returns : goal.returns
returns c = least.costs_are_least
