use Rattle.watch_form.proofs.WatchExamples.{lines_of_valve, nothing_first, both_pending, pending_is_of_one_tick}
use Rattle.watch_form.proofs.laws.watch_examples.Goals as goal

pub returns-clause-lines : goal.returns-clause-lines
returns-clause-lines c = lines_of_valve

pub returns-clause-nothing : goal.returns-clause-nothing
returns-clause-nothing c = nothing_first

pub returns-clause-both : goal.returns-clause-both
returns-clause-both c = both_pending

pub returns-clause-one_tick : goal.returns-clause-one_tick
returns-clause-one_tick c = pending_is_of_one_tick
