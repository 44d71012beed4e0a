use Rattle.window_laws.proofs.Paths.{one_best, tails_best}
use Rattle.window_laws.proofs.ShortPaths.{one_record, adds_at_end, oldest_decides}
use Rattle.window_laws.proofs.best_trajectories.Goals as goal

pub returns-clause-one : goal.returns-clause-one
returns-clause-one c = one_best

pub returns-clause-tails : goal.returns-clause-tails
returns-clause-tails c = tails_best

pub returns-clause-record : goal.returns-clause-record
returns-clause-record c = one_record

pub returns-clause-adds : goal.returns-clause-adds
returns-clause-adds c = adds_at_end

pub returns-clause-oldest : goal.returns-clause-oldest
returns-clause-oldest c = oldest_decides
