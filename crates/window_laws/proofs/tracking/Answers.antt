use Rattle.window_laws.proofs.Tracked.{one_tracking}
use Rattle.window_laws.proofs.TickNumbers.{tracks_on, start_keeps, answers_are_best, numbers_go_on}
use Rattle.window_laws.proofs.Latest.{resets_forget, keeps_latest}
use Rattle.window_laws.proofs.Since.{answers_are_of_latest}
use Rattle.window_laws.proofs.tracking.Goals as goal

pub returns-clause-one : goal.returns-clause-one
returns-clause-one c = one_tracking

pub returns-clause-on : goal.returns-clause-on
returns-clause-on c = tracks_on

pub returns-clause-start : goal.returns-clause-start
returns-clause-start c = start_keeps

pub returns-clause-best : goal.returns-clause-best
returns-clause-best c = answers_are_best

pub returns-clause-numbers : goal.returns-clause-numbers
returns-clause-numbers c = numbers_go_on

pub returns-clause-resets : goal.returns-clause-resets
returns-clause-resets c = resets_forget

pub returns-clause-latest : goal.returns-clause-latest
returns-clause-latest c = keeps_latest

pub returns-clause-of_latest : goal.returns-clause-of_latest
returns-clause-of_latest c = answers_are_of_latest
