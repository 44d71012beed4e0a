-- The statuses of calls, as numbers.
use Rattle.std.specs.Prelude.{ℕ}
use Rattle.line_machine.specs.declared.machine.End.TheVariants.{Ended, Rejected, Refused}
use Rattle.titan_c.specs.declared.status.TheConstants.{GOES_ON, ENDED, REFUSED, REJECTED, NO_MEMORY}
use Rattle.titan_session.specs.declared.session.Stage.{Stage}
use Rattle.titan_session.specs.declared.session.Stage.TheVariants.{Going, Over, Lost}

-- the status of a session, by where it stands
abbrev pub status_of : {S : Type 0} → Stage S → ℕ
status_of (Going s) = GOES_ON
status_of (Over Ended) = ENDED
status_of (Over Refused) = REFUSED
status_of (Over Rejected) = REJECTED
status_of Lost = NO_MEMORY
