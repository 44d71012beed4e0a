-- A printed tick as it is handed on.
use Rattle.plan_checker.specs.declared.tick.Tick.{Tick}
use Rattle.plan_checker.specs.Reasons.{Printed, printed}

-- what is printed of the tick
abbrev pub printed_of : Tick → Printed
printed_of t = printed t.report.now t.world t.route
