use Rattle.std.proofs.Common.{length}
use Rattle.check_form.specs.CheckStages.{Advances}
use Rattle.check_form.proofs.check_trace.advance.Given as goal

abbrev pub invariant-events : goal.invariant-events
invariant-events l = Advances l.model l.fn.checker l.fn.events.items l.checker l.events.items

abbrev pub decreases-events : goal.decreases-events
decreases-events l = length l.events.items
