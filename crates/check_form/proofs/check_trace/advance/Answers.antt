use Rattle.std.proofs.Common.{List, subst}
use Rattle.cca_base.specs.declared.events.Event.{Event}
use Rattle.check_form.specs.CheckStages.{Advances}
use Rattle.check_form.proofs.CheckEvents.{advances_next}
use Rattle.check_form.proofs.check_trace.advance.Goals as goal

pub events-preserved-in_ok-event-2 : goal.events-preserved-in_ok-event-2
events-preserved-in_ok-event-2 c =
    let m = c.args.model.now in
    let x = c.args.checker.now in
    let here = subst (λ (l : List Event). Advances m x c.args.events.items c.events.checker l) c.in-Some.ensures.items c.events.invariant in
    advances_next m x c.events.checker c.event.new.self c.args.events.items c.pop_front.new.self.items c.in-Some.event here c.in_ok-event.ensures.changes c.event.ensures.fits
