use Rattle.std.proofs.Common.{sym, subst}
use Rattle.cca_base.specs.Trace.{ExecutiveState, MayCome}
use Rattle.plan_checker.specs.Standing.{FitsModel, KeepsPending}
use Rattle.plan_checker.proofs.EventsFit.{event_fits, event_keeps}
use Rattle.plan_checker.proofs.checker.Checker.event.Goals as goal

pub invariant_of-self : goal.invariant_of-self
invariant_of-self c = subst KeepsPending (sym c.in_err-change.ensures.err) c.self.invariant

pub invariant_of-self-2 : goal.invariant_of-self-2
invariant_of-self-2 c =
    let m = c.args.model.now in
    let x : ExecutiveState = c.self.inside.standing in
    let may : MayCome m x.pending x.mirrored c.args.event.now = subst (λ (z : ExecutiveState). MayCome m z.pending z.mirrored c.args.event.now) (sym c.self.view_is) c.requires.may_come in
    event_keeps m x c.args.event.now c.change.new.self c.self.invariant may c.in_ok-change.ensures.ok

pub returns-clause-fits : goal.returns-clause-fits
returns-clause-fits c =
    let m = c.args.model.now in
    let x : ExecutiveState = c.self.inside.standing in
    let may : MayCome m x.pending x.mirrored c.args.event.now = subst (λ (z : ExecutiveState). MayCome m z.pending z.mirrored c.args.event.now) (sym c.self.view_is) c.requires.may_come in
    event_fits m x c.args.event.now c.change.new.self c.moves-moves.ensures.well_formed (subst (FitsModel m) (sym c.self.view_is) c.requires.fits) may c.in_ok-change.ensures.ok
