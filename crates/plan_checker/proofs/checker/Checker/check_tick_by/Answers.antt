use Rattle.std.proofs.Common.{rules, ◌≡◌, refl, sym, subst}
use Rattle.cca_base.specs.PlantModel.{PlantModel}
use Rattle.cca_base.specs.Trace.{ExecutiveState}
use Rattle.plan_checker.specs.Checked.{OnYes, ShowsSuccessor, ShowsReply, ShowsSafety}
use Rattle.plan_checker.specs.declared.verdict.Verdict.TheVariants.{Yes}
use Rattle.plan_checker.specs.Reasons.{Printed, printed, IsVerdict}
use Rattle.plan_checker.specs.Standing.{FitsModel}
use Rattle.plan_checker.proofs.TakesFit.{yes_fits}
use Rattle.plan_checker.proofs.YesShows.{yes_shows}
use Rattle.plan_checker.proofs.checker.Checker.check_tick_by.Goals as goal

pub take-requires-clause-next : goal.take-requires-clause-next
take-requires-clause-next c =
    let e : c.in_ok-verdict.verdict ≡ Yes = search rules in
    let t : Printed = printed c.args.report.now c.args.world c.args.route in
    let v = subst (λ m. IsVerdict m c.self.inside.standing t Yes) c.rules_of-rules.ensures.model (subst (IsVerdict c.rules_of-rules.result.model.now c.self.inside.standing t) e c.in_ok-verdict.ensures.verdict) in
    ((v 1).line refl).number

pub returns-clause-fits : goal.returns-clause-fits
returns-clause-fits c =
    let m : PlantModel = c.args.model.now in
    let x : ExecutiveState = c.self.inside.standing in
    let t : Printed = printed c.args.report.now c.args.world c.args.route in
    let fits : FitsModel m x = subst (FitsModel m) (sym c.self.view_is) c.requires.fits in
    let e : c.in_ok-verdict.verdict ≡ Yes = search rules in
    let v : IsVerdict m x t Yes = rw (← c.rules_of-rules.ensures.model) (subst (IsVerdict c.rules_of-rules.result.model.now x t) e c.in_ok-verdict.ensures.verdict) in
    yes_fits m c.rules_of-rules.ensures.well_formed x t c.take.new.standing fits v (rw (← c.rules_of-rules.ensures.model) c.in_ok-take.ensures.takes)

-- what a yes shows
shows : (c : goal.Joined-space-4) → OnYes c.in_ok-verdict.verdict (ShowsSuccessor c.args.model.now c.args.self.now (printed c.args.report.now c.args.world c.args.route))
    × OnYes c.in_ok-verdict.verdict (ShowsReply c.args.self.now (printed c.args.report.now c.args.world c.args.route))
    × OnYes c.in_ok-verdict.verdict (ShowsSafety c.args.model.now c.args.self.now (printed c.args.report.now c.args.world c.args.route))
shows c = yes_shows c.args.model.now c.self.inside.standing c.args.self.now (printed c.args.report.now c.args.world c.args.route) c.in_ok-verdict.verdict c.rules_of-rules.ensures.well_formed
    c.self.view_is (rw (← c.rules_of-rules.ensures.model) c.in_ok-verdict.ensures.verdict) (rw (← c.rules_of-rules.ensures.model) c.in_ok-verdict.ensures.seen)

pub returns-clause-successor : goal.returns-clause-successor
returns-clause-successor c = (shows c).0

pub returns-clause-reply : goal.returns-clause-reply
returns-clause-reply c = (shows c).1

pub returns-clause-safety : goal.returns-clause-safety
returns-clause-safety c = (shows c).2
