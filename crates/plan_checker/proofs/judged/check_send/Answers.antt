use Rattle.std.proofs.Common.{ap, ◌∙◌}
use Rattle.std.specs.Option.{option_copied}
use Rattle.std.proofs.lemmas.Result.{IfOk-weaker}
use Rattle.cca_base.specs.declared.events.Shown.TheVariants.{Estimated}
use Rattle.cca_base.specs.Trace.{ExecutiveState}
use Rattle.plan_checker.specs.Routes.{IsRouteVerdict, IsSendVerdict}
use Rattle.plan_checker.specs.Ticks.{printed_of}
use Rattle.plan_checker.proofs.RouteLaws.{send_verdict}
use Rattle.plan_checker.proofs.judged.check_send.Goals as goal

pub returns-clause-verdict : goal.returns-clause-verdict
returns-clause-verdict c =
    let m = c.args.rules.now.model.now in
    let x : ExecutiveState = c.args.standing.now in
    let cost = c.in-Estimated.cost in
    let state = c.in-Estimated.state in
    let k = c.in-Send.command in
    IfOk-weaker c.check_route.result (IsRouteVerdict m state.modes x.goal k c.in-Some.route.now) (IsSendVerdict m x (printed_of c.args.tick.now))
    (send_verdict m x c.args.tick.now.report.now cost state (option_copied c.args.tick.now.world) (option_copied c.args.tick.now.route) k c.in-Some.route.now (c.in-Estimated.is ∙ ap (Estimated cost state) c.in-Send.is)
    (ap option_copied c.in-Some.is)) (rw (← c.standing.view_is) c.check_route.ensures.verdict)
