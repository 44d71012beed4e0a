use Rattle.std.proofs.Common.{◌↔◌, Bool, IsTrue, ap}
use Rattle.std.specs.Option.{option_copied}
use Rattle.std.proofs.lemmas.Result.{IfOk-weaker}
use Rattle.cca_base.specs.Trace.{ExecutiveState}
use Rattle.plan_checker.specs.Reasons.{ExplainsTick, HasItsWorld}
use Rattle.plan_checker.specs.Ticks.{printed_of}
use Rattle.plan_checker.proofs.RouteLaws.{world_explains}
use Rattle.plan_checker.proofs.judged.has_its_world.Goals as goal

pub returns-clause-world : goal.returns-clause-world
returns-clause-world c =
    let m = c.args.rules.now.model.now in
    let x : ExecutiveState = c.args.standing.now in
    let state = c.in-Estimated.state in
    let w = c.in-Some.world.now in
    IfOk-weaker c.explains_tick.result (λ (b : Bool). IsTrue b ↔ ExplainsTick m x state.modes w.values) (λ (b : Bool). IsTrue b ↔ HasItsWorld m x (printed_of c.args.tick.now))
    (world_explains m x c.args.tick.now.report.now c.in-Estimated.cost state (option_copied c.args.tick.now.world) (option_copied c.args.tick.now.route) c.in-Estimated.reply w c.in-Estimated.is (ap option_copied c.in-Some.is))
    c.explains_tick.ensures.explains
