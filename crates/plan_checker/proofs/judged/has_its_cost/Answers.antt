use Rattle.std.proofs.Common.{◌↔◌, Bool, IsTrue, sym, subst}
use Rattle.std.proofs.lemmas.Result.{IfOk-weaker}
use Rattle.cca_base.specs.declared.events.Shown.{Shown}
use Rattle.cca_base.specs.Successors.{Costs}
use Rattle.cca_base.specs.Trace.{ExecutiveState}
use Rattle.plan_checker.specs.Reasons.{OnEstimate}
use Rattle.plan_checker.proofs.judged.has_its_cost.Goals as goal

pub returns-clause-cost : goal.returns-clause-cost
returns-clause-cost c =
    let m = c.args.rules.now.model.now in
    let x : ExecutiveState = c.args.standing.now in
    let P : Shown → Type 0 = λ shown. OnEstimate shown (λ cost s reply. Costs m x.estimate x.command s cost) in
    IfOk-weaker c.has_cost.result (λ (b : Bool). IsTrue b ↔ Costs m x.estimate x.command c.in-Estimated.state.modes c.in-Estimated.cost) (λ (b : Bool). IsTrue b ↔ P c.args.tick.now.report.now.shown)
    (λ b h. subst (λ (shown : Shown). IsTrue b ↔ P shown) (sym c.in-Estimated.is) h) (rw (← c.standing.view_is) c.has_cost.ensures.cost)
