use Rattle.std.proofs.Common.{List, take, sym, subst, ◌∙◌, arith}
use Rattle.std.proofs.lemmas.List.{take_more, take_all}
use Rattle.cca_base.specs.declared.model.Failure.{Failure}
use Rattle.cca_base.specs.LeastCosts.{IsLeast}
use Rattle.plan_checker.proofs.cost.least_cost.Goals as goal

pub loop-failure-preserved : goal.loop-failure-preserved
loop-failure-preserved c =
    let none : Failure = record { component = 0; source = 0; target = 0; cost = 0 } in
    let items : List Failure = c.as_slice-failure-items.result.now in
    let i = c.loop-failure.failure-index in
    subst (λ (fs : List Failure). IsLeast fs c.args.component c.args.from c.args.to c.with_failure-least.result) (sym (take_more items i none c.loop-failure-test.true))
    (c.with_failure-least.ensures (take i items) c.loop-failure.invariant)

pub returns : goal.returns
returns c =
    let items = c.as_slice-failure-items.ensures ∙ c.failures.ensures.value in
    let all = take_all c.loop-failure.failure-index c.as_slice-failure-items.result.now (omega arith) ∙ items in
    subst (λ (fs : List Failure). IsLeast fs c.args.component c.args.from c.args.to c.loop-failure.least) all c.loop-failure.invariant
