use Rattle.std.proofs.Common.{[], ◌∷◌, ◌++◌, Some, ap, subst, sym}
use Rattle.cca_base.specs.declared.model.Failure.{Failure}
use Rattle.cca_base.specs.LeastCosts.{IsLeast}
use Rattle.cca_base.proofs.LeastFailures.{least_more, least_same}
use Rattle.plan_checker.proofs.cost.with_failure.Goals as goal

pub returns-then-failure-component : goal.returns-then-failure-component
returns-then-failure-component c fs h =
    least_same fs c.args.failure.now c.args.component c.args.from c.args.to c.args.least (λ cost e. c.if-failure-component.true (ap (λ (f : Failure). f.component) e)) h

pub returns-then-failure-from : goal.returns-then-failure-from
returns-then-failure-from c fs h =
    least_same fs c.args.failure.now c.args.component c.args.from c.args.to c.args.least (λ cost e. c.if-failure-from.true (ap (λ (f : Failure). f.source) e)) h

pub returns-then-failure-to : goal.returns-then-failure-to
returns-then-failure-to c fs h =
    least_same fs c.args.failure.now c.args.component c.args.from c.args.to c.args.least (λ cost e. c.if-failure-to.true (ap (λ (f : Failure). f.target) e)) h

pub returns : goal.returns
returns c fs h =
    subst (λ n. IsLeast (fs ++ c.args.failure.now ∷ []) c.args.component c.args.from c.args.to (Some n)) (sym c.lesser.ensures)
    (least_more fs c.args.failure.now c.args.component c.args.from c.args.to c.args.least c.if-failure-component.false c.if-failure-from.false c.if-failure-to.false h)
