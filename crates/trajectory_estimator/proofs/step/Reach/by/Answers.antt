use Rattle.std.proofs.Common.{◌≡◌, ◌+◌, ℕ, true, Some, sym, subst, arith}
use Rattle.cca_base.specs.Sets.{has}
use Rattle.trajectory_estimator.specs.Steps.{IsLeastOf, IsStepToBy}
use Rattle.trajectory_estimator.proofs.LeastSteps.{by_none, by_some}
use Rattle.trajectory_estimator.proofs.step.Reach.by.Goals as goal

pub returns-in_err-own : goal.returns-in_err-own
returns-in_err-own c = λ q n at from to ahead h.
    by_none q n at from ahead to c.args.gate c.from_residual.result c.from_residual.ensures (c.in_err-own.ensures q n at from to h.costs)

pub returns : goal.returns
returns c = λ q n at from to ahead h.
    let own = c.in_ok-own.own in
    let reach = c.args.self.now in
    let gate = c.args.gate in
    let total = c.saturating_add.result in
    let costs = c.in_ok-own.ensures q n at from to h.costs in
    let may : has ahead.gates gate ≡ true = subst (λ gates. has gates gate ≡ true) h.gates (sym c.if-not-has_value.ensures) in
    let whole : total ≡ own + reach.rest = omega (arith, c.saturating_add.ensures, costs.1, h.cheap) in
    subst (λ (k : ℕ). IsLeastOf (IsStepToBy q n at from ahead to gate) (Some (record { to = k; gate = gate; own = own; total = total }))) (sym h.target)
    (by_some q n at from ahead to gate own reach.rest total h.model h.mode may h.behind costs whole)
