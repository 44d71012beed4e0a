use Rattle.std.proofs.Common.{Some, sym, subst}
use Rattle.std.proofs.lemmas.Bool.{both_ways}
use Rattle.cca_base.specs.State.{IsState}
use Rattle.cca_base.specs.Successors.{Nominal}
use Rattle.plan_checker.proofs.NamedMoves.{commanded, guard_fails, named_state}
use Rattle.plan_checker.proofs.step.make_nominal.Goals as goal

pub returns-then-branch-clause-nominal : goal.returns-then-branch-clause-nominal
returns-then-branch-clause-nominal c =
    let m = c.args.rules.now.model.now in
    let s = c.args.state.now.modes in
    subst (λ k. Nominal m s k c.set.new.self) (sym c.in-Some.is)
    (subst (Nominal m s (Some c.in-Some.command)) (sym c.set.ensures)
    (commanded m s c.in-Some.command c.in-Some-named.step.now c.in-Some-named.ensures.some (c.in_ok-guard_holds.ensures.holds.0 c.if-branch.true)))

pub returns-then-branch-clause-state : goal.returns-then-branch-clause-state
returns-then-branch-clause-state c =
    subst (IsState c.args.rules.now.model.now) (sym c.set.ensures)
    (named_state c.args.rules.now.model.now c.args.state.now.modes c.in-Some.command c.in-Some-named.step.now c.in-Some-named.ensures.some c.named.ensures.well_formed c.requires.state)

pub returns-else-branch-clause-nominal : goal.returns-else-branch-clause-nominal
returns-else-branch-clause-nominal c =
    let m = c.args.rules.now.model.now in
    let s = c.args.state.now.modes in
    subst (λ k. Nominal m s k s) (sym c.in-Some.is)
    (guard_fails m s c.in-Some.command c.named.ensures.well_formed.commands c.in-Some-named.step.now c.in-Some-named.ensures.some
    (λ holds. both_ways c.in_ok-guard_holds.field-0 c.if-branch.false (c.in_ok-guard_holds.ensures.holds.1 holds)))
