use Rattle.std.proofs.Common.{sym, subst}
use Rattle.std.proofs.lemmas.Bool.{both_ways}
use Rattle.cca_base.specs.State.{IsState}
use Rattle.cca_base.specs.Steps.{Step}
use Rattle.plan_checker.proofs.NamedMoves.{step_of, no_guard, named_within, named_state}
use Rattle.plan_checker.proofs.step.make_step.Goals as goal

pub returns-then-not-branch-clause-none : goal.returns-then-not-branch-clause-none
returns-then-not-branch-clause-none c _ =
    no_guard c.args.rules.now.model.now c.args.state.now.modes c.args.command c.named.ensures.well_formed.commands c.in-Some.step.now c.in-Some.ensures.some
    (λ follows. both_ways c.in_ok-guard_follows.field-0 c.if-not-branch.true (c.in_ok-guard_follows.ensures.follows.1 follows))

pub set-requires : goal.set-requires
set-requires c = named_within c.args.rules.now.model.now c.args.state.now.modes c.args.command c.in-Some.step.now c.in-Some.ensures.some

pub returns-clause-made : goal.returns-clause-made
returns-clause-made c _ =
    subst (Step c.args.rules.now.model.now c.args.state.now.modes c.args.command) (sym c.set.ensures)
    (step_of c.args.rules.now.model.now c.args.state.now.modes c.args.command c.in-Some.step.now c.in-Some.ensures.some (c.in_ok-guard_follows.ensures.follows.0 c.if-not-branch.false))

pub returns-clause-state : goal.returns-clause-state
returns-clause-state c =
    subst (IsState c.args.rules.now.model.now) (sym c.set.ensures)
    (named_state c.args.rules.now.model.now c.args.state.now.modes c.args.command c.in-Some.step.now c.in-Some.ensures.some c.named.ensures.well_formed c.requires.state)
