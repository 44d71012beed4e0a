use Rattle.std.proofs.Common.{◌+◌, ℕ, List, ◌∷◌, drop, get_or, subst}
use Rattle.list_laws.proofs.GoneThrough.{front_and_rest}
use Rattle.cca_base.specs.PlantModel.{PlantModel}
use Rattle.cca_base.specs.Steps.{Step}
use Rattle.plan_checker.specs.Steps.{NoStep}
use Rattle.plan_checker.proofs.RunLaws.{IsOnWay, goes_on, stops}
use Rattle.plan_checker.proofs.run.run.Goals as goal

pub returns-then-not-branch-clause-none : goal.returns-then-not-branch-clause-none
returns-then-not-branch-clause-none c _ =
    let m : PlantModel = c.args.rules.now.model.now in
    let start : List ℕ = c.args.state.now.modes in
    let here : List ℕ = c.loop-command.state.modes in
    let ks : List ℕ = c.args.commands.now in
    let i : ℕ = c.loop-command.command-index in
    let k : ℕ = get_or ks i 0 in
    let way : IsOnWay m start ks here (k ∷ drop (i + 1) ks) = subst (IsOnWay m start ks here) (front_and_rest ks i c.loop-command-test.true) c.loop-command.invariant.on_way in
    let none : NoStep m here k = c.in_ok-make_step.ensures.none c.if-not-branch.true in
    stops m start ks here k (drop (i + 1) ks) way none

pub loop-command-preserved : goal.loop-command-preserved
loop-command-preserved c =
    let m : PlantModel = c.args.rules.now.model.now in
    let start : List ℕ = c.args.state.now.modes in
    let here : List ℕ = c.loop-command.state.modes in
    let next : List ℕ = c.make_step.new.state.modes in
    let ks : List ℕ = c.args.commands.now in
    let i : ℕ = c.loop-command.command-index in
    let k : ℕ = get_or ks i 0 in
    let way : IsOnWay m start ks here (k ∷ drop (i + 1) ks) = subst (IsOnWay m start ks here) (front_and_rest ks i c.loop-command-test.true) c.loop-command.invariant.on_way in
    let step : Step m here k next = c.in_ok-make_step.ensures.made c.if-not-branch.false in
    record {
      on_way = goes_on m start ks c.moves-moves.ensures.well_formed.commands here next k (drop (i + 1) ks) way step;
      state = c.in_ok-make_step.ensures.state;
      space = c.in_ok-make_step.ensures.space;
    }
