use Rattle.std.proofs.Common.{ℕ, List, Option, subst, eq-eqb, eqb-true}
use Rattle.std.proofs.lemmas.Bool.{false≢true}
use Rattle.cca_base.specs.declared.state.State.{State}
use Rattle.cca_base.specs.PlantModel.{PlantModel}
use Rattle.cca_base.specs.State.{IsState}
use Rattle.cca_base.specs.Successors.{Costs, Nominal}
use Rattle.plan_checker.proofs.CostSums.{costs_of, one_sum, no_costs}
use Rattle.plan_checker.proofs.cost.has_cost.Goals as goal

pub returns-in-Some-clause-cost : goal.returns-in-Some-clause-cost
returns-in-Some-clause-cost c =
    let m : PlantModel = c.args.rules.now.model.now in
    let s : List ℕ = c.args.last.now.modes in
    let s2 : List ℕ = c.args.state.now.modes in
    let k : Option ℕ = c.args.command in
    let nominal : List ℕ = c.make_nominal.new.state.modes in
    let state : IsState m s2 = c.is_state.ensures.0 c.if-not-is_state.false in
    let is : Nominal m s k nominal = subst (λ (l : State). Nominal m l.modes k nominal) c.in_ok-nominal.ensures c.in_ok-make_nominal.ensures.nominal in
    let good = c.moves-moves.ensures.well_formed in (
      λ t. subst (Costs m s k s2) (eqb-true c.in-Some.sum c.args.cost t) (costs_of m s k nominal s2 good is c.in-Some.sum state c.in-Some.ensures),
      λ costs. eq-eqb c.in-Some.sum c.args.cost (one_sum m s k nominal s2 good is c.in-Some.sum c.args.cost state c.in-Some.ensures costs),
    )

pub returns-clause-cost : goal.returns-clause-cost
returns-clause-cost c =
    let m : PlantModel = c.args.rules.now.model.now in
    let s : List ℕ = c.args.last.now.modes in
    let s2 : List ℕ = c.args.state.now.modes in
    let k : Option ℕ = c.args.command in
    let nominal : List ℕ = c.make_nominal.new.state.modes in
    let is : Nominal m s k nominal = subst (λ (l : State). Nominal m l.modes k nominal) c.in_ok-nominal.ensures c.in_ok-make_nominal.ensures.nominal in (
      λ t. absurd (false≢true t),
      λ costs. absurd (no_costs m s k nominal s2 c.moves-moves.ensures.well_formed is c.args.cost c.in-None.ensures costs),
    )
