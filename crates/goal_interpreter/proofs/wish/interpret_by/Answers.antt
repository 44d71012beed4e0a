use Rattle.std.proofs.Common.{◌≡◌, ◌∙◌, true, length, None, Some, All, sym, ap, subst}
use Rattle.cca_base.specs.Accepted.{CompiledModel}
use Rattle.cca_base.specs.Formula.{is_within}
use Rattle.cca_base.specs.Model.{HasMode}
use Rattle.cca_base.specs.PlantModel.{PlantModel}
use Rattle.cca_base.specs.State.{IsState}
use Rattle.guard_compiler.specs.Wishes.{AreImplicants}
use Rattle.planner_step.specs.Planning.{member_of}
use Rattle.reversibility.specs.ClassParts.{ClassParts}
use Rattle.wish_laws.specs.Settled.{IsGoalOf, IsTarget}
use Rattle.goal_interpreter.specs.declared.target.TheConstants.{MAX_IMPLICANTS}
use Rattle.goal_interpreter.specs.Choosing.{IsLightestAmong}
use Rattle.goal_interpreter.proofs.Interpreted.{among_from, ends_in, few_from, goal_for_plans, implicants_from, modes_in, none_holds, reached, target_is}
use Rattle.goal_interpreter.proofs.wish.interpret_by.Goals as goal

-- a model that is read of other classes is that of the tables
same_model : (a : PlantModel) (b : CompiledModel) (x y : ClassParts) → a ≡ b.model → b ≡ x.compiled → x ≡ y → a ≡ y.compiled.model
same_model a b x y e f g = e ∙ ap (λ z. z.model) f ∙ ap (λ z. z.compiled.model) g

pub wish_implicants-requires-clause-formula : goal.wish_implicants-requires-clause-formula
wish_implicants-requires-clause-formula c =
    let t = c.args.tables.now in
    subst (λ (m : PlantModel). is_within (length m.components) (length m.variables) c.args.formula.now ≡ true)
    (sym (same_model c.model.result.now c.compiled-compiled.result.now c.classes-classes.result.now t.classes c.model.ensures.value c.compiled-compiled.ensures.value c.classes-classes.ensures.value))
    c.requires.formula

pub choose-requires-clause-cubes : goal.choose-requires-clause-cubes
choose-requires-clause-cubes c =
    let t = c.args.tables.now in
    let m = t.classes.compiled.model in
    let f = c.args.formula.now in
    let is = same_model c.model.result.now c.compiled-compiled.result.now c.classes-classes.result.now t.classes c.model.ensures.value c.compiled-compiled.ensures.value c.classes-classes.ensures.value in
    let are = implicants_from m c.model.result.now f c.in_ok-cubes.field-0 c.in-Every.cubes is c.in-Every.is c.in_ok-cubes.ensures.every in
    subst (λ (n : PlantModel). All (All (λ p. HasMode n p.item p.value)) c.in-Every.cubes) (sym (ap (λ z. z.compiled.model) c.classes-classes.ensures.value)) (modes_in m f c.in-Every.cubes are)

pub returns-in-None-clause-target : goal.returns-in-None-clause-target
returns-in-None-clause-target c =
    let t = c.args.tables.now in
    let m = t.classes.compiled.model in
    let f = c.args.formula.now in
    let is = same_model c.model.result.now c.compiled-compiled.result.now c.classes-classes.result.now t.classes c.model.ensures.value c.compiled-compiled.ensures.value c.classes-classes.ensures.value in
    let are = implicants_from m c.model.result.now f c.in_ok-cubes.field-0 c.in-Every.cubes is c.in-Every.is c.in_ok-cubes.ensures.every in
    let all = among_from t.classes c.classes-classes.result.now c.args.weights.now.rows c.args.state.now.modes c.in-Every.cubes c.in_ok-choose.field-0 None c.classes-classes.ensures.value
    c.in-None.is c.in_ok-choose.ensures in (
      few_from m f c.in_ok-cubes.field-0 c.in-Every.cubes MAX_IMPLICANTS are c.in-Every.is c.in_ok-cubes.ensures.few,
      none_holds t c.classes-classes.ensures.tables c.args.state.now.modes c.requires.covers f c.in-Every.cubes are c.args.weights.now.rows all,
    )

-- ---- where a target is found

are : (c : goal.After-drop-cubes-inside-2) → AreImplicants c.args.tables.now.classes.compiled.model c.args.formula.now c.in-Every.cubes
are c =
    let t = c.args.tables.now in
    let is = same_model c.model.result.now c.compiled-compiled.result.now c.classes-classes.result.now t.classes c.model.ensures.value c.compiled-compiled.ensures.value c.classes-classes.ensures.value in
    implicants_from t.classes.compiled.model c.model.result.now c.args.formula.now c.in_ok-cubes.field-0 c.in-Every.cubes is c.in-Every.is c.in_ok-cubes.ensures.every

among : (c : goal.After-drop-cubes-inside-2)
    → IsLightestAmong c.args.tables.now.classes.compiled.model (member_of c.args.tables.now) c.args.weights.now.rows c.args.state.now.modes c.in-Every.cubes (Some c.in-Some.best)
among c =
    among_from c.args.tables.now.classes c.classes-classes.result.now c.args.weights.now.rows c.args.state.now.modes c.in-Every.cubes c.in_ok-choose.field-0 (Some c.in-Some.best)
    c.classes-classes.ensures.value c.in-Some.is c.in_ok-choose.ensures

target : (c : goal.After-drop-cubes-inside-2) → IsTarget c.args.tables.now.classes.compiled.model c.args.weights.now.rows c.args.state.now.modes c.args.formula.now c.in-Some.best.state.modes
target c =
    target_is c.args.tables.now c.classes-classes.ensures.tables c.args.state.now.modes c.requires.covers c.args.formula.now c.in-Every.cubes (are c) c.args.weights.now.rows c.requires.weights
    c.in-Some.best (among c)

state : (c : goal.After-drop-cubes-inside-2) → IsState c.args.tables.now.classes.compiled.model c.in-Some.best.state.modes
state c = (among c).0.2.0.stands.state

goal_is : (c : goal.After-drop-cubes-inside-2) → IsGoalOf c.args.tables.now.classes.compiled c.in-Some.best.state.modes c.in_ok-goal-in-Some.goal.pairs
goal_is c =
    subst (λ b. IsGoalOf b c.in-Some.best.state.modes c.in_ok-goal-in-Some.goal.pairs) (c.compiled-compiled.ensures.value ∙ ap (λ z. z.compiled) c.classes-classes.ensures.value) c.in_ok-goal-in-Some.ensures

pub returns-clause-target : goal.returns-clause-target
returns-clause-target c = record {
  few = few_from c.args.tables.now.classes.compiled.model c.args.formula.now c.in_ok-cubes.field-0 c.in-Every.cubes MAX_IMPLICANTS (are c) c.in-Every.is c.in_ok-cubes.ensures.few;
  target = target c;
  weight = (among c).0.2.1;
  goal = goal_is c;
}

pub returns-clause-state : goal.returns-clause-state
returns-clause-state c = state c

pub returns-clause-goal : goal.returns-clause-goal
returns-clause-goal c =
    goal_for_plans c.args.tables.now c.classes-classes.ensures.tables c.args.state.now.modes c.requires.covers c.in-Some.best.state.modes (target c).settled c.in_ok-goal-in-Some.goal.pairs (goal_is c) (state c)

pub returns-clause-reached : goal.returns-clause-reached
returns-clause-reached c =
    reached c.args.tables.now c.classes-classes.ensures.tables c.args.state.now.modes c.requires.covers c.in-Some.best.state.modes (target c).settled c.in_ok-goal-in-Some.goal.pairs (goal_is c) (state c)

pub returns-clause-plans : goal.returns-clause-plans
returns-clause-plans c =
    ends_in c.args.tables.now c.classes-classes.ensures.tables c.args.state.now.modes c.requires.covers c.in-Some.best.state.modes (target c).settled c.in_ok-goal-in-Some.goal.pairs (goal_is c)
