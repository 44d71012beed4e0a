use Rattle.std.proofs.Common.{List, ℕ, ◌++◌, refl, sym, ap, subst, ◌∙◌}
use Rattle.cca_base.specs.Accepted.{CompiledModel}
use Rattle.cca_base.proofs.HeldFormulas.{formula_within}
use Rattle.cca_base.specs.Model.{IsFormula}
use Rattle.cca_base.specs.PlantModel.{PlantModel}
use Rattle.goal_interpreter.specs.Targets.{IsTargetFor}
use Rattle.trace_text.specs.TargetLines.{target_text}
use Rattle.want_form.proofs.Answering.{found, nowhere}
use Rattle.want_form.specs.Answered.{none_line}
use Rattle.want_form.specs.WishMachine.{WishState}
use Rattle.want_form.proofs.wishing.Wishing.answer_by.Goals as goal

pub interpret_by-requires-clause-formula : goal.interpret_by-requires-clause-formula
interpret_by-requires-clause-formula c =
    formula_within c.args.tables.now.classes.compiled.model c.args.formula.now (subst (λ (b : CompiledModel). IsFormula b.model c.args.formula.now) (sym c.requires.compiled) c.requires.formula)

pub returns-in_ok-push-in-Found-clause-answers : goal.returns-in_ok-push-in-Found-clause-answers
returns-in_ok-push-in-Found-clause-answers c =
    let t = c.args.tables.now in
    let s = c.state-from.result.now.modes in
    let of_wish = subst (λ (z : WishState). IsTargetFor t.classes.compiled z.settings.weights s c.args.formula.now c.in_ok-state.field-0) c.self.view_is c.in_ok-state.ensures.target in
    let model = c.model-model.ensures.value ∙ ap (λ (b : CompiledModel). b.model) c.deref.ensures ∙ ap (λ (z : WishState). z.compiled.model) c.self.view_is in
    let words = c.in_ok-text-in-Found.ensures ∙ ap (λ (m : PlantModel). target_text m c.in-Found.weight c.in-Found.state.modes c.in_ok-plan-in-Found.plan) model in
    let is = found c.args.self.now c.args.number c.args.formula.now t s c.requires.compiled (c.state-from.ensures ∙ ap (λ (z : WishState). z.settings.modes) c.self.view_is) c.in_ok-state.field-0 c.in-Found.state c.in-Found.weight c.in-Found.goal
    c.in_ok-plan-in-Found.plan c.in_ok-text-in-Found.text c.in-Found.is of_wish c.in_ok-state.ensures.plans c.in_ok-plan-in-Found.ensures words in
    record { text = c.in_ok-text-in-Found.text; is = is; behind = c.in_ok-push-in-Found.ensures.pushes.ok ∙ ap (λ (z : List ℕ). c.args.out.now.bytes ++ z) c.as_slice.ensures }

pub returns-in_ok-push-in-Nowhere-clause-answers : goal.returns-in_ok-push-in-Nowhere-clause-answers
returns-in_ok-push-in-Nowhere-clause-answers c =
    let t = c.args.tables.now in
    let s = c.state-from.result.now.modes in
    let of_wish = subst (λ (z : WishState). IsTargetFor t.classes.compiled z.settings.weights s c.args.formula.now c.in_ok-state.field-0) c.self.view_is c.in_ok-state.ensures.target in
    let is = nowhere c.args.self.now c.args.number c.args.formula.now t s c.requires.compiled (c.state-from.ensures ∙ ap (λ (z : WishState). z.settings.modes) c.self.view_is) c.in_ok-state.field-0 none_line
    c.in-Nowhere.is of_wish refl in
    record { text = none_line; is = is; behind = c.in_ok-push-in-Nowhere.ensures.pushes.ok }
