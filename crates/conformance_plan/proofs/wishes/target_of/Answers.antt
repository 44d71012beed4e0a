use Rattle.std.proofs.Common.{◌∙◌, ap, subst}
use Rattle.cca_base.specs.Accepted.{CompiledModel}
use Rattle.cca_base.specs.Model.{IsFormula}
use Rattle.cca_base.specs.PlantModel.{PlantModel}
use Rattle.cca_base.proofs.HeldFormulas.{formula_within}
use Rattle.reversibility.specs.ClassParts.{ClassParts}
use Rattle.conformance_plan.proofs.wishes.target_of.Goals as goal

pub interpret-requires-clause-formula : goal.interpret-requires-clause-formula
interpret-requires-clause-formula c =
    let model = c.model-model.ensures.value ∙ ap (λ (b : CompiledModel). b.model) c.compiled.ensures.value ∙ ap (λ (p : ClassParts). p.compiled.model) c.classes.ensures.value in
    formula_within c.args.tables.now.classes.compiled.model c.in_ok-formula.formula (subst (λ (m : PlantModel). IsFormula m c.in_ok-formula.formula) model c.in_ok-formula.ensures)
