use Rattle.std.proofs.Common.{◌≡◌, All, IfSome, sym, ap, subst, ◌∙◌}
use Rattle.std.proofs.lemmas.List.Elements.{All-weaker}
use Rattle.cca_base.specs.Accepted.{CompiledModel}
use Rattle.cca_base.specs.Model.{IsFormula}
use Rattle.cca_base.specs.PlantModel.{PlantModel}
use Rattle.cca_base.proofs.HeldFormulas.{formula_within}
use Rattle.control_program.specs.Formulas.{IsWithin, formulas_left}
use Rattle.program_form.specs.ProgramMachine.{ProgramState}
use Rattle.program_form.specs.Stages.{RunsWell}
use Rattle.program_form.proofs.programmed.Programmed.begin.Goals as goal

pub of-requires-clause-formulas : goal.of-requires-clause-formulas
of-requires-clause-formulas c =
    let m = c.model-model.result.now in
    let own = c.args.self.now.compiled.model in
    let runner = c.in-Some.runner in
    let model : m ≡ own = c.model-model.ensures.value ∙ ap (λ (b : CompiledModel). b.model) c.compiled.ensures.value ∙ ap (λ (x : ProgramState). x.compiled.model) c.self.view_is in
    let well : RunsWell own runner = subst (λ r. IfSome r (RunsWell own)) c.in-Some.is c.requires.well in
    All-weaker (IsFormula m) (IsWithin m) (formula_within m) (formulas_left runner.program) (subst (λ (k : PlantModel). All (IsFormula k) (formulas_left runner.program)) (sym model) well.formulas)
