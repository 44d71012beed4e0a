use Rattle.std.proofs.Common.{◌≡◌, All, Result, Ok, Err, sym, subst}
use Rattle.std.specs.Result.{result_ok}
use Rattle.std.specs.Prelude.{IfOk, IfSome}
use Rattle.cca_base.specs.Model.{IsFormula}
use Rattle.control_program.specs.Formulas.{formulas_left}
use Rattle.control_program.proofs.ProgramFormulas.{formulas_of_whole}
use Rattle.conformance_run.proofs.programs.runner_of.Goals as goal

-- what holds of a value holds of an answer that is this value
of_answer : {A E : Type 0} (r : Result A E) (P : A → Type 0) (value : A) → P value → IfOk r (λ x. x ≡ value) → IfSome (result_ok r) P
of_answer (Ok x) P value h is = subst P (sym is) h
of_answer (Err e) P value h is = tt

pub returns : goal.returns
returns c =
    let model = c.args.model.now in
    let program = c.in_ok-program.program in
    let may_run = c.in_ok-program.ensures in
    subst (λ o. IfSome o (λ r. All (IsFormula model) (formulas_left r.program))) (sym c.ok.ensures.value)
    (of_answer c.open.result (λ r. All (IsFormula model) (formulas_left r.program)) _ (formulas_of_whole (IsFormula model) program may_run.range.formulas) c.open.ensures)
