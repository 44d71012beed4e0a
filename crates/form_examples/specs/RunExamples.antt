-- How a report and a refusal are printed in each notation.
use Rattle.std.specs.Prelude.{◌≡◌, ℕ, List, [], ◌∷◌, ◌++◌, codes}
use Rattle.cca_base.specs.Accepted.{CompiledModel}
use Rattle.cca_base.specs.Refusals.{bare}
use Rattle.cca_base.specs.Trace.{ExecutiveState}
use Rattle.cca_base.specs.declared.codes.TheConstants.{MALFORMED}
use Rattle.cca_base.specs.declared.events.Shown.TheVariants.{Holding, Unexplained}
use Rattle.cca_base.specs.declared.events.TickReport.{TickReport}
use Rattle.cca_base.specs.PlantModel.{PlantModel}
use Rattle.trace_text.specs.Json.{refusal_text}
use Rattle.run_form.specs.Notations.{is_json}
use Rattle.run_form.specs.TickTexts.{TickText}
use Rattle.run_form.specs.declared.notation.Notation.{Notation}
use Rattle.run_form.specs.declared.notation.Notation.TheVariants.{Words, Json, Proof, Summary}

-- reports of ticks without an estimate
abbrev pub third_unexplained : TickReport
third_unexplained = record { tick = 3; shown = Unexplained }

abbrev pub fourth_holding : TickReport
fourth_holding = record { tick = 4; shown = Holding }

-- the line of a line that has no form
abbrev pub refused_in : Notation → PlantModel → List ℕ
refused_in notation m = refusal_text (is_json notation) m 7 (bare MALFORMED)

-- what is printed of such ticks and of a refused line: in words, as JSON, and in words with proofs; a summary has no lines of ticks
pub record ReportsAreNoted : Type 0 where
  pub words : (b : CompiledModel) (x : ExecutiveState) → TickText Words b x third_unexplained (codes "tick 3 unexplained" ++ 10 ∷ [])
  pub holds : (b : CompiledModel) (x : ExecutiveState) → TickText Words b x fourth_holding (codes "tick 4 holding" ++ 10 ∷ [])
  pub json : (b : CompiledModel) (x : ExecutiveState) → TickText Json b x third_unexplained (codes "{\"answer\":\"unexplained\",\"tick\":3}" ++ 10 ∷ [])
  pub json_holds : (b : CompiledModel) (x : ExecutiveState) → TickText Json b x fourth_holding (codes "{\"answer\":\"holding\",\"tick\":4}" ++ 10 ∷ [])
  pub summary : (seed : ℕ) (b : CompiledModel) (x : ExecutiveState) → TickText (Summary seed) b x third_unexplained []
  pub refused_words : (m : PlantModel) → refused_in Words m ≡ codes "refused 7 1 malformed" ++ 10 ∷ []
  pub refused_proof : (m : PlantModel) → refused_in Proof m ≡ codes "refused 7 1 malformed" ++ 10 ∷ []
  pub refused_json : (m : PlantModel) → refused_in Json m ≡ codes "{\"code\":1,\"detail\":\"\",\"line\":7,\"refused\":\"malformed\"}" ++ 10 ∷ []
