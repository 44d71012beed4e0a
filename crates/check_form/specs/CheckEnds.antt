-- How a whole input of `check` is judged: its model, its script, and the trace of its events.
use Rattle.std.specs.Prelude.{◌≡◌, ℕ, List}
use Rattle.cca_base.specs.declared.events.Refusal.{Refusal}
use Rattle.cca_base.specs.PlantModel.{PlantModel}
use Rattle.model_form.specs.Acceptance.{Acceptance, AcceptedAs, RefusedFor, IsAcceptanceOf}
use Rattle.check_form.specs.CheckScript.{ScriptText, Traced, RefusedScript, ReadsScript, no_events}
use Rattle.check_form.specs.CheckTrace.{CheckEnd, AllYes, FirstNo, FirstRefusal, JudgesTrace}
use Rattle.model_form.specs.ModelTexts.{ModelText, EndsModel}
use Rattle.model_form.specs.ModelTexts as models

-- how a check ends, by how the script ends
abbrev pub EndsByScript : PlantModel → ScriptText → CheckEnd → Type 0
EndsByScript m (Traced events n ls) end = JudgesTrace m events n ls end
EndsByScript m (RefusedScript line r) end = end ≡ FirstRefusal m line r

-- how a check ends, by what becomes of the model, whose script stands behind n lines
abbrev pub EndsByAcceptance : Acceptance → PlantModel → ℕ → List (List ℕ) → CheckEnd → Type 0
EndsByAcceptance (AcceptedAs b) m n ls end = (t : ScriptText) × ReadsScript m no_events n ls t × EndsByScript m t end
EndsByAcceptance (RefusedFor r) m n ls end = end ≡ FirstRefusal m n r

-- how a check ends, by how the model ends
abbrev pub EndsByModel : ModelText → CheckEnd → Type 0
EndsByModel (models.WholeModel m n ls) end = (v : Acceptance) × IsAcceptanceOf m v × EndsByAcceptance v m n ls end
EndsByModel (models.RefusedModel m line r) end = end ≡ FirstRefusal m line r

-- the input is judged so
abbrev pub IsJudged : List ℕ → CheckEnd → Type 0
IsJudged input end = (text : ModelText) × EndsModel input text × EndsByModel text end

-- every tick has a Yes, and no line is left
abbrev pub IsAllYes : List ℕ → Type 0
IsAllYes input = (ticks : ℕ) × IsJudged input (AllYes ticks)

-- a tick has a No, and no line was refused before
abbrev pub HasFirstNo : List ℕ → Type 0
HasFirstNo input = (tick : ℕ) × (reason : ℕ) × IsJudged input (FirstNo tick reason)

-- a line is refused, and no tick has a No before
abbrev pub HasFirstRefusal : List ℕ → Type 0
HasFirstRefusal input = (m : PlantModel) × (line : ℕ) × (refusal : Refusal) × IsJudged input (FirstRefusal m line refusal)
