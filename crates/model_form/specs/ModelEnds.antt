-- What becomes of an input's model.
use Rattle.std.specs.Prelude.{◌≡◌, ℕ, List}
use Rattle.cca_base.specs.Accepted.{CompiledModel}
use Rattle.cca_base.specs.declared.events.Refusal.{Refusal}
use Rattle.model_form.specs.Acceptance.{AcceptedAs, RefusedFor, IsAcceptanceOf}
use Rattle.line_machine.specs.Lines.{lines_in}
use Rattle.model_form.specs.FormStates.{nothing_read}
use Rattle.model_form.specs.ModelTexts.{ModelText, WholeModel, RefusedModel, ReadsModel, EndsModel}

-- the model came to its script, and is accepted
abbrev pub IsAcceptedEnd : ModelText → Type 0
IsAcceptedEnd (WholeModel m n ls) = (b : CompiledModel) × IsAcceptanceOf m (AcceptedAs b)
IsAcceptedEnd (RefusedModel m line r) = ⊥

-- a line of the model is refused, or the model itself at its script
abbrev pub IsRefusedEnd : ModelText → ℕ → Refusal → Type 0
IsRefusedEnd (WholeModel m n ls) line r = (line ≡ n) × IsAcceptanceOf m (RefusedFor r)
IsRefusedEnd (RefusedModel m n s) line r = (line ≡ n) × (r ≡ s)

-- a line of the model is refused, or the model itself at its script, for some reason
abbrev pub IsRefused : ModelText → Type 0
IsRefused end = (line : ℕ) × (refusal : Refusal) × IsRefusedEnd end line refusal

-- the model of the input ends so
abbrev pub HasEnd : (ModelText → Type 0) → List ℕ → Type 0
HasEnd EndsSo input = (end : ModelText) × EndsModel input end × EndsSo end

-- the whole lines of these bytes are an accepted model, up to its line `script`, and maybe more
abbrev pub HoldsModel : List ℕ → Type 0
HoldsModel bytes = (end : ModelText) × ReadsModel nothing_read 0 (lines_in bytes).whole end × IsAcceptedEnd end
