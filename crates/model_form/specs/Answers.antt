-- What a form prints for a whole input, by its model and by what the form says of the lines behind it.
use Rattle.std.specs.Prelude.{◌≡◌, ℕ, Bool, List, ◌++◌}
use Rattle.cca_base.specs.Accepted.{CompiledModel}
use Rattle.cca_base.specs.PlantModel.{PlantModel}
use Rattle.cca_base.specs.declared.events.Refusal.{Refusal}
use Rattle.line_machine.specs.Completes.{Completes}
use Rattle.line_machine.specs.Next.{Next}
use Rattle.line_machine.specs.Runs.{IsText}
use Rattle.line_machine.specs.declared.machine.End.{End}
use Rattle.line_machine.specs.declared.machine.End.TheVariants.{Refused}
use Rattle.line_machine.specs.declared.machine.Machine.{Ghosts}
use Rattle.trace_text.specs.Json.{refusal_text}
use Rattle.model_form.specs.Acceptance.{Acceptance, AcceptedAs, RefusedFor, IsAcceptanceOf}
use Rattle.model_form.specs.FormMachine.{form_machine}
use Rattle.model_form.specs.FormStates.{form_first}
use Rattle.model_form.specs.ModelTexts.{ModelText, WholeModel, RefusedModel, EndsModel}
use Rattle.model_form.specs.declared.form.ModelForm.{Ghosts as FormGhosts}

-- what is printed and how the program ends, where no fault comes
pub record Answer : Type 0 where
  pub text : List ℕ
  pub end : End

-- the answer with this end and this text
abbrev pub answer : End → List ℕ → Answer
answer e text = record { text = text; end = e }

-- a refusal ends the program with its line
abbrev pub refused_answer : Bool → PlantModel → ℕ → Refusal → Answer
refused_answer json m line r = answer Refused (refusal_text json m line r)

-- ---- by what is said behind an accepted model

-- what is said of the compiled model, the number of the line `script`, and the lines behind it: how the program ends, and what is printed
abbrev pub Saying : Type 1
Saying = CompiledModel → ℕ → List (List ℕ) → End → List ℕ → Type 0

-- what is printed, by what becomes of the model
abbrev pub AnswersByAcceptance : Bool → Saying → Acceptance → PlantModel → ℕ → List (List ℕ) → End → List ℕ → Type 0
AnswersByAcceptance json Says (AcceptedAs b) m n ls e text = Says b n ls e text
AnswersByAcceptance json Says (RefusedFor r) m n ls e text = (e ≡ Refused) × (text ≡ refusal_text json m n r)

-- what is printed, by how the model ends
abbrev pub AnswersByEnd : Bool → Saying → ModelText → End → List ℕ → Type 0
AnswersByEnd json Says (WholeModel m n ls) e text = (v : Acceptance) × IsAcceptanceOf m v × AnswersByAcceptance json Says v m n ls e text
AnswersByEnd json Says (RefusedModel m line r) e text = (e ≡ Refused) × (text ≡ refusal_text json m line r)

-- what is printed for a whole input, and how the program ends
abbrev pub IsAnswer : Bool → Saying → List ℕ → End → List ℕ → Type 0
IsAnswer json Says input e text = (end : ModelText) × EndsModel input end × AnswersByEnd json Says end e text

-- ---- by a machine

-- what the form prints from the line `script` of an accepted model on, which has this number, and behind which these lines stand
pub record PrintsBehind {F B : Type 0} (form : FormGhosts F B) (m : Ghosts B) (f : F) (b : CompiledModel) (n : ℕ) (ls : List (List ℕ)) (e : End) (text : List ℕ) : Type 0 where
  pub next : Next B
  pub first : List ℕ
  pub begins : form.begins f b n next first
  pub rest : List ℕ
  pub completes : Completes m next n ls e rest
  pub parts : text ≡ first ++ rest

-- the texts of the form's machine are exactly what the model's lines say, and behind them what the form prints
pub record TextsAreAnswers {F B : Type 0} (form : FormGhosts F B) (m : Ghosts B) : Type 0 where
  pub says : (f : F) (input : List ℕ) (e : End) (text : List ℕ) → IsText (form_machine form m) (form_first f) input e text → IsAnswer (form.is_json f) (PrintsBehind form m f) input e text
  pub comes : (f : F) (input : List ℕ) (e : End) (text : List ℕ) → IsAnswer (form.is_json f) (PrintsBehind form m f) input e text → IsText (form_machine form m) (form_first f) input e text

-- the texts of a machine are exactly what the model's lines say, and behind them what is said there
pub record AreTold {S : Type 0} (m : Ghosts S) (first : S) (json : Bool) (Says : Saying) : Type 0 where
  pub says : (input : List ℕ) (e : End) (text : List ℕ) → IsText m first input e text → IsAnswer json Says input e text
  pub comes : (input : List ℕ) (e : End) (text : List ℕ) → IsAnswer json Says input e text → IsText m first input e text
