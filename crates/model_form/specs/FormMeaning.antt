-- What a form of words means and promises, and that its machine does it: one record of each for every form.
use Rattle.std.specs.Prelude.{◌≡◌, ⊤, ℕ, false, List, Option, None}
use Rattle.cca_base.specs.Accepted.{CompiledModel}
use Rattle.line_machine.specs.Fronts.{PrintsByLines}
use Rattle.line_machine.specs.Next.{Stops}
use Rattle.line_machine.specs.Runs.{IsQuiet, IsSure, IsText}
use Rattle.line_machine.specs.declared.machine.End.{End}
use Rattle.line_machine.specs.declared.machine.End.TheVariants as ends
use Rattle.line_machine.specs.declared.machine.Machine.{Ghosts}
use Rattle.line_machine.proofs.RunsAreOne.{IsFixed}
use Rattle.model_form.specs.Answers.{Answer, Saying, AnswersByEnd}
use Rattle.model_form.specs.FormMachine.{form_machine}
use Rattle.model_form.specs.FormStates.{form_first}
use Rattle.model_form.specs.LineMachines.{form_of_lines}
use Rattle.model_form.specs.LinesEnds.{Ending, IsReadWhole, HasRefusedLine}
use Rattle.model_form.specs.ModelTexts.{ModelText, EndsModel}

-- a form's machine and its first state; the document that it reads in place of the source, if it makes one; how it ends and what it
-- prints, by how the model ends; when nothing of an input is refused, something is, or a tick has a No; what it promises of the answer beyond that;
-- that it reads the source to its end; and that it prints only where it ends
pub record FormMeaning : Type 1 where
  pub State : Type 0
  pub machine : Ghosts State
  pub first : State
  pub made : Option (List ℕ)
  pub says : ModelText → End → List ℕ → Type 0
  pub nothing_refused : List ℕ → Type 0
  pub some_refused : List ℕ → Type 0
  pub some_rejected : List ℕ → Type 0
  pub also : List ℕ → Answer → Type 0
  pub reads_to_end : Type 0
  pub is_silent : Type 0

-- the answer is what the form says of how the input's model ends
abbrev pub promises_of : FormMeaning → List ℕ → Answer → Type 0
promises_of k input a = (end : ModelText) × EndsModel input end × k.says end a.end a.text

-- a form that reads the source and rejects nothing: by its machine and first state, what it says, when nothing is refused, or something is, and what
-- else it promises, with whether it reads to the end, and prints only there
abbrev pub reading : {S : Type 0} → Ghosts S → S → (ModelText → End → List ℕ → Type 0) → (List ℕ → Type 0) → (List ℕ → Type 0) → (List ℕ → Answer → Type 0) → (to_end silent : Type 0) → FormMeaning
reading {S} m first says whole refused also to_end silent = record {
  State = S;
  machine = m;
  first = first;
  made = None;
  says = says;
  nothing_refused = whole;
  some_refused = refused;
  some_rejected = λ input. ⊥;
  also = also;
  reads_to_end = to_end;
  is_silent = silent;
}

-- a form of lines, which reads to the end: by where it stands before the first of them, its machine, what it says of an accepted model, how the lines
-- behind that end, and what else it promises
abbrev pub reading_lines : {S : Type 0} → (CompiledModel → S) → Ghosts S → Saying → Ending → (List ℕ → Answer → Type 0) → FormMeaning
reading_lines first m Says EndsSo also =
    reading (form_machine (form_of_lines first) m) (form_first (record {})) (AnswersByEnd false Says) (IsReadWhole EndsSo) (HasRefusedLine EndsSo) also ⊤ ⊥

-- a form's texts are what it says, both ways; each line leads one way; and its end tells what was refused or rejected, both ways
pub record FormAgrees (k : FormMeaning) : Type 0 where
  pub says : (input : List ℕ) (e : End) (text : List ℕ) → IsText k.machine k.first input e text → (end : ModelText) × EndsModel input end × k.says end e text
  pub comes : (input : List ℕ) (e : End) (text : List ℕ) (end : ModelText) → EndsModel input end → k.says end e text → IsText k.machine k.first input e text
  pub fixed : IsFixed k.machine
  pub ended : (input text : List ℕ) (end : ModelText) → EndsModel input end → k.says end ends.Ended text → k.nothing_refused input
  pub refused : (input text : List ℕ) (end : ModelText) → EndsModel input end → k.says end ends.Refused text → k.some_refused input
  pub rejected : (input text : List ℕ) (end : ModelText) → EndsModel input end → k.says end ends.Rejected text → k.some_rejected input
  pub is_ended : (input text : List ℕ) (end : ModelText) → EndsModel input end → (e : End) → k.says end e text → k.nothing_refused input → e ≡ ends.Ended
  pub is_refused : (input text : List ℕ) (end : ModelText) → EndsModel input end → (e : End) → k.says end e text → k.some_refused input → e ≡ ends.Refused
  pub is_rejected : (input text : List ℕ) (end : ModelText) → EndsModel input end → (e : End) → k.says end e text → k.some_rejected input → e ≡ ends.Rejected

-- a form keeps what else it promises; it prints by lines; where it reads to the end, no line ends it as read; and where it is silent, it prints only where it ends
pub record FormKeeps (k : FormMeaning) : Type 0 where
  pub also : (input : List ℕ) (a : Answer) → promises_of k input a → k.also input a
  pub by_lines : PrintsByLines k.machine k.first
  pub to_end : k.reads_to_end → (bytes text : List ℕ) → IsSure k.machine k.first bytes (Stops ends.Ended) text → ⊥
  pub silent : k.is_silent → IsQuiet k.machine
