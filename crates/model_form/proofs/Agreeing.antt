-- A form that reads the source and rejects nothing does what it means.
use Rattle.std.proofs.Common.{◌≡◌, ℕ, false, List, subst}
use Rattle.line_machine.specs.declared.machine.End.{End}
use Rattle.line_machine.specs.declared.machine.End.TheVariants.{Ended, Rejected, Refused}
use Rattle.line_machine.specs.declared.machine.Machine.{Ghosts}
use Rattle.line_machine.proofs.RunsAreOne.{IsFixed}
use Rattle.model_form.specs.Answers.{Answer, Saying, AnswersByEnd, AreTold}
use Rattle.model_form.specs.FormMeaning.{FormAgrees, reading}
use Rattle.model_form.specs.ModelEnds.{HasEnd}
use Rattle.model_form.specs.ModelTexts.{ModelText}
use Rattle.model_form.proofs.OneModelText.{texts_are_one}

module _ (Says : Saying) (Whole Part : ModelText → Type 0) (Also : List ℕ → Answer → Type 0) (to_end silent : Type 0) where
  -- this is printed
  abbrev Prints : ModelText → End → List ℕ → Type 0
  Prints end e text = AnswersByEnd false Says end e text

  -- what is printed at each end, and which end there is
  pub record EndsAgree : Type 0 where
    pub ended : (end : ModelText) (text : List ℕ) → Prints end Ended text → Whole end
    pub refused : (end : ModelText) (text : List ℕ) → Prints end Refused text → Part end
    pub rejected : (end : ModelText) (text : List ℕ) → Prints end Rejected text → ⊥
    pub is_ended : (end : ModelText) (e : End) (text : List ℕ) → Prints end e text → Whole end → e ≡ Ended
    pub is_refused : (end : ModelText) (e : End) (text : List ℕ) → Prints end e text → Part end → e ≡ Refused

  pub agrees : {S : Type 0} (m : Ghosts S) (first : S) → AreTold m first false Says → IsFixed m → EndsAgree → FormAgrees (reading m first (AnswersByEnd false Says) (HasEnd Whole) (HasEnd Part) Also to_end silent)
  agrees m first told fixed a = record {
    says = told.says;
    comes = λ input e text end reads h. told.comes input e text (end, reads, h);
    fixed = fixed;
    ended = λ input text end reads h. (end, reads, a.ended end text h);
    refused = λ input text end reads h. (end, reads, a.refused end text h);
    rejected = λ input text end reads h. a.rejected end text h;
    is_ended = λ input text end reads e h (other, reads', whole). a.is_ended end e text h (subst Whole (texts_are_one input other end reads' reads) whole);
    is_refused = λ input text end reads e h (other, reads', part). a.is_refused end e text h (subst Part (texts_are_one input other end reads' reads) part);
    is_rejected = λ input text end reads e h never. absurd never;
  }
