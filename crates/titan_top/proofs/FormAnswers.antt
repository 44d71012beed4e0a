-- What the driver's answer says of the form's outcomes.
use Rattle.std.proofs.Common.{◌≡◌, ℕ, inl, inr, List, length, Option, Some, None, Result, Ok, Err, IfOk, refl, sym, ap, subst, ◌∙◌}
use Rattle.std.specs.Prelude.{IfSome}
use Rattle.std.specs.Io.KnownBytes.{append_known}
use Rattle.std.specs.declared.alloc.AllocError.{AllocError}
use Rattle.titan_wire.specs.Wire.{HasRoom}
use Rattle.line_machine.specs.Call.{Call}
use Rattle.line_machine.specs.Driven.{HasRoomFor}
use Rattle.line_machine.specs.KnownInput.{WroteFront, OutputFor}
use Rattle.line_machine.specs.Runs.{IsText}
use Rattle.line_machine.specs.declared.machine.End.{End}
use Rattle.line_machine.specs.declared.machine.End.TheVariants as ends
use Rattle.line_machine.specs.declared.machine.Machine.{Ghosts}
use Rattle.line_machine.specs.declared.send.Cut.{Cut}
use Rattle.line_machine.specs.declared.send.Cut.TheVariants as cuts
use Rattle.line_machine.proofs.SureTextBegins.{text_is_one}
use Rattle.model_form.specs.Answers.{Answer, answer}
use Rattle.model_form.proofs.SameAnswer.{same_answer}
use Rattle.titan_top.specs.Meanings.{meaning_of}
use Rattle.titan_top.specs.Output.{Outcome, outcome_of, IsOutcomeFor, usage_text}
use Rattle.titan_top.specs.Statuses.{end_status, cut_status, status_of}
use Rattle.titan_top.specs.Streams.{HasRoomForWords, IsDrivenAs, IsDrivenBy, StreamedBy, StreamedFor, input_for, or_made}
use Rattle.titan_top.specs.Wire.{Writes, WritesAs}
use Rattle.titan_top.specs.declared.words.Form.{Form}
use Rattle.titan_top.proofs.Agreements.{agrees}

-- ---- room

pub room_for : (form : Form) (left : Option (List ℕ)) (space : Option ℕ) → HasRoomForWords (Some form) left space → HasRoomFor (meaning_of form).machine (meaning_of form).first (input_for (Some form) left) space
room_for form left None h = λ taken text after moved may. tt
room_for form left (Some n) h = h

-- the same for a machine that was opened
pub opened_room : {S : Type 0} (m : Ghosts S) (first : S) (left : Option (List ℕ)) (space : Option ℕ) (r : Result S AllocError) → IfOk r (λ s. s ≡ first) → HasRoomFor m first left space → IfOk r (λ s. HasRoomFor m s left space)
opened_room {S} m first left space (Ok s) is h = subst (λ (z : S). HasRoomFor m z left space) (sym is) h
opened_room m first left space (Err x) is h = tt

pub usage_room : (left : Option (List ℕ)) (space : Option ℕ) → HasRoomForWords None left space → HasRoom space (length usage_text)
usage_room left None h = tt
usage_room left (Some n) h = h

-- ---- texts and outcomes

module _ (form : Form) (input : List ℕ) where
  -- a text of the form's machine
  pub text_says : (e : End) (text : List ℕ) → IsText (meaning_of form).machine (meaning_of form).first input e text → IsOutcomeFor form input (outcome_of (answer e text))
  text_says e text is = (answer e text, refl, (agrees form).says input e text is)

  -- the text of an outcome
  pub record TextOf (o : Outcome) : Type 0 where
    pub answer : Answer
    pub is : o ≡ outcome_of answer
    pub of : IsText (meaning_of form).machine (meaning_of form).first input answer.end answer.text

  pub said_text : (o : Outcome) → IsOutcomeFor form input o → TextOf o
  said_text o (a, is, (end, reads, says)) = record { answer = a; is = is; of = (agrees form).comes input a.end a.text end reads says }

  -- there is one
  pub one_text : (o : Outcome) (e : End) (text : List ℕ) → IsOutcomeFor form input o → IsText (meaning_of form).machine (meaning_of form).first input e text → o ≡ outcome_of (answer e text)
  one_text o e text h is =
      let x = said_text o h in
      let p = text_is_one (meaning_of form).machine (meaning_of form).first (agrees form).fixed input x.answer.text text x.answer.end e x.of is in
      x.is ∙ ap outcome_of (same_answer p.0 p.1)

-- ---- what was written

-- a whole text went out
end_prints : (e : End) (text : List ℕ) (out out' : Option (List ℕ)) → out' ≡ append_known out text → Writes (end_status e) out out' (outcome_of (answer e text))
end_prints ends.Ended text out out' h = (refl, h)
end_prints ends.Rejected text out out' h = (refl, h)
end_prints ends.Refused text out out' h = (refl, h)

-- a front went out
cut_prints_as : (c : Cut) (Is : Outcome → Type 0) (out out' : Option (List ℕ)) → ((o : Outcome) → Is o → WroteFront o.text out out') → WritesAs (cut_status c) out out' Is
cut_prints_as cuts.ReadFault Is out out' h = record { each = h; some = inl tt }
cut_prints_as cuts.WriteFault Is out out' h = record { each = h; some = inl tt }
cut_prints_as cuts.Memory Is out out' h = record { each = h; some = inl tt }

module _ (form : Form) (out out' : Option (List ℕ)) where
  output_by : (input : List ℕ) (r : Result End Cut) → OutputFor (meaning_of form).machine (meaning_of form).first input out out' r → WritesAs (status_of r) out out' (IsOutcomeFor form input)
  output_by input (Ok e) w = record {
    each = λ o k. subst (Writes (end_status e) out out') (sym (one_text form input o e w.text k w.is)) (end_prints e w.text out out' w.written);
    some = inr (outcome_of (answer e w.text), text_says form input e w.text w.is);
  }
  output_by input (Err c) w = cut_prints_as c (IsOutcomeFor form input) out out' (λ o k.
      let x = said_text form input o k in
      subst (λ (z : Outcome). WroteFront z.text out out') (sym x.is) (w x.answer.end x.answer.text x.of))

  outputs : (left : Option (List ℕ)) (r : Result End Cut) → IfSome left (λ input. OutputFor (meaning_of form).machine (meaning_of form).first input out out' r) → IfSome left (λ input. WritesAs (status_of r) out out' (IsOutcomeFor form input))
  outputs None r w = tt
  outputs (Some input) r w = output_by input r w

-- ---- a machine over the source, or over a document that was made

module _ {S : Type 0} (m : Ghosts S) (first : S) (left left' out out' : Option (List ℕ)) (calls calls' : Option (List Call)) (r : Result End Cut) where
  driven_streams : (made : Option (List ℕ)) → IsDrivenBy made m first left left' out out' calls calls' r → StreamedBy made m first left left' out out' r
  driven_streams None d = d.streamed
  driven_streams (Some document) d = d.streamed

  driven_outputs : (made : Option (List ℕ)) → IsDrivenBy made m first left left' out out' calls calls' r → IfSome (or_made made left) (λ input. OutputFor m first input out out' r)
  driven_outputs None d = d.text
  driven_outputs (Some document) d = d.text

-- ---- by the form

module _ (form : Form) (left left' out out' : Option (List ℕ)) (calls calls' : Option (List Call)) (r : Result End Cut) (driven : IsDrivenAs form left left' out out' calls calls' r) where
  pub form_streams : StreamedFor form left left' out out' r
  form_streams = driven_streams (meaning_of form).machine (meaning_of form).first left left' out out' calls calls' r (meaning_of form).made driven

  pub form_prints : IfSome (input_for (Some form) left) (λ input. WritesAs (status_of r) out out' (IsOutcomeFor form input))
  form_prints = outputs form out out' (input_for (Some form) left) r (driven_outputs (meaning_of form).machine (meaning_of form).first left left' out out' calls calls' r (meaning_of form).made driven)
