-- Laws of the machines beside the documents' outcomes.
use Rattle.std.proofs.Common.{◌≡◌, ℕ, ◌≤◌, List, ◌++◌, length, Option, Some, None, sym, ap, subst, arith, length-append}
use Rattle.std.specs.Io.KnownBytes.{prepend_known}
use Rattle.titan_wire.specs.Wire.{HasRoom}
use Rattle.line_machine.specs.Driven.{HasRoomFor, Prints}
use Rattle.line_machine.specs.Next.{Next}
use Rattle.line_machine.specs.Runs.{IsSure, IsText, IsPrefix}
use Rattle.line_machine.specs.declared.machine.End.{End}
use Rattle.line_machine.proofs.KnownInputs.{prints_begins, told}
use Rattle.line_machine.proofs.SureTextBegins.{sure_begins_text, quiet_sure}
use Rattle.show_form.specs.Shown.{show_machine}
use Rattle.show_form.proofs.ShowEnds.{show_is_quiet}
use Rattle.check_form.specs.CheckForm.{check_machine}
use Rattle.check_form.proofs.NotBefore.{check_is_quiet}
use Rattle.titan_top.specs.Laws.{TextsAreOutcomes, SureTextBegins, OutcomesFit}
use Rattle.titan_top.specs.Meanings.{meaning_of}
use Rattle.titan_top.specs.Output.{Outcome, IsOutcomeFor}
use Rattle.titan_top.specs.Statuses.{end_status}
use Rattle.titan_top.specs.declared.words.Form.{Form}
use Rattle.titan_top.proofs.Agreements.{agrees}
use Rattle.titan_top.proofs.FormAnswers.{text_says, said_text}
use Rattle.model_form.specs.FormStates.{form_first}

-- a front is no longer than the whole
front_fits : (x y : List ℕ) (n : ℕ) → IsPrefix x y → length y ≤ n → length x ≤ n
front_fits x y n (z, e) h = omega (arith, h, ap length e, length-append x z)

module _ (form : Form) where
  form_comes : (input : List ℕ) (o : Outcome) → IsOutcomeFor form input o → (e : End) × IsText (meaning_of form).machine (meaning_of form).first input e o.text × (o.status ≡ end_status e)
  form_comes input o is =
      let x = said_text form input o is in
      (x.answer.end, subst (λ (text : List ℕ). IsText (meaning_of form).machine (meaning_of form).first input x.answer.end text) (sym (ap (λ (z : Outcome). z.text) x.is)) x.of, ap (λ (z : Outcome). z.status) x.is)

  form_begins : (a more x : List ℕ) (t : Next (meaning_of form).State) (o : Outcome) → IsSure (meaning_of form).machine (meaning_of form).first a t x → IsOutcomeFor form (a ++ more) o → IsPrefix x o.text
  form_begins a more x t o sure is =
      let c = form_comes (a ++ more) o is in
      sure_begins_text (meaning_of form).machine (meaning_of form).first (agrees form).fixed a more x o.text t c.0 sure c.1

  form_fits : (input : List ℕ) (o : Outcome) (n : ℕ) → IsOutcomeFor form input o → length o.text ≤ n → (taken text : List ℕ) (after : Option (List ℕ)) → Some input ≡ prepend_known taken after
      → Prints (meaning_of form).machine (meaning_of form).first taken after text → HasRoom (Some n) (length text)
  form_fits input o n is fits taken text None moved may = absurd cc
  form_fits input o n is fits taken text (Some rest) moved may =
      let c = form_comes input o is in
      front_fits text o.text n (prints_begins (meaning_of form).machine (meaning_of form).first (agrees form).fixed None None taken rest input c.0 text o.text (told input taken rest moved) may c.1) fits

pub texts_are_outcomes : TextsAreOutcomes
texts_are_outcomes = record { says = text_says; comes = form_comes }

pub sure_text_begins : SureTextBegins
sure_text_begins = record {
  begins = form_begins;
  silent = λ a x t sure. quiet_sure show_machine show_is_quiet (form_first (record {})) a x t sure;
  silent_check = λ a x t sure. quiet_sure check_machine check_is_quiet (form_first (record {})) a x t sure;
}

pub outcomes_fit : OutcomesFit
outcomes_fit form left input o n reads is fits =
    subst (λ (l : Option (List ℕ)). HasRoomFor (meaning_of form).machine (meaning_of form).first l (Some n)) (sym reads) (form_fits form input o n is fits)
