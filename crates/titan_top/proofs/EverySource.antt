-- What holds over every source: only a check is rejected, a form that reads to the end has read its input when it ended, what is shown is read to its script, and a
-- silent form writes nothing before its end.
use Rattle.std.proofs.Common.{◌≡◌, ℕ, ◌⊎◌, inl, inr, List, [], append-nil, Option, Some, None, Result, Ok, Err, refl, subst, ◌∙◌}
use Rattle.std.specs.Io.KnownBytes.{prepend_known, IsAtEnd}
use Rattle.line_machine.specs.Driven.{WroteWhole}
use Rattle.line_machine.specs.KnownInput.{Streamed}
use Rattle.line_machine.specs.Next.{Stops}
use Rattle.line_machine.specs.Runs.{IsQuiet, IsSure, IsText}
use Rattle.line_machine.specs.declared.machine.End.{End}
use Rattle.line_machine.specs.declared.machine.End.TheVariants as ends
use Rattle.line_machine.specs.declared.machine.Machine.{Ghosts}
use Rattle.line_machine.specs.declared.send.Cut.{Cut}
use Rattle.line_machine.specs.declared.send.Cut.TheVariants as cuts
use Rattle.line_machine.proofs.SentPieces.{append_known-nil}
use Rattle.line_machine.proofs.SureTextBegins.{quiet_sure, decided}
use Rattle.show_form.specs.Shown.{show_machine}
use Rattle.titan_top.specs.Meanings.{meaning_of}
use Rattle.titan_top.specs.Output.{NothingRefused}
use Rattle.titan_top.specs.Statuses.{cut_status, status_of}
use Rattle.titan_top.specs.Streams.{StreamedBy, StreamedFor}
use Rattle.titan_top.specs.declared.status.Status.TheVariants.{Ended, Rejected, ReadFault}
use Rattle.titan_top.specs.declared.words.Form.{Form}
use Rattle.titan_top.specs.declared.words.Form.TheVariants.{Show, Check}
use Rattle.titan_top.proofs.Agreements.{agrees, keeps, only_check_rejects, reads_source}
use Rattle.titan_top.proofs.FormStatuses.{no_cut_ended, no_cut_rejected, end_ended, end_rejected, end_not_fault}
use Rattle.model_form.specs.FormStates.{form_first}

cut_read : (c : Cut) → cut_status c ≡ ReadFault → c ≡ cuts.ReadFault
cut_read cuts.ReadFault h = refl
cut_read cuts.WriteFault h = absurd cc
cut_read cuts.Memory h = absurd cc

-- ---- only a check is rejected

module _ {S : Type 0} (m : Ghosts S) (first : S) where
  -- the bytes that were taken, and the text that they have, where it ends so
  record Whole (e : End) : Type 0 where
    taken : List ℕ
    text : List ℕ
    is : IsText m first taken e text ⊎ IsSure m first taken (Stops e) text

  whole_of : (taken : List ℕ) (left out out' : Option (List ℕ)) (e : End) → WroteWhole m first taken left out out' e → Whole e
  whole_of taken left out out' e w = record { taken = taken; text = w.text; is = elim w.whole [ inl h ↦ inl h.0 | inr h ↦ inr h ] }

  streamed_whole : (made left left' out out' : Option (List ℕ)) (e : End) → StreamedBy made m first left left' out out' (Ok e) → Whole e
  streamed_whole None left left' out out' e s = whole_of s.driven.taken left' out out' e s.driven.says
  streamed_whole (Some document) left left' out out' e s = whole_of s.driven.driven.taken s.rest out out' e s.driven.driven.says

  -- bytes that alone decide a text have it
  text_of : (taken text : List ℕ) (e : End) → IsText m first taken e text ⊎ IsSure m first taken (Stops e) text → IsText m first taken e text
  text_of taken text e (inl is) = is
  text_of taken text e (inr sure) = subst (λ (b : List ℕ). IsText m first b e text) (append-nil taken) (decided m first taken [] text e sure)

rejected_only : (form : Form) (left left' out out' : Option (List ℕ)) (e : End) → e ≡ ends.Rejected → StreamedFor form left left' out out' (Ok e) → form ≡ Check
rejected_only form left left' out out' e is s =
    let k = meaning_of form in
    let w = subst (Whole k.machine k.first) is (streamed_whole k.machine k.first k.made left left' out out' e s) in
    let (end, reads, says) = (agrees form).says w.taken ends.Rejected w.text (text_of k.machine k.first w.taken w.text ends.Rejected w.is) in
    only_check_rejects form w.taken ((agrees form).rejected w.taken w.text end reads says)

pub only_check : (form : Form) (left left' out out' : Option (List ℕ)) (r : Result End Cut) → StreamedFor form left left' out out' r → status_of r ≡ Rejected → form ≡ Check
only_check form left left' out out' (Ok e) s h = rejected_only form left left' out out' e (end_rejected e h) s
only_check form left left' out out' (Err c) s h = absurd (no_cut_rejected c h)

-- ---- a form that reads to the end and has ended is at the end of its input

module _ {S : Type 0} (m : Ghosts S) (first : S) (never : (taken text : List ℕ) → IsSure m first taken (Stops ends.Ended) text → ⊥) where
  at_end_by : (left left' out out' : Option (List ℕ)) (e : End) → e ≡ ends.Ended → Streamed m first left left' out out' (Ok e) → IsAtEnd left'
  at_end_by left left' out out' e is s =
      let says : WroteWhole m first s.driven.taken left' out out' ends.Ended = subst (λ (f : End). WroteWhole m first s.driven.taken left' out out' f) is s.driven.says in
      elim says.whole [ inl h ↦ h.1 | inr h ↦ absurd (never s.driven.taken says.text h) ]

  ended_at_end : (left left' out out' : Option (List ℕ)) (r : Result End Cut) → Streamed m first left left' out out' r → status_of r ≡ Ended → IsAtEnd left'
  ended_at_end left left' out out' (Ok e) s h = at_end_by left left' out out' e (end_ended e h) s
  ended_at_end left left' out out' (Err c) s h = absurd (no_cut_ended c h)

pub whole_at_end : (form : Form) (left left' out out' : Option (List ℕ)) (r : Result End Cut) → (meaning_of form).reads_to_end → StreamedFor form left left' out out' r → status_of r ≡ Ended → IsAtEnd left'
whole_at_end form left left' out out' r reads s h =
    let k = meaning_of form in
    ended_at_end k.machine k.first ((keeps form).to_end reads) left left' out out' r (subst (λ (made : Option (List ℕ)). StreamedBy made k.machine k.first left left' out out' r) (reads_source form reads) s) h

-- ---- what was shown was read to its script

show_taken : (taken : List ℕ) (left : Option (List ℕ)) (text : List ℕ) → ((IsText show_machine (form_first (record {})) taken ends.Ended text × IsAtEnd left) ⊎ IsSure show_machine (form_first (record {})) taken (Stops ends.Ended) text) → IsText show_machine (form_first (record {})) taken ends.Ended text
show_taken taken left text (inl h) = h.0
show_taken taken left text (inr h) = subst (λ (b : List ℕ). IsText show_machine (form_first (record {})) b ends.Ended text) (append-nil taken) (decided show_machine (form_first (record {})) taken [] text ends.Ended h)

-- some bytes moved, and the form refuses nothing in them
abbrev HasRead : Form → Option (List ℕ) → Option (List ℕ) → Type 0
HasRead form left left' = (taken : List ℕ) × (left ≡ prepend_known taken left') × NothingRefused (Some form) taken

to_script_by : (left left' out out' : Option (List ℕ)) (e : End) → e ≡ ends.Ended → StreamedFor Show left left' out out' (Ok e) → HasRead Show left left'
to_script_by left left' out out' e is s =
    let says : WroteWhole show_machine (form_first (record {})) s.driven.taken left' out out' ends.Ended = subst (λ (f : End). WroteWhole show_machine (form_first (record {})) s.driven.taken left' out out' f) is s.driven.says in
    let (end, reads, own) = (agrees Show).says s.driven.taken ends.Ended says.text (show_taken s.driven.taken left' says.text says.whole) in
    (s.driven.taken, s.driven.moved, (agrees Show).ended s.driven.taken says.text end reads own)

pub show_to_script : (form : Form) (left left' out out' : Option (List ℕ)) (r : Result End Cut) → form ≡ Show → StreamedFor form left left' out out' r → status_of r ≡ Ended → HasRead Show left left'
show_to_script form left left' out out' (Ok e) is s h = to_script_by left left' out out' e (end_ended e h) (subst (λ (f : Form). StreamedFor f left left' out out' (Ok e)) is s)
show_to_script form left left' out out' (Err c) is s h = absurd (no_cut_ended c h)

-- ---- a silent form prints only where it ends

module _ {S : Type 0} (m : Ghosts S) (first : S) (quiet : IsQuiet m) where
  silent_by : (left left' out out' : Option (List ℕ)) (c : Cut) → c ≡ cuts.ReadFault → Streamed m first left left' out out' (Err c) → out' ≡ out
  silent_by left left' out out' cuts.ReadFault is s =
      let says = s.driven.says in
      says.written ∙ rw (quiet_sure m quiet first s.driven.taken says.text says.state says.sure) (append_known-nil out)
  silent_by left left' out out' cuts.WriteFault is s = absurd cc
  silent_by left left' out out' cuts.Memory is s = absurd cc

  quiet_silent : (left left' out out' : Option (List ℕ)) (r : Result End Cut) → Streamed m first left left' out out' r → status_of r ≡ ReadFault → out' ≡ out
  quiet_silent left left' out out' (Ok e) s h = absurd (end_not_fault e h)
  quiet_silent left left' out out' (Err c) s h = silent_by left left' out out' c (cut_read c h) s

  -- over the source, or over the document that the form makes
  silent_over : (made left left' out out' : Option (List ℕ)) (r : Result End Cut) → StreamedBy made m first left left' out out' r → status_of r ≡ ReadFault → out' ≡ out
  silent_over None left left' out out' r s h = quiet_silent left left' out out' r s h
  silent_over (Some document) left left' out out' r s h = quiet_silent (Some document) s.rest out out' r s.driven h

pub form_silent : (form : Form) (left left' out out' : Option (List ℕ)) (r : Result End Cut) → (meaning_of form).is_silent → StreamedFor form left left' out out' r → status_of r ≡ ReadFault → out' ≡ out
form_silent form left left' out out' r silent s h = silent_over (meaning_of form).machine (meaning_of form).first ((keeps form).silent silent) (meaning_of form).made left left' out out' r s h
