-- A form that was cut short over a known input wrote nothing, or a front of its answer of some bytes that were taken.
use Rattle.std.proofs.Common.{◌≡◌, ℕ, inl, inr, List, [], ◌∷◌, ◌++◌, Option, Some, None, Result, Ok, Err, refl, sym, subst, ◌∙◌, append-nil}
use Rattle.std.specs.Io.KnownBytes.{append_known, prepend_known}
use Rattle.std.specs.Prelude.{IfSome}
use Rattle.line_machine.specs.Driven.{Prints, BySure}
use Rattle.line_machine.specs.KnownInput.{Streamed}
use Rattle.line_machine.specs.Next.{GoesOn}
use Rattle.line_machine.specs.declared.machine.End.{End}
use Rattle.line_machine.specs.declared.machine.End.TheVariants as ends
use Rattle.line_machine.specs.declared.send.Cut.{Cut}
use Rattle.line_machine.specs.declared.send.Cut.TheVariants as cuts
use Rattle.line_machine.proofs.Fronts.{prints_so_far}
use Rattle.model_form.specs.Answers.{answer}
use Rattle.model_form.specs.FormMeaning.{FormMeaning, promises_of}
use Rattle.titan_top.specs.FormFront.{IsFrontOf}
use Rattle.titan_top.specs.Meanings.{meaning_of}
use Rattle.titan_top.specs.Output.{IsCut}
use Rattle.titan_top.specs.Statuses.{end_status, status_of}
use Rattle.titan_top.specs.Streams.{StreamedBy, StreamedFor, input_for, or_made}
use Rattle.titan_top.specs.declared.words.Form.{Form}
use Rattle.titan_top.proofs.Agreements.{agrees, keeps}

nothing_before : (front rest : List ℕ) → front ++ rest ≡ [] → front ≡ []
nothing_before [] rest e = refl
nothing_before (b ∷ front) rest e = absurd cc

never_cut : (e : End) → IsCut (end_status e) → ⊥
never_cut ends.Ended h = h
never_cut ends.Rejected h = h
never_cut ends.Refused h = h

module _ (form : Form) (left' : Option (List ℕ)) where
  -- what the form means
  abbrev k : FormMeaning
  k = meaning_of form

  module _ (input : List ℕ) (rest : Option (List ℕ)) (of_source : k.made ≡ None → rest ≡ left') (out out' : Option (List ℕ)) where
    -- a front of a text that may be printed of bytes that were taken
    front_of : (taken front after whole : List ℕ) → Some input ≡ prepend_known taken rest → Prints k.machine k.first taken rest whole → front ++ after ≡ whole → out' ≡ append_known out front → IsFrontOf form input left' out out'
    front_of taken front after whole moved prints parts written = elim (prints_so_far k.machine k.first (keeps form).by_lines taken rest whole prints) [
      | inl none ↦ inl (subst (λ (f : List ℕ). out' ≡ append_known out f) (nothing_before front after (parts ∙ none)) written)
      | inr h ↦ (let promised : promises_of k h.came (answer h.end whole) = (agrees form).says h.came h.end whole h.is in
          inr (record {
            taken = taken;
            rest = rest;
            moved = moved;
            of_source = of_source;
            came = h.came;
            more = h.more;
            begins = h.begins;
            answer = answer h.end whole;
            promised = promised;
            also = (keeps form).also h.came (answer h.end whole) promised;
            own = h.own;
            front = record { front = front; begins = (after, parts); written = written };
          }))
    ]

    -- by what cut it short
    cut_front : (c : Cut) → Streamed k.machine k.first (Some input) rest out out' (Err c) → IsFrontOf form input left' out out'
    cut_front cuts.ReadFault s =
        let says = s.driven.says in
        front_of s.driven.taken says.text [] says.text s.driven.moved (BySure s.driven.taken [] (GoesOn says.state) (append-nil s.driven.taken) says.sure) (append-nil says.text) says.written
    cut_front cuts.WriteFault s = let says = s.driven.says in front_of s.driven.taken says.text says.rest (says.text ++ says.rest) s.driven.moved says.is refl says.written
    cut_front cuts.Memory s = let says = s.driven.says in front_of s.driven.taken says.text says.rest (says.text ++ says.rest) s.driven.moved says.is refl says.written

    front_by : (r : Result End Cut) → Streamed k.machine k.first (Some input) rest out out' r → IsCut (status_of r) → IsFrontOf form input left' out out'
    front_by (Ok e) s cut = absurd (never_cut e cut)
    front_by (Err c) s cut = cut_front c s

  -- over the source, or over the document that the form makes
  front_over : (made left out out' : Option (List ℕ)) (r : Result End Cut) → k.made ≡ made → StreamedBy made k.machine k.first left left' out out' r → IsCut (status_of r) → IfSome (or_made made left) (λ input. IsFrontOf form input left' out out')
  front_over None None out out' r is s cut = tt
  front_over None (Some input) out out' r is s cut = front_by input left' (λ e. refl) out out' r s cut
  front_over (Some document) left out out' r is s cut = front_by document s.rest (λ e. (let never : Some document ≡ None = sym is ∙ e in absurd cc)) out out' r s.driven cut

  pub form_front : (left out out' : Option (List ℕ)) (r : Result End Cut) → StreamedFor form left left' out out' r → IsCut (status_of r) → IfSome (input_for (Some form) left) (λ input. IsFrontOf form input left' out out')
  form_front left out out' r s cut = front_over k.made left out out' r refl s cut
