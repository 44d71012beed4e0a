-- A form whose answers end as the lines behind its model do does what it means.
use Rattle.std.specs.Prelude.{⊤}
use Rattle.std.proofs.Common.{◌≡◌, ℕ, false, List, inl, inr, refl, ap, subst, ◌∙◌}
use Rattle.cca_base.specs.Accepted.{CompiledModel}
use Rattle.cca_base.specs.PlantModel.{PlantModel}
use Rattle.line_machine.specs.declared.machine.End.{End}
use Rattle.line_machine.specs.declared.machine.End.TheVariants.{Ended, Rejected, Refused}
use Rattle.line_machine.specs.declared.machine.Machine.{Ghosts}
use Rattle.line_machine.proofs.RunsAreOne.{IsFixed}
use Rattle.model_form.specs.Acceptance.{Acceptance, AcceptedAs, RefusedFor, IsAcceptanceOf}
use Rattle.model_form.specs.Answers.{Answer, Saying, AnswersByAcceptance, AnswersByEnd, AreTold}
use Rattle.model_form.specs.FormMachine.{form_machine}
use Rattle.model_form.specs.FormMeaning.{FormAgrees, reading_lines}
use Rattle.model_form.specs.FormStates.{form_first}
use Rattle.model_form.specs.LineMachines.{form_of_lines}
use Rattle.model_form.specs.LinesEnds.{LinesEnd, AllRead, RefusedAt, Ending, EndsLines, RefusesSomewhere, ending}
use Rattle.model_form.specs.ModelEnds.{IsRefused}
use Rattle.model_form.specs.ModelTexts.{ModelText, WholeModel, RefusedModel}
use Rattle.model_form.specs.OneStep.{acceptance_is_one}
use Rattle.model_form.proofs.Agreeing.{EndsAgree, agrees}

-- how the program ends by how the lines do
abbrev end_of : PlantModel → LinesEnd → End
end_of m lines = (ending m lines).end

ended_read : (m : PlantModel) (lines : LinesEnd) → Ended ≡ end_of m lines → lines ≡ AllRead
ended_read m AllRead h = refl
ended_read m (RefusedAt line code) h = let never : Ended ≡ Refused = h in absurd cc

refused_somewhere : (m : PlantModel) (lines : LinesEnd) → Refused ≡ end_of m lines → (line code : ℕ) × (lines ≡ RefusedAt line code)
refused_somewhere m AllRead h = let never : Refused ≡ Ended = h in absurd cc
refused_somewhere m (RefusedAt line code) h = (line, code, refl)

not_rejected : (m : PlantModel) (lines : LinesEnd) → Rejected ≡ end_of m lines → ⊥
not_rejected m AllRead h = let never : Rejected ≡ Ended = h in absurd cc
not_rejected m (RefusedAt line code) h = let never : Rejected ≡ Refused = h in absurd cc

-- an accepted model is not refused, and what it is compiled to is one
pub same_acceptance : (Says : Saying) (m : PlantModel) (n : ℕ) (ls : List (List ℕ)) (e : End) (text : List ℕ) (v w : Acceptance) → IsAcceptanceOf m v → IsAcceptanceOf m w
    → AnswersByAcceptance false Says v m n ls e text → AnswersByAcceptance false Says w m n ls e text
same_acceptance Says m n ls e text v w is is' h = subst (λ (z : Acceptance). AnswersByAcceptance false Says z m n ls e text) (acceptance_is_one m v w is is') h

-- a refused model is printed so
pub refuses_so : (Says : Saying) (end : ModelText) (e : End) (text : List ℕ) → AnswersByEnd false Says end e text → IsRefused end → e ≡ Refused
refuses_so Says (WholeModel m n ls) e text (v, is, h) (line, r, (at, is')) = (same_acceptance Says m n ls e text v (RefusedFor r) is is' h).0
refuses_so Says (RefusedModel m k s) e text h refused = h.0

module _ (Says : Saying) (EndsSo : Ending) (Also : List ℕ → Answer → Type 0)
    (ends_as : (b : CompiledModel) (n : ℕ) (ls : List (List ℕ)) (e : End) (text : List ℕ) → Says b n ls e text → (lines : LinesEnd) × EndsSo b n ls lines × (e ≡ (ending b.model lines).end))
    (one : (b : CompiledModel) (n : ℕ) (ls : List (List ℕ)) (x y : LinesEnd) → EndsSo b n ls x → EndsSo b n ls y → x ≡ y) where
  -- this is printed
  abbrev Prints : ModelText → End → List ℕ → Type 0
  Prints end e text = AnswersByEnd false Says end e text

  lines_ended : (end : ModelText) (text : List ℕ) → Prints end Ended text → EndsLines EndsSo AllRead end
  lines_ended (WholeModel m n ls) text (AcceptedAs b, is, h) =
      let (lines, so, at) = ends_as b n ls Ended text h in
      (b, is, subst (EndsSo b n ls) (ended_read b.model lines at) so)
  lines_ended (WholeModel m n ls) text (RefusedFor r, is, h) = let never : Ended ≡ Refused = h.0 in absurd cc
  lines_ended (RefusedModel m line r) text h = let never : Ended ≡ Refused = h.0 in absurd cc

  lines_refused : (end : ModelText) (text : List ℕ) → Prints end Refused text → RefusesSomewhere EndsSo end
  lines_refused (WholeModel m n ls) text (AcceptedAs b, is, h) =
      let (lines, so, at) = ends_as b n ls Refused text h in
      let (line, code, there) = refused_somewhere b.model lines at in
      inr (line, code, (b, is, subst (EndsSo b n ls) there so))
  lines_refused (WholeModel m n ls) text (RefusedFor r, is, h) = inl (n, r, (refl, is))
  lines_refused (RefusedModel m line r) text h = inl (line, r, (refl, refl))

  lines_not : (end : ModelText) (text : List ℕ) → Prints end Rejected text → ⊥
  lines_not (WholeModel m n ls) text (AcceptedAs b, is, h) =
      let (lines, so, at) = ends_as b n ls Rejected text h in
      not_rejected b.model lines at
  lines_not (WholeModel m n ls) text (RefusedFor r, is, h) = let never : Rejected ≡ Refused = h.0 in absurd cc
  lines_not (RefusedModel m line r) text h = let never : Rejected ≡ Refused = h.0 in absurd cc

  -- the program ends as the lines do
  ends_so : (end : ModelText) (e : End) (text : List ℕ) (lines : LinesEnd) → Prints end e text → EndsLines EndsSo lines end → (m : PlantModel) × (e ≡ end_of m lines)
  ends_so (WholeModel m n ls) e text lines (v, is, h) (b, is', so) =
      let (other, also, at) = ends_as b n ls e text (same_acceptance Says m n ls e text v (AcceptedAs b) is is' h) in
      (b.model, at ∙ ap (end_of b.model) (one b n ls other lines also so))
  ends_so (RefusedModel m line r) e text lines h ends = absurd ends

  lines_is_refused : (end : ModelText) (e : End) (text : List ℕ) → Prints end e text → RefusesSomewhere EndsSo end → e ≡ Refused
  lines_is_refused end e text h (inl refused) = refuses_so Says end e text h refused
  lines_is_refused end e text h (inr (line, code, ends)) = (ends_so end e text (RefusedAt line code) h ends).1

  lines_agree : EndsAgree Says (EndsLines EndsSo AllRead) (RefusesSomewhere EndsSo) Also ⊤ ⊥
  lines_agree = record {
    ended = lines_ended;
    refused = lines_refused;
    rejected = lines_not;
    is_ended = λ end e text h ends. (ends_so end e text AllRead h ends).1;
    is_refused = lines_is_refused;
  }

  -- the form's texts are told, and each line leads one way
  pub lines_form_agrees : {S : Type 0} (first : CompiledModel → S) (m : Ghosts S) → AreTold (form_machine (form_of_lines first) m) (form_first (record {})) false Says → IsFixed (form_machine (form_of_lines first) m)
      → FormAgrees (reading_lines first m Says EndsSo Also)
  lines_form_agrees first m told fixed = agrees Says (EndsLines EndsSo AllRead) (RefusesSomewhere EndsSo) Also ⊤ ⊥ (form_machine (form_of_lines first) m) (form_first (record {})) told fixed lines_agree
