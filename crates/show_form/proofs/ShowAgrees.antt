-- `show` does what it means, and keeps what it promises.
use Rattle.std.specs.Prelude.{⊤}
use Rattle.std.proofs.Common.{◌≡◌, ℕ, inl, false, List, refl}
use Rattle.line_machine.proofs.Fronts.{prints_by_lines}
use Rattle.line_machine.specs.declared.machine.End.{End}
use Rattle.line_machine.specs.declared.machine.End.TheVariants.{Ended, Rejected, Refused}
use Rattle.model_form.specs.Acceptance.{AcceptedAs, RefusedFor}
use Rattle.model_form.specs.Answers.{AnswersByEnd}
use Rattle.model_form.specs.FormMeaning.{FormAgrees, FormKeeps}
use Rattle.model_form.specs.ModelEnds.{IsAcceptedEnd, IsRefused}
use Rattle.model_form.specs.ModelTexts.{ModelText, WholeModel, RefusedModel}
use Rattle.model_form.specs.FormStates.{form_first}
use Rattle.model_form.proofs.Agreeing.{agrees}
use Rattle.model_form.proofs.LinesAgree.{refuses_so, same_acceptance}
use Rattle.show_form.specs.ShowMeaning.{show_meaning}
use Rattle.show_form.specs.Shown.{SaysShown, show_machine}
use Rattle.show_form.proofs.ShowEnds.{show_fixed, show_is_quiet}
use Rattle.show_form.proofs.ShownModels.{models_are_shown}

-- what is shown is printed so
abbrev ShowsSo : ModelText → End → List ℕ → Type 0
ShowsSo end e text = AnswersByEnd false SaysShown end e text

shown_ended : (end : ModelText) (text : List ℕ) → ShowsSo end Ended text → IsAcceptedEnd end
shown_ended (WholeModel m n ls) text (AcceptedAs b, is, h) = (b, is)
shown_ended (WholeModel m n ls) text (RefusedFor r, is, h) = let never : Ended ≡ Refused = h.0 in absurd cc
shown_ended (RefusedModel m line r) text h = let never : Ended ≡ Refused = h.0 in absurd cc

shown_refused : (end : ModelText) (text : List ℕ) → ShowsSo end Refused text → IsRefused end
shown_refused (WholeModel m n ls) text (AcceptedAs b, is, h) = let never : Refused ≡ Ended = h.0 in absurd cc
shown_refused (WholeModel m n ls) text (RefusedFor r, is, h) = (n, r, (refl, is))
shown_refused (RefusedModel m line r) text h = (line, r, (refl, refl))

shown_not : (end : ModelText) (text : List ℕ) → ShowsSo end Rejected text → ⊥
shown_not (WholeModel m n ls) text (AcceptedAs b, is, h) = let never : Rejected ≡ Ended = h.0 in absurd cc
shown_not (WholeModel m n ls) text (RefusedFor r, is, h) = let never : Rejected ≡ Refused = h.0 in absurd cc
shown_not (RefusedModel m line r) text h = let never : Rejected ≡ Refused = h.0 in absurd cc

shown_is_ended : (end : ModelText) (e : End) (text : List ℕ) → ShowsSo end e text → IsAcceptedEnd end → e ≡ Ended
shown_is_ended (WholeModel m n ls) e text (v, is, h) (b, is') = (same_acceptance SaysShown m n ls e text v (AcceptedAs b) is is' h).0
shown_is_ended (RefusedModel m line r) e text h accepted = absurd accepted

pub show_agrees : FormAgrees show_meaning
show_agrees = agrees SaysShown IsAcceptedEnd IsRefused (λ input a. ⊤) ⊥ ⊤ show_machine (form_first (record {})) models_are_shown show_fixed (record {
  ended = shown_ended;
  refused = shown_refused;
  rejected = shown_not;
  is_ended = shown_is_ended;
  is_refused = refuses_so SaysShown;
})

pub show_keeps : FormKeeps show_meaning
show_keeps = record {
  also = λ input a is. tt;
  by_lines = prints_by_lines show_machine (λ s. Unit {0}) (λ s. inl tt) (λ s n l t text h quiet. (tt, show_is_quiet s n l t text h)) (form_first (record {}));
  to_end = λ never. absurd never;
  silent = λ is. show_is_quiet;
}
