-- What the end of a check says of how its input is judged, and the other way round.
use Rattle.std.proofs.Common.{◌≡◌, ℕ, List, refl, sym, ap, subst}
use Rattle.cca_base.specs.declared.events.Refusal.{Refusal}
use Rattle.cca_base.specs.PlantModel.{PlantModel}
use Rattle.line_forms.proofs.EndsRefused.{lines_fixed}
use Rattle.line_machine.specs.declared.machine.End.{End}
use Rattle.line_machine.specs.declared.machine.End.TheVariants.{Ended, Rejected, Refused}
use Rattle.line_machine.proofs.RunsAreOne.{IsFixed}
use Rattle.line_machine.proofs.SureTextBegins.{text_is_one}
use Rattle.model_form.specs.Answers.{Answer}
use Rattle.model_form.specs.ModelTexts.{ModelText, EndsModel}
use Rattle.model_form.proofs.FormEnds.{form_is_fixed}
use Rattle.check_form.specs.CheckEnds.{EndsByModel, IsJudged, IsAllYes, HasFirstNo, HasFirstRefusal}
use Rattle.check_form.specs.CheckForm.{check_form, check_machine, judged, IsCheck}
use Rattle.check_form.specs.CheckMachine.{check_lines, checking_machine}
use Rattle.model_form.specs.OneStep.{goes_on_one_way}
use Rattle.check_form.specs.CheckOneStep.{said_one, serves_one}
use Rattle.check_form.specs.CheckTrace.{CheckEnd, AllYes, FirstNo, FirstRefusal}
use Rattle.check_form.proofs.CheckTexts.{checks_are_judged}
use Rattle.model_form.specs.FormStates.{form_first}

-- a state and a line lead to one state and one text
pub check_fixed : IsFixed check_machine
check_fixed = form_is_fixed check_form checking_machine (λ f b n u v a c. goes_on_one_way) (lines_fixed check_lines said_one serves_one)

-- ---- what the end says

pub all_yes : (end : CheckEnd) → (judged end).end ≡ Ended → (ticks : ℕ) × (end ≡ AllYes ticks)
all_yes (AllYes ticks) h = (ticks, refl)
all_yes (FirstNo tick reason) h = absurd cc
all_yes (FirstRefusal m line r) h = absurd cc

first_no : (end : CheckEnd) → (judged end).end ≡ Rejected → (tick : ℕ) × (reason : ℕ) × (end ≡ FirstNo tick reason)
first_no (AllYes ticks) h = absurd cc
first_no (FirstNo tick reason) h = (tick, reason, refl)
first_no (FirstRefusal m line r) h = absurd cc

first_refusal : (end : CheckEnd) → (judged end).end ≡ Refused → (m : PlantModel) × (line : ℕ) × (r : Refusal) × (end ≡ FirstRefusal m line r)
first_refusal (AllYes ticks) h = absurd cc
first_refusal (FirstNo tick reason) h = absurd cc
first_refusal (FirstRefusal m line r) h = (m, line, r, refl)

module _ (input text : List ℕ) (model : ModelText) (reads : EndsModel input model) where
  pub check_ended : IsCheck model Ended text → IsAllYes input
  check_ended (end, so, is) =
      let (ticks, e) = all_yes end (sym (ap (λ (a : Answer). a.end) is)) in
      (ticks, (model, reads, subst (EndsByModel model) e so))

  pub check_rejected : IsCheck model Rejected text → HasFirstNo input
  check_rejected (end, so, is) =
      let (tick, reason, e) = first_no end (sym (ap (λ (a : Answer). a.end) is)) in
      (tick, reason, (model, reads, subst (EndsByModel model) e so))

  pub check_refused : IsCheck model Refused text → HasFirstRefusal input
  check_refused (end, so, is) =
      let (m, line, r, e) = first_refusal end (sym (ap (λ (a : Answer). a.end) is)) in
      (m, line, r, (model, reads, subst (EndsByModel model) e so))

  -- ---- and what the input says of it

  of_end : (e : End) (end : CheckEnd) → IsCheck model e text → IsJudged input end → e ≡ (judged end).end
  of_end e end is (other, reads', so) =
      (text_is_one check_machine (form_first (record {})) check_fixed input text (judged end).text e (judged end).end (checks_are_judged.comes input e text model reads is) (checks_are_judged.comes input (judged end).end (judged end).text other reads' (end, so, refl))).0

  pub ends_all_yes : (e : End) → IsCheck model e text → IsAllYes input → e ≡ Ended
  ends_all_yes e is (ticks, h) = of_end e (AllYes ticks) is h

  pub ends_with_no : (e : End) → IsCheck model e text → HasFirstNo input → e ≡ Rejected
  ends_with_no e is (tick, reason, h) = of_end e (FirstNo tick reason) is h

  pub ends_refused : (e : End) → IsCheck model e text → HasFirstRefusal input → e ≡ Refused
  ends_refused e is (m, line, r, h) = of_end e (FirstRefusal m line r) is h
