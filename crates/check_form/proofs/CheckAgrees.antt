-- `check` does what it means.
use Rattle.model_form.specs.FormMeaning.{FormAgrees}
use Rattle.check_form.specs.CheckMeaning.{check_meaning}
use Rattle.check_form.proofs.CheckStatuses.{check_fixed, check_ended, check_refused, check_rejected, ends_all_yes, ends_refused, ends_with_no}
use Rattle.check_form.proofs.CheckTexts.{checks_are_judged}

pub check_agrees : FormAgrees check_meaning
check_agrees = record {
  says = checks_are_judged.says;
  comes = checks_are_judged.comes;
  fixed = check_fixed;
  ended = check_ended;
  refused = check_refused;
  rejected = check_rejected;
  is_ended = ends_all_yes;
  is_refused = ends_refused;
  is_rejected = ends_with_no;
}
