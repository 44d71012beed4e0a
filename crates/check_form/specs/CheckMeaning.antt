-- What `check` means.
use Rattle.std.specs.Prelude.{⊤, None}
use Rattle.model_form.specs.FormMeaning.{FormMeaning}
use Rattle.check_form.specs.CheckEnds.{IsAllYes, HasFirstNo, HasFirstRefusal}
use Rattle.check_form.specs.CheckForm.{IsCheck, check_machine}
use Rattle.model_form.specs.FormStates.{form_first}

-- `check` reads its whole input, prints only where it ends, and alone says No; what a Yes shows is said where all forms are known
abbrev pub check_meaning : FormMeaning
check_meaning = record {
  State = _;
  machine = check_machine;
  first = form_first (record {});
  made = None;
  says = IsCheck;
  nothing_refused = IsAllYes;
  some_refused = HasFirstRefusal;
  some_rejected = HasFirstNo;
  also = λ input a. ⊤;
  reads_to_end = ⊤;
  is_silent = ⊤;
}
