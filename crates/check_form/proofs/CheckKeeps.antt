-- `check` keeps what it promises: it prints only where it ends, and no line ends it with a Yes.
use Rattle.std.proofs.Common.{inl, refl}
use Rattle.line_machine.specs.Fronts.{PrintsByLines}
use Rattle.line_machine.specs.declared.machine.End.TheVariants.{Ended}
use Rattle.line_machine.proofs.Fronts.{prints_by_lines}
use Rattle.model_form.specs.FormMeaning.{FormKeeps}
use Rattle.model_form.specs.FormStates.{form_first}
use Rattle.check_form.specs.CheckForm.{check_machine}
use Rattle.check_form.specs.CheckMeaning.{check_meaning}
use Rattle.check_form.proofs.NotBefore.{check_is_quiet, check_sure_not}

-- in every state nothing was printed
by_lines : PrintsByLines check_machine (form_first (record {}))
by_lines = prints_by_lines check_machine (λ s. Unit {0}) (λ s. inl (tt {0})) (λ s n l t text h quiet. (tt {0}, check_is_quiet s n l t text h)) (form_first (record {}))

pub check_keeps : FormKeeps check_meaning
check_keeps = record {
  also = λ input a h. tt {0};
  by_lines = by_lines;
  to_end = λ reads bytes text h. check_sure_not (form_first (record {})) bytes Ended text h refl;
  silent = λ silent. check_is_quiet;
}
