-- `run` does what it means.
use Rattle.std.proofs.Common.{ℕ, List, Option}
use Rattle.model_form.specs.FormMeaning.{FormAgrees}
use Rattle.run_form.specs.Notations.{is_json}
use Rattle.run_form.specs.Printed.{SaysRun}
use Rattle.run_form.specs.RunMeaning.{run_meaning}
use Rattle.run_form.specs.declared.notation.Notation.{Notation}
use Rattle.run_form.proofs.DocumentEnds.{document_ended, document_refused, document_not_rejected, document_is_ended, document_is_refused}
use Rattle.run_form.proofs.RunDocuments.{run_document}
use Rattle.run_form.proofs.RunEnds.{run_fixed}
use Rattle.run_form.proofs.RunsTold.{runs_are_told}

pub run_agrees : (notation : Notation) (made : Option (List ℕ)) → FormAgrees (run_meaning notation made)
run_agrees notation made = record {
  says = (runs_are_told notation).says;
  comes = λ input e text end reads h. (runs_are_told notation).comes input e text (end, reads, h);
  fixed = run_fixed;
  ended = document_ended (is_json notation) (SaysRun notation) (run_document notation);
  refused = document_refused (is_json notation) (SaysRun notation) (run_document notation);
  rejected = document_not_rejected (is_json notation) (SaysRun notation) (run_document notation);
  is_ended = document_is_ended (is_json notation) (SaysRun notation) (run_document notation);
  is_refused = document_is_refused (is_json notation) (SaysRun notation) (run_document notation);
  is_rejected = λ input text end reads e h never. absurd never;
}
