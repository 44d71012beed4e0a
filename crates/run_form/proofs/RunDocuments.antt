-- A run ends as its document does.
use Rattle.std.proofs.Common.{◌≡◌, ℕ, List, [], refl, ap, ◌∙◌}
use Rattle.cca_base.specs.Accepted.{CompiledModel}
use Rattle.cca_base.specs.PlantModel.{PlantModel}
use Rattle.line_machine.specs.declared.machine.End.{End}
use Rattle.model_form.specs.Answers.{Answer}
use Rattle.run_form.specs.Document.{DocumentEnd, Complete, RefusedAt}
use Rattle.run_form.specs.Printed.{ending, SaysRun}
use Rattle.run_form.specs.Summaries.{counts_of}
use Rattle.run_form.specs.declared.counts.Counts.{Counts}
use Rattle.run_form.specs.declared.notation.Notation.{Notation}
use Rattle.run_form.proofs.DocumentEnds.{end_of, EndsAsDocument}
use Rattle.run_form.proofs.PrintedDocuments.{printed_end}

pub ending_so : (notation : Notation) (m : PlantModel) (c : Counts) (e : DocumentEnd) → (ending notation m c e).end ≡ end_of e
ending_so notation m c Complete = refl
ending_so notation m c (RefusedAt line r) = refl

pub run_document : (notation : Notation) (b : CompiledModel) (n : ℕ) (ls : List (List ℕ)) (e : End) (text : List ℕ) → SaysRun notation b n ls e text → EndsAsDocument b n ls e
run_document notation b n ls e text (r, reports, told, says, trace, of_ticks, same) =
    (r, says, ap (λ (a : Answer). a.end) same ∙ printed_end notation r reports told ∙ ending_so notation r.model (counts_of []) r.ending)
