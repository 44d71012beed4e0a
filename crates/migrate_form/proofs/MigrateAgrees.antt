-- `migrate` does what it means.
use Rattle.std.proofs.Common.{ℕ, false, List, [], ap, ◌∙◌}
use Rattle.cca_base.specs.Accepted.{CompiledModel}
use Rattle.line_machine.specs.declared.machine.End.{End}
use Rattle.model_form.specs.Answers.{Answer}
use Rattle.model_form.specs.FormMeaning.{FormAgrees}
use Rattle.run_form.proofs.DocumentEnds.{EndsAsDocument, document_ended, document_refused, document_not_rejected, document_is_ended, document_is_refused}
use Rattle.run_form.proofs.RunDocuments.{ending_so}
use Rattle.run_form.specs.Summaries.{counts_of}
use Rattle.run_form.specs.declared.notation.Notation.TheVariants.{Words}
use Rattle.migrate_form.specs.MigrateMeaning.{migrate_meaning}
use Rattle.migrate_form.specs.Migrated.{SaysMigrated}
use Rattle.migrate_form.proofs.MigrateEnds.{migrate_fixed}
use Rattle.migrate_form.proofs.MigrationsTold.{migrations_are_told}

pub of_script : (b : CompiledModel) (n : ℕ) (ls : List (List ℕ)) (e : End) (text : List ℕ) → SaysMigrated b n ls e text → EndsAsDocument b n ls e
of_script b n ls e text (r, says, same) = (r, says, ap (λ (a : Answer). a.end) same ∙ ending_so Words b.model (counts_of []) r.ending)

pub migrate_agrees : FormAgrees migrate_meaning
migrate_agrees = record {
  says = migrations_are_told.says;
  comes = λ input e text end reads h. migrations_are_told.comes input e text (end, reads, h);
  fixed = migrate_fixed;
  ended = document_ended false SaysMigrated of_script;
  refused = document_refused false SaysMigrated of_script;
  rejected = document_not_rejected false SaysMigrated of_script;
  is_ended = document_is_ended false SaysMigrated of_script;
  is_refused = document_is_refused false SaysMigrated of_script;
  is_rejected = λ input text end reads e h never. absurd never;
}
