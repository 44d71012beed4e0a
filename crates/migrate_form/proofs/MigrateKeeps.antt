-- `migrate` keeps what it promises: it prints the document in version 2, and it prints by lines.
use Rattle.std.proofs.Common.{ℕ, false, List, refl, subst}
use Rattle.line_machine.specs.declared.machine.End.{End}
use Rattle.model_form.specs.Answers.{Answer, AnswersByEnd}
use Rattle.model_form.specs.FormMeaning.{FormKeeps, promises_of}
use Rattle.model_form.specs.FormStates.{form_first}
use Rattle.model_form.proofs.ByLines.{ends_anywhere, reading_keeps}
use Rattle.run_form.specs.Document.{IsReadWhole, HasRefusedLine}
use Rattle.migrate_form.specs.MigrateMachine.{migrate_form, migrate_machine, script_machine}
use Rattle.migrate_form.specs.MigrateMeaning.{MigratesRead, migrate_meaning}
use Rattle.migrate_form.specs.Migrated.{SaysMigrated}
use Rattle.migrate_form.proofs.MigrateEnds.{migrate_sure_refused}
use Rattle.migrate_form.proofs.MigratedDocuments.{documents_migrate}

migrates_read : (input : List ℕ) (a : Answer) → promises_of migrate_meaning input a → MigratesRead input a
migrates_read input a (end, reads, h) ended = documents_migrate.ended input a.text (end, reads, subst (λ (e : End). AnswersByEnd false SaysMigrated end e a.text) ended h)

pub migrate_keeps : FormKeeps migrate_meaning
migrate_keeps =
    reading_keeps migrate_machine (form_first (record {})) (AnswersByEnd false SaysMigrated) IsReadWhole HasRefusedLine MigratesRead migrates_read
    (ends_anywhere migrate_form script_machine (λ x n. refl) (form_first (record {}))) (migrate_sure_refused (form_first (record {})))
