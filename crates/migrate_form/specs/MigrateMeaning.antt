-- What `migrate` means.
use Rattle.std.specs.Prelude.{◌≡◌, ⊤, ℕ, false, List}
use Rattle.line_machine.specs.declared.machine.End.TheVariants.{Ended}
use Rattle.model_form.specs.Answers.{Answer, AnswersByEnd}
use Rattle.model_form.specs.FormMeaning.{FormMeaning, reading}
use Rattle.model_form.specs.FormStates.{form_first}
use Rattle.run_form.specs.Document.{IsReadWhole, HasRefusedLine}
use Rattle.migrate_form.specs.MigrateLaws.{IsMigrated}
use Rattle.migrate_form.specs.MigrateMachine.{migrate_machine}
use Rattle.migrate_form.specs.Migrated.{SaysMigrated}

-- of an input that it ends as read `migrate` prints the document in version 2
abbrev pub MigratesRead : List ℕ → Answer → Type 0
MigratesRead input a = a.end ≡ Ended → IsMigrated input a.text

-- `migrate` reads its whole input
abbrev pub migrate_meaning : FormMeaning
migrate_meaning = reading migrate_machine (form_first (record {})) (AnswersByEnd false SaysMigrated) IsReadWhole HasRefusedLine MigratesRead ⊤ ⊥
