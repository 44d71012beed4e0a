-- What `migrate` prints is the document in version 2.
use Rattle.std.specs.Prelude.{◌≡◌, ◌≢◌, ◌↔◌, ℕ, false, List, [], ◌++◌, All, Ok}
use Rattle.cca_base.specs.Model.{in_second}
use Rattle.cca_base.specs.PlantModel.{PlantModel}
use Rattle.cca_base.specs.declared.events.Refusal.{Refusal}
use Rattle.line_machine.specs.declared.machine.End.TheVariants.{Ended}
use Rattle.model_form.specs.Answers.{Answer, answer, IsAnswer, AreTold}
use Rattle.model_form.specs.ModelTexts.{WholeModel, EndsModel}
use Rattle.run_form.specs.Document.{Document, Complete, RefusedAt, IsDocument}
use Rattle.run_form.specs.Printed.{IsRunOf}
use Rattle.run_form.specs.declared.notation.Notation.{Notation}
use Rattle.text_base.specs.Tokens.{tokens_of}
use Rattle.trace_text.specs.Refusals.{refusal_line}
use Rattle.version_laws.specs.Laws.{at_version}
use Rattle.migrate_form.specs.MigrateMachine.{migrate_machine}
use Rattle.migrate_form.specs.Migrated.{SaysMigrated}
use Rattle.model_form.specs.FormStates.{form_first}

-- the same document of the model in another version
abbrev pub document_at : ℕ → Document → Document
document_at v r = record r { model = at_version v r.model }

-- what `migrate` prints for an input
abbrev pub IsMigrationOf : List ℕ → Answer → Type 0
IsMigrationOf input a = IsAnswer false SaysMigrated input a.end a.text

-- the texts of the machine are what `migrate` prints, both ways
abbrev pub MigrationsAreTold : Type 0
MigrationsAreTold = AreTold migrate_machine (form_first (record {})) false SaysMigrated

-- nothing of the input is refused, and the text is a document with its events, of its model in version 2, whose script has no line without tokens. What a run prints for
-- one is what it prints for the other. And from the text `migrate` makes the text itself
pub record IsMigrated (input text : List ℕ) : Type 0 where
  pub document : Document
  pub read : IsDocument input document
  pub complete : document.ending ≡ Complete
  pub migrated : IsDocument text (record document { model = in_second document.model })
  pub bare : (m : PlantModel) (n : ℕ) (ls : List (List ℕ)) → EndsModel text (WholeModel m n ls) → All (λ l. tokens_of l ≢ Ok []) ls
  pub runs : (notation : Notation) (a : Answer) → IsRunOf notation input a ↔ IsRunOf notation text a
  pub again : IsMigrationOf text (answer Ended text)

-- an input that says a document has a migration, which ends as a run of it ends: with the line of the refusal, if a line is refused; and else it
-- is the document in version 2
pub record DocumentsMigrate : Type 0 where
  pub some : (input : List ℕ) (r : Document) → IsDocument input r → (a : Answer) × IsMigrationOf input a
  pub ends : (notation : Notation) (input : List ℕ) (a c : Answer) → IsMigrationOf input a → IsRunOf notation input c → a.end ≡ c.end
  pub refused : (input : List ℕ) (r : Document) (line : ℕ) (refusal : Refusal) (a : Answer) → IsDocument input r → r.ending ≡ RefusedAt line refusal → IsMigrationOf input a
      → (front : List ℕ) × (a.text ≡ front ++ refusal_line r.model line refusal)
  pub ended : (input text : List ℕ) → IsMigrationOf input (answer Ended text) → IsMigrated input text
