-- What words that ask for a migration print is the document in version 2.
use Rattle.std.proofs.Common.{◌≡◌, ℕ, List, Option, Some, None, refl, sym, ap, subst, ◌∙◌}
use Rattle.std.specs.Global.{Global}
use Rattle.std.specs.Prelude.{IfSome, String}
use Rattle.cca_base.specs.Model.{in_second}
use Rattle.line_machine.specs.declared.machine.End.TheVariants as ends
use Rattle.model_form.specs.Answers.{answer}
use Rattle.model_form.proofs.SameAnswer.{same_answer}
use Rattle.migrate_form.specs.MigrateLaws.{IsMigrated, IsMigrationOf}
use Rattle.migrate_form.proofs.MigrateAgrees.{migrate_agrees}
use Rattle.migrate_form.proofs.MigratedDocuments.{documents_migrate}
use Rattle.run_form.specs.Document.{Document, Complete, IsDocument, IsReadWhole}
use Rattle.run_form.specs.declared.notation.Notation.{Notation}
use Rattle.run_form.proofs.DocumentsAreOne.{documents_are_one}
use Rattle.titan_top.specs.Laws.{MigrationsRunAlike}
use Rattle.titan_top.specs.Output.{Outcome, outcome_of, IsOutcomeFor, IsOutcomeOf, IsOutcome}
use Rattle.titan_top.specs.Statuses.{end_status}
use Rattle.titan_top.specs.Words.{IsForm}
use Rattle.titan_top.specs.declared.status.Status.TheVariants.{Ended}
use Rattle.titan_top.specs.declared.words.Form.{Form}
use Rattle.titan_top.specs.declared.words.Form.TheVariants.{Run, Migrate}
use Rattle.titan_top.proofs.FormStatuses.{end_ended}

-- a migration that ends is of this answer
ended_answer : (input : List ℕ) (o : Outcome) → IsOutcomeFor Migrate input o → o.status ≡ Ended → IsMigrationOf input (answer ends.Ended o.text)
ended_answer input o (a, is, says) h =
    let ended : a.end ≡ ends.Ended = end_ended a.end (sym (ap (λ (x : Outcome). x.status) is) ∙ h) in
    subst (IsMigrationOf input) (same_answer ended (sym (ap (λ (x : Outcome). x.text) is))) says

-- what is printed is the document in version 2
ended_is_migrated : (input : List ℕ) (o : Outcome) → IsOutcomeFor Migrate input o → o.status ≡ Ended → IsMigrated input o.text
ended_is_migrated input o is h = documents_migrate.ended input o.text (ended_answer input o is h)

pub migration_is_migrated : (words : List (String Global)) (left : Option (List ℕ)) → IsForm words Migrate → IfSome left (λ input. (o : Outcome) → IsOutcome words input o → o.status ≡ Ended → IsMigrated input o.text)
unfolding IsOutcome
migration_is_migrated words None e = tt
migration_is_migrated words (Some input) e = λ o is. ended_is_migrated input o (subst (λ (f : Option Form). IsOutcomeOf f input o) e is)

-- ---- the same of outcomes

ended_outcome : (o : Outcome) → o.status ≡ Ended → o ≡ outcome_of (answer ends.Ended o.text)
ended_outcome o h = λ i. record { text = o.text; status = h i }

-- where nothing is refused a migration ends
ends_whole : (input : List ℕ) (o : Outcome) → IsReadWhole input → IsOutcomeFor Migrate input o → o.status ≡ Ended
ends_whole input o whole (a, is, (end, reads, says)) = ap (λ (x : Outcome). x.status) is ∙ ap end_status (migrate_agrees.is_ended input a.text end reads a.end says whole)

whole_is_migrated : (input : List ℕ) (o : Outcome) → IsReadWhole input → IsOutcomeFor Migrate input o → IsMigrated input o.text
whole_is_migrated input o whole is = ended_is_migrated input o is (ends_whole input o whole is)

same_status : (notation : Notation) (input : List ℕ) (o p : Outcome) → IsOutcomeFor Migrate input o → IsOutcomeFor (Run notation) input p → o.status ≡ p.status
same_status notation input o p (a, is, says) (c, same, said) =
    ap (λ (x : Outcome). x.status) is ∙ ap end_status (documents_migrate.ends notation input a c says said) ∙ sym (ap (λ (x : Outcome). x.status) same)

some_migration : (input : List ℕ) → IsReadWhole input → (o : Outcome) × IsOutcomeFor Migrate input o × (o.status ≡ Ended)
some_migration input (r, document, complete) =
    let (a, is) = documents_migrate.some input r document in
    let o : Outcome = outcome_of a in
    let outcome : IsOutcomeFor Migrate input o = (a, refl, is) in
    (o, outcome, ends_whole input o (r, document, complete) outcome)

its_document : (input : List ℕ) (r : Document) (o : Outcome) → IsDocument input r → r.ending ≡ Complete → IsOutcomeFor Migrate input o → IsDocument o.text (record r { model = in_second r.model })
its_document input r o document complete is =
    let m = whole_is_migrated input o (r, document, complete) is in
    subst (λ (d : Document). IsDocument o.text (record d { model = in_second d.model })) (documents_are_one input m.document r m.read document) m.migrated

pub migrations_run_alike : MigrationsRunAlike
migrations_run_alike = record {
  status = same_status;
  some = some_migration;
  document = its_document;
  runs = λ notation input o p whole is. let m = whole_is_migrated input o whole is in (
    (λ (a, same, says). (a, same, (m.runs notation a).0 says)),
    (λ (a, same, says). (a, same, (m.runs notation a).1 says)),
  );
  again = λ input o whole is. let m = whole_is_migrated input o whole is in (answer ends.Ended o.text, ended_outcome o (ends_whole input o whole is), m.again);
}
