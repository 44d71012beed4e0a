-- What the machine of `migrate` prints for an input is what is said of its document, both ways.
use Rattle.std.proofs.Common.{◌≡◌, ℕ, List, [], ◌++◌, refl, sym, ap, subst, ◌∙◌, append_assoc}
use Rattle.cca_base.specs.Accepted.{CompiledModel, IsCompiled}
use Rattle.cca_base.specs.Model.{in_second}
use Rattle.cca_base.specs.PlantModel.{PlantModel}
use Rattle.line_machine.specs.Completes.{Completes}
use Rattle.line_machine.specs.Next.{Next, GoesOn}
use Rattle.line_machine.specs.declared.machine.End.{End}
use Rattle.model_form.specs.Answers.{Answer, answer, PrintsBehind}
use Rattle.model_form.proofs.Following.{are_told}
use Rattle.run_form.specs.Document.{DocumentEnd, Complete, RefusedAt}
use Rattle.run_form.specs.Printed.{ending, with_text}
use Rattle.run_form.specs.Summaries.{counts_of}
use Rattle.run_form.specs.declared.notation.Notation.TheVariants.{Words}
use Rattle.version_laws.specs.Laws.{at_version}
use Rattle.migrate_form.specs.MigrateLaws.{MigrationsAreTold, document_at}
use Rattle.migrate_form.specs.MigrateMachine.{ScriptSoFar, script_first, migrate_form, script_machine}
use Rattle.migrate_form.specs.Migrated.{SaysMigrated, lines_read, migrated_lines, migrated_model}
use Rattle.migrate_form.specs.declared.migrate.Migrate.{Migrate}
use Rattle.migrate_form.proofs.EventsAlike.{script_at}
use Rattle.migrate_form.proofs.SecondTelling.{kept, prints, runs}
use Rattle.migrate_form.proofs.TextsAlike.{refusal_alike}

-- a document ends with the same line in each version
ending_alike : (m : PlantModel) (v : ℕ) (e : DocumentEnd) → ending Words (at_version v m) (counts_of []) e ≡ ending Words m (counts_of []) e
ending_alike m v Complete = refl
ending_alike m v (RefusedAt line r) = ap (λ (t : List ℕ). record { text = t; end = (ending Words m (counts_of []) (RefusedAt line r)).end }) (refusal_alike m v line r)

module _ (f : Migrate) (b : CompiledModel) (n : ℕ) (ls : List (List ℕ)) (e : End) (text : List ℕ) (compiled : IsCompiled b) where
  -- what is printed of a script, and of the model before it
  whole : (end : DocumentEnd) → with_text (migrated_model b.model) (kept (in_second b.model) n ls end) ≡ with_text (migrated_model b.model ++ migrated_lines (lines_read n end ls)) (ending Words b.model (counts_of []) end)
  whole end =
      ap (λ (a : Answer). with_text (migrated_model b.model) (with_text (migrated_lines (lines_read n end ls)) a)) (ending_alike b.model 2 end)
      ∙ (λ i. record { text = sym (append_assoc (migrated_model b.model) (migrated_lines (lines_read n end ls)) (ending Words b.model (counts_of []) end).text) i; end = (ending Words b.model (counts_of []) end).end })

  told : PrintsBehind migrate_form script_machine f b n ls e text → SaysMigrated b n ls e text
  told p =
      let second = in_second b.model in
      let q = prints second ls n e p.rest (subst (λ (v : Next ScriptSoFar). Completes script_machine v n ls e p.rest) p.begins.0 p.completes) in
      let first : text ≡ migrated_model b.model ++ p.rest = p.parts ∙ ap (λ (z : List ℕ). z ++ p.rest) p.begins.1 in (
        document_at b.model.version q.document,
        script_at second b.model.version ls [] 0 n q.document q.says,
        ap (answer e) first ∙ ap (with_text (migrated_model b.model)) q.is ∙ whole q.document.ending,
      )

  tells : SaysMigrated b n ls e text → PrintsBehind migrate_form script_machine f b n ls e text
  tells (r, says, is) =
      let second = in_second b.model in
      let a : Answer = kept second n ls r.ending in
      let c : Completes script_machine (GoesOn (script_first second)) n ls a.end a.text = runs second ls n (document_at 2 r) (script_at b.model 2 ls [] 0 n r says) in
      let same : answer e text ≡ with_text (migrated_model b.model) a = is ∙ sym (whole r.ending) in
      record {
        next = GoesOn (script_first second);
        first = migrated_model b.model;
        begins = (refl, refl);
        rest = a.text;
        completes = subst (λ (z : End). Completes script_machine (GoesOn (script_first second)) n ls z a.text) (sym (ap (λ (x : Answer). x.end) same)) c;
        parts = ap (λ (x : Answer). x.text) same;
      }

pub migrations_are_told : MigrationsAreTold
migrations_are_told = are_told migrate_form script_machine (record {}) SaysMigrated (told (record {})) (tells (record {}))
