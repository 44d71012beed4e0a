-- A run says the same of a document and of what `migrate` prints of it, and `migrate` prints that as it is.
use Rattle.std.specs.Prelude.{filter}
use Rattle.std.proofs.Common.{◌≡◌, ◌≢◌, ℕ, Bool, true, false, List, [], ◌∷◌, ◌++◌, Result, Ok, Err, All, refl, sym, ap, subst, ◌∙◌, append-nil}
use Rattle.std.proofs.lemmas.List.Elements.{All-nil, All-cons}
use Rattle.cca_base.specs.Accepted.{CompiledModel, IsCompiled}
use Rattle.cca_base.specs.Model.{WellFormed}
use Rattle.cca_base.specs.PlantModel.{PlantModel}
use Rattle.cca_base.specs.Plans.{Promising}
use Rattle.cca_base.specs.Runs.{Trace}
use Rattle.cca_base.specs.Trace.{start}
use Rattle.cca_base.specs.declared.events.Refusal.{Refusal}
use Rattle.cca_base.specs.declared.events.TickReport.{TickReport}
use Rattle.cca_base.proofs.EmptyModel.{second_well_formed}
use Rattle.line_machine.specs.Lines.{lines_in, all_lines, joined_lines, HasNoLf}
use Rattle.line_machine.specs.declared.machine.End.{End}
use Rattle.line_machine.specs.declared.machine.End.TheVariants.{Ended, Refused}
use Rattle.line_machine.proofs.JoinedLines.{lines_clean}
use Rattle.model_form.specs.Acceptance.{Acceptance, AcceptedAs, RefusedFor, IsAcceptanceOf}
use Rattle.model_form.specs.Answers.{Answer, Saying, answer, refused_answer, AnswersByAcceptance, AnswersByEnd, IsAnswer}
use Rattle.model_form.specs.FormStates.{nothing_read}
use Rattle.model_form.specs.ModelTexts.{ModelText, WholeModel, RefusedModel, EndsModel}
use Rattle.model_form.specs.OneStep.{acceptance_is_one}
use Rattle.model_form.proofs.OneModelText.{texts_are_one}
use Rattle.model_form.proofs.PrintedLimits.{printed_within}
use Rattle.run_form.specs.Document.{Document, DocumentEnd, Complete, RefusedAt, SaysScript, SaysByAcceptance, SaysByEnd, IsDocument}
use Rattle.run_form.specs.Notations.{is_json}
use Rattle.run_form.specs.Printed.{ending, printed, with_text, SaysRun, IsRunOf}
use Rattle.run_form.specs.Summaries.{counts_of}
use Rattle.run_form.specs.TickTexts.{TicksText}
use Rattle.run_form.specs.declared.counts.Counts.{Counts}
use Rattle.run_form.specs.declared.notation.Notation.{Notation}
use Rattle.run_form.specs.declared.notation.Notation.TheVariants.{Words}
use Rattle.run_form.proofs.DocumentEnds.{end_of, the_document}
use Rattle.run_form.proofs.DocumentsAreOne.{documents_are_one}
use Rattle.run_form.proofs.ReadScripts.{script_model, script_one}
use Rattle.run_form.proofs.RunDocuments.{run_document}
use Rattle.text_base.specs.Tokens.{Tok, tokens_of}
use Rattle.trace_text.specs.Refusals.{refusal_line}
use Rattle.version_laws.specs.Laws.{at_version}
use Rattle.version_laws.specs.Traces.{compiled_at}
use Rattle.version_laws.proofs.Traces.{compiled_alike, ticks_at}
use Rattle.migrate_form.specs.MigrateLaws.{document_at, IsMigrationOf, IsMigrated, DocumentsMigrate}
use Rattle.migrate_form.specs.Migrated.{is_something, says_something, lines_read, migrated_lines, migrated_model, SaysMigrated}
use Rattle.migrate_form.proofs.EventsAlike.{script_at}
use Rattle.migrate_form.proofs.MigrateAgrees.{of_script}
use Rattle.migrate_form.proofs.MigratedTexts.{text_ends, no_later, place, kept_says, kept_again, rest_all}
use Rattle.migrate_form.proofs.ScriptsKept.{kept_first, left_out}
use Rattle.migrate_form.proofs.TicksAlike.{texts_at}

-- ---- a run of the same document in another version

complete_by : (notation : Notation) (m : PlantModel) (v : ℕ) (counts : Counts) (e : DocumentEnd) → e ≡ Complete → ending notation m counts e ≡ ending notation (at_version v m) counts e
complete_by notation m v counts Complete h = refl
complete_by notation m v counts (RefusedAt line r) h = absurd cc

printed_alike : (notation : Notation) (v : ℕ) (r : Document) (reports : List TickReport) (told : List ℕ) → r.ending ≡ Complete → printed notation r reports told ≡ printed notation (document_at v r) reports told
unfolding printed
printed_alike notation v r reports told complete = ap (with_text told) (complete_by notation r.model v (counts_of reports) r.ending complete)

-- a run's ticks of a document, and what is printed of them
abbrev MakesTrace : Notation → CompiledModel → End → List ℕ → Document → Type 0
MakesTrace notation b e text r =
    (reports : List TickReport) × (told : List ℕ) × (trace : Trace b (Promising b) r.events reports) × TicksText notation b trace.ticks told × (answer e text ≡ printed notation r reports told)

module _ (notation : Notation) (b : CompiledModel) (v : ℕ) (well : WellFormed (at_version v b.model)) where
  trace_at : (e : End) (text : List ℕ) (r : Document) → r.ending ≡ Complete → MakesTrace notation b e text r → MakesTrace notation (compiled_at v b) e text (document_at v r)
  trace_at e text r complete (reports, told, trace, of_ticks, same) =
      (reports, told, record { ticks = trace.ticks; made = ticks_at b v (start b.model 0) [] r.events trace.ticks trace.made; reported = trace.reported }, texts_at b v well notation trace.ticks told of_ticks, same ∙ printed_alike notation v r reports told complete)

  run_at : (n k : ℕ) (ls ms : List (List ℕ)) (r : Document) → r.ending ≡ Complete → SaysScript b.model [] 0 n ls r → SaysScript (at_version v b.model) [] 0 k ms (document_at v r) → (e : End) (text : List ℕ)
      → SaysRun notation b n ls e text → SaysRun notation (compiled_at v b) k ms e text
  run_at n k ls ms r complete says says_so e text (s, reports, told, says', trace, of_ticks, same) =
      let one : s ≡ r = script_one ls b.model [] 0 n s r says' says in
      let (reports', told', trace', of_ticks', same') = trace_at e text r complete (subst (MakesTrace notation b e text) one (reports, told, trace, of_ticks, same)) in
      (document_at v r, reports', told', says_so, trace', of_ticks', same')

-- ---- what is said behind an accepted model

module _ (json : Bool) (P : Saying) (input : List ℕ) (b : CompiledModel) (compiled : IsCompiled b) (n : ℕ) (ls : List (List ℕ)) (reads : EndsModel input (WholeModel b.model n ls)) where
  -- behind it exactly this is said
  only : (e : End) (text : List ℕ) → IsAnswer json P input e text → P b n ls e text
  only e text (end, reads', h) =
      let same : end ≡ WholeModel b.model n ls = texts_are_one input end (WholeModel b.model n ls) reads' reads in
      let (v, is, says) = subst (λ (x : ModelText). AnswersByEnd json P x e text) same h in
      subst (λ (z : Acceptance). AnswersByAcceptance json P z b.model n ls e text) (acceptance_is_one b.model v (AcceptedAs b) is (compiled, refl)) says

  said : (e : End) (text : List ℕ) → P b n ls e text → IsAnswer json P input e text
  said e text h = (WholeModel b.model n ls, reads, (AcceptedAs b, (compiled, refl), h))

-- ---- the whole text

never_refused : {X : Type 0} → Ended ≡ Refused → X
never_refused h = absurd cc

ended_complete : (m : PlantModel) (front : List ℕ) (e : DocumentEnd) (text : List ℕ) → answer Ended text ≡ with_text front (ending Words m (counts_of []) e) → e ≡ Complete
ended_complete m front Complete text h = refl
ended_complete m front (RefusedAt line r) text h = never_refused (ap (λ (a : Answer). a.end) h)

whole_text : (m : PlantModel) (n : ℕ) (ls : List (List ℕ)) (e : DocumentEnd) (text : List ℕ) → e ≡ Complete
    → answer Ended text ≡ with_text (migrated_model m ++ migrated_lines (lines_read n e ls)) (ending Words m (counts_of []) e) → text ≡ migrated_model m ++ migrated_lines ls
whole_text m n ls Complete text complete h = ap (λ (a : Answer). a.text) h ∙ append-nil (migrated_model m ++ migrated_lines ls)
whole_text m n ls (RefusedAt line r) text complete h = absurd cc

-- ---- lines with tokens

abbrev HasTokens : List ℕ → Type 0
HasTokens l = tokens_of l ≢ Ok []

something_has : (read : Result (List Tok) ℕ) → is_something read ≡ true → read ≢ Ok []
something_has (Ok []) e h = absurd cc
something_has (Ok (t ∷ ts)) e h = absurd cc
something_has (Err at) e h = absurd cc

kept_by : (t : Bool) (l : List ℕ) (ls : List (List ℕ)) → says_something l ≡ t → All HasTokens (filter says_something ls) → All HasTokens (filter says_something (l ∷ ls))
kept_by true l ls e h = subst (All HasTokens) (sym (kept_first l ls e)) (All-cons HasTokens l (filter says_something ls) (something_has (tokens_of l) e) h)
kept_by false l ls e h = subst (All HasTokens) (sym (left_out l ls e)) h

kept_have_tokens : (ls : List (List ℕ)) → All HasTokens (filter says_something ls)
kept_have_tokens [] = All-nil HasTokens
kept_have_tokens (l ∷ ls) = kept_by (says_something l) l ls refl (kept_have_tokens ls)

same_rest : {m k : PlantModel} {n j : ℕ} {ls ms : List (List ℕ)} → WholeModel m n ls ≡ WholeModel k j ms → ls ≡ ms
same_rest e = cc

module _ (input : List ℕ) (b : CompiledModel) (compiled : IsCompiled b) (n : ℕ) (ls : List (List ℕ)) (reads : EndsModel input (WholeModel b.model n ls)) (r : Document) (says : SaysScript b.model [] 0 n ls r) (complete : r.ending ≡ Complete) where
  abbrev m : PlantModel
  m = b.model

  abbrev c : CompiledModel
  c = compiled_at 2 b

  abbrev kept : List (List ℕ)
  kept = filter says_something ls

  abbrev whole : List ℕ
  whole = migrated_model m ++ migrated_lines ls

  well : WellFormed m
  well = compiled.accepted.well_formed

  second_compiled : IsCompiled c
  second_compiled = compiled_alike b 2 (second_well_formed m well) compiled

  clean : All HasNoLf ls
  clean = rest_all HasNoLf (all_lines (lines_in input)) nothing_read 0 m n ls reads (lines_clean input)

  -- where the whole's script begins
  abbrev k : ℕ
  k = let p = printed_within m n ls (all_lines (lines_in input)) reads in place m p.before n ls p.within p.number p.few clean

  reads_again : EndsModel whole (WholeModel c.model k kept)
  reads_again = let p = printed_within m n ls (all_lines (lines_in input)) reads in text_ends m p.before n ls p.within p.number p.few clean

  says_again : SaysScript c.model [] 0 k kept (document_at 2 r)
  says_again =
      let p = printed_within m n ls (all_lines (lines_in input)) reads in
      script_at m 2 kept [] 0 k r (kept_says m ls [] 0 n k r (no_later m p.before n ls p.within p.number p.few clean) complete says)

  to_text : (notation : Notation) (a : Answer) → IsRunOf notation input a → IsRunOf notation whole a
  to_text notation a h =
      said (is_json notation) (SaysRun notation) whole c second_compiled k kept reads_again a.end a.text
      (run_at notation b 2 (second_well_formed m well) n k ls kept r complete says says_again a.end a.text (only (is_json notation) (SaysRun notation) input b compiled n ls reads a.end a.text h))

  -- the document in version 2, put back
  put_back : document_at m.version (document_at 2 r) ≡ r
  put_back = let p : r.model ≡ m = script_model ls m [] 0 n r says in (λ i. record r { model = at_version m.version (p i) }) ∙ (λ i. record r { model = sym p i })

  says_back : SaysScript m [] 0 n ls (document_at m.version (document_at 2 r))
  says_back = subst (SaysScript m [] 0 n ls) (sym put_back) says

  from_text : (notation : Notation) (a : Answer) → IsRunOf notation whole a → IsRunOf notation input a
  from_text notation a h =
      said (is_json notation) (SaysRun notation) input b compiled n ls reads a.end a.text
      (run_at notation c m.version well k n kept ls (document_at 2 r) complete says_again says_back a.end a.text (only (is_json notation) (SaysRun notation) whole c second_compiled k kept reads_again a.end a.text h))

  again : SaysMigrated c k kept Ended whole
  again =
      let same : migrated_lines kept ≡ migrated_lines ls = ap joined_lines (kept_again ls) in (
        document_at 2 r,
        says_again,
        subst (λ (e : DocumentEnd). answer Ended whole ≡ with_text (migrated_model c.model ++ migrated_lines (lines_read k e kept)) (ending Words c.model (counts_of []) e)) (sym complete)
            (ap (answer Ended) (ap (λ (t : List ℕ). migrated_model m ++ t) (sym same) ∙ sym (append-nil (migrated_model m ++ migrated_lines kept)))),
      )

  bare : (k' : PlantModel) (j : ℕ) (ls' : List (List ℕ)) → EndsModel whole (WholeModel k' j ls') → All HasTokens ls'
  bare k' j ls' ends = subst (All HasTokens) (same_rest (texts_are_one whole (WholeModel c.model k kept) (WholeModel k' j ls') reads_again ends)) (kept_have_tokens ls)

  is_migrated : IsMigrated input whole
  is_migrated = record {
    document = r;
    read = (WholeModel m n ls, reads, (AcceptedAs b, (compiled, refl), says));
    complete = complete;
    bare = bare;
    migrated = (WholeModel c.model k kept, reads_again, (AcceptedAs c, (second_compiled, refl), says_again));
    runs = λ notation a. (to_text notation a, from_text notation a);
    again = said false SaysMigrated whole c second_compiled k kept reads_again Ended whole again;
  }

by_acceptance : (input : List ℕ) (v : Acceptance) (m : PlantModel) (n : ℕ) (ls : List (List ℕ)) (text : List ℕ) → IsAcceptanceOf m v → EndsModel input (WholeModel m n ls) → AnswersByAcceptance false SaysMigrated v m n ls Ended text → IsMigrated input text
by_acceptance input (AcceptedAs b) m n ls text is reads (r, says, same) =
    let complete = ended_complete b.model (migrated_model b.model ++ migrated_lines (lines_read n r.ending ls)) r.ending text same in
    subst (IsMigrated input) (sym (whole_text b.model n ls r.ending text complete same))
    (is_migrated input b is.0 n ls (subst (λ (x : PlantModel). EndsModel input (WholeModel x n ls)) (sym is.1) reads) r says complete)
by_acceptance input (RefusedFor rf) m n ls text is reads h = never_refused h.0

by_end : (input : List ℕ) (end : ModelText) (text : List ℕ) → EndsModel input end → AnswersByEnd false SaysMigrated end Ended text → IsMigrated input text
by_end input (WholeModel m n ls) text reads (v, is, h) = by_acceptance input v m n ls text is reads h
by_end input (RefusedModel m line r) text reads h = never_refused h.0

-- ---- an input that says a document has a migration, which ends as a run does

migration_by : (input : List ℕ) (v : Acceptance) (m : PlantModel) (n : ℕ) (ls : List (List ℕ)) (r : Document) → EndsModel input (WholeModel m n ls) → IsAcceptanceOf m v → SaysByAcceptance v m n ls r → (a : Answer) × IsMigrationOf input a
migration_by input (AcceptedAs b) m n ls r reads is says = (
  with_text (migrated_model b.model ++ migrated_lines (lines_read n r.ending ls)) (ending Words b.model (counts_of []) r.ending),
  (WholeModel m n ls, reads, (AcceptedAs b, is, (r, subst (λ (k : PlantModel). SaysScript k [] 0 n ls r) (sym is.1) says, refl))),
)
migration_by input (RefusedFor rf) m n ls r reads is says = (refused_answer false m n rf, (WholeModel m n ls, reads, (RefusedFor rf, is, (refl, refl))))

some_migration : (input : List ℕ) (r : Document) → IsDocument input r → (a : Answer) × IsMigrationOf input a
some_migration input r (WholeModel m n ls, reads, (v, is, says)) = migration_by input v m n ls r reads is says
some_migration input r (RefusedModel m line rf, reads, says) = (refused_answer false m line rf, (RefusedModel m line rf, reads, (refl, refl)))

same_end : (notation : Notation) (input : List ℕ) (a c : Answer) → IsMigrationOf input a → IsRunOf notation input c → a.end ≡ c.end
same_end notation input a c (end, reads, h) (other, reads', k) =
    let d = the_document false SaysMigrated of_script end a.end a.text h in
    let f = the_document (is_json notation) (SaysRun notation) (run_document notation) other c.end c.text k in
    let one : d.document ≡ f.document = documents_are_one input d.document f.document (end, reads, d.says) (other, reads', f.says) in
    d.ends ∙ ap (λ (x : Document). end_of x.ending) one ∙ sym f.ends

-- ---- the line of a refusal comes last

same_line : (m : PlantModel) (n line : ℕ) (rf refusal : Refusal) → RefusedAt n rf ≡ RefusedAt line refusal → refusal_line m n rf ≡ refusal_line m line refusal
same_line m n line rf refusal e =
    let number : n ≡ line = cc in
    let what : rf ≡ refusal = cc in
    λ i. refusal_line m (number i) (what i)

its_model : (v : Acceptance) (m : PlantModel) (n : ℕ) (ls : List (List ℕ)) (r : Document) → SaysByAcceptance v m n ls r → r.model ≡ m
its_model (AcceptedAs b) m n ls r says = script_model ls m [] 0 n r says
its_model (RefusedFor rf) m n ls r says = ap (λ (d : Document). d.model) says

abbrev EndsInRefusal : PlantModel → ℕ → Refusal → List ℕ → Type 0
EndsInRefusal m line refusal text = (front : List ℕ) × (text ≡ front ++ refusal_line m line refusal)

ends_in : (m : PlantModel) (front : List ℕ) (e : DocumentEnd) (line : ℕ) (refusal : Refusal) (a : Answer) → e ≡ RefusedAt line refusal → a ≡ with_text front (ending Words m (counts_of []) e) → EndsInRefusal m line refusal a.text
ends_in m front e line refusal a at same = (front, ap (λ (x : Answer). x.text) (same ∙ ap (λ (z : DocumentEnd). with_text front (ending Words m (counts_of []) z)) at))

refused_by : (v : Acceptance) (m : PlantModel) (n : ℕ) (ls : List (List ℕ)) (r : Document) (line : ℕ) (refusal : Refusal) (a : Answer) → IsAcceptanceOf m v → SaysByAcceptance v m n ls r → r.ending ≡ RefusedAt line refusal
    → AnswersByAcceptance false SaysMigrated v m n ls a.end a.text → EndsInRefusal m line refusal a.text
refused_by (AcceptedAs b) m n ls r line refusal a is says at (s, says', same) =
    let here : SaysScript b.model [] 0 n ls r = subst (λ (k : PlantModel). SaysScript k [] 0 n ls r) (sym is.1) says in
    let one : s ≡ r = script_one ls b.model [] 0 n s r says' here in
    subst (λ (k : PlantModel). EndsInRefusal k line refusal a.text) is.1
    (ends_in b.model (migrated_model b.model ++ migrated_lines (lines_read n s.ending ls)) s.ending line refusal a (ap (λ (d : Document). d.ending) one ∙ at) same)
refused_by (RefusedFor rf) m n ls r line refusal a is says at h =
    let same : RefusedAt n rf ≡ RefusedAt line refusal = sym (ap (λ (d : Document). d.ending) says) ∙ at in
    ([], h.1 ∙ same_line m n line rf refusal same)

refused_end : (end : ModelText) (r : Document) (line : ℕ) (refusal : Refusal) (a : Answer) → SaysByEnd end r → r.ending ≡ RefusedAt line refusal → AnswersByEnd false SaysMigrated end a.end a.text → EndsInRefusal r.model line refusal a.text
refused_end (WholeModel m n ls) r line refusal a (v, is, says) at (w, is', h) =
    subst (λ (k : PlantModel). EndsInRefusal k line refusal a.text) (sym (its_model v m n ls r says))
    (refused_by v m n ls r line refusal a is says at (subst (λ (z : Acceptance). AnswersByAcceptance false SaysMigrated z m n ls a.end a.text) (acceptance_is_one m w v is' is) h))
refused_end (RefusedModel m k rf) r line refusal a is at h =
    let same : RefusedAt k rf ≡ RefusedAt line refusal = sym (ap (λ (d : Document). d.ending) is) ∙ at in
    subst (λ (z : PlantModel). EndsInRefusal z line refusal a.text) (sym (ap (λ (d : Document). d.model) is)) ([], h.1 ∙ same_line m k line rf refusal same)

refused_migration : (input : List ℕ) (r : Document) (line : ℕ) (refusal : Refusal) (a : Answer) → IsDocument input r → r.ending ≡ RefusedAt line refusal → IsMigrationOf input a → EndsInRefusal r.model line refusal a.text
refused_migration input r line refusal a (end, reads, says) at (other, reads', h) =
    refused_end end r line refusal a says at (subst (λ (x : ModelText). AnswersByEnd false SaysMigrated x a.end a.text) (texts_are_one input other end reads' reads) h)

pub documents_migrate : DocumentsMigrate
documents_migrate = record {
  some = some_migration;
  ends = same_end;
  refused = refused_migration;
  ended = λ input text (end, reads, h). by_end input end text reads h;
}
