-- What the lines of a script ask for and what is printed of it in version 2 go together.
use Rattle.std.proofs.Common.{◌≡◌, ℕ, false, List, [], ◌∷◌, ◌++◌, map, refl, sym, ap, subst, ◌∙◌}
use Rattle.cca_base.specs.PlantModel.{PlantModel}
use Rattle.line_forms.specs.Asked.{Effect, Sets, Asks, ServesEffect, Shown, Tells, ending_by}
use Rattle.line_forms.proofs.Telling as telling
use Rattle.line_machine.specs.Completes.{Completes}
use Rattle.line_machine.specs.Lines.{joined_lines}
use Rattle.line_machine.specs.Next.{Next, GoesOn}
use Rattle.line_machine.specs.declared.machine.End.{End}
use Rattle.model_form.specs.Answers.{Answer, answer}
use Rattle.model_form.specs.LinesEnds as lines
use Rattle.model_form.specs.LinesEnds.{LinesEnd, AllRead}
use Rattle.model_form.proofs.SameAnswer.{same_answer}
use Rattle.run_form.specs.Document.{Document, DocumentEnd, SaysScript}
use Rattle.run_form.specs.Printed.{ending, with_text}
use Rattle.run_form.specs.ScriptReading.{Bearing, IsSaid, Follows, Leads, behind_event, document_end, document_of, nothing_known}
use Rattle.run_form.specs.Summaries.{counts_of}
use Rattle.run_form.specs.declared.notation.Notation.TheVariants.{Words}
use Rattle.run_form.proofs.ReadScripts.{follows, leads, reads_say, says_read}
use Rattle.migrate_form.specs.MigrateMachine.{ScriptSoFar, KeepsLine, kept_line, script_first, script_machine, second_lines}
use Rattle.migrate_form.specs.Migrated.{lines_read, migrated_lines}
use Rattle.migrate_form.specs.declared.script.KeptLine.{KeptLine}
use Rattle.migrate_form.proofs.ScriptsKept.{event_back, its_event, its_line, kept_lines}

-- nothing but what is pending and mirrored bears on the later lines
abbrev Nowhere : Type 0
Nowhere = Unit {0}

-- a kept line is printed as it stands
abbrev Shows : Nowhere → KeptLine → Nowhere → List ℕ → Type 0
Shows t k v text = text ≡ k.line ++ 10 ∷ []

shown_joined : (items : List KeptLine) (t y : Nowhere) (text : List ℕ) → Shown Shows t items y text → text ≡ joined_lines (map its_line items)
shown_joined [] t y text h = h.1
shown_joined (k ∷ items) t y text (v, first, rest, is, more, parts) = parts ∙ (λ i. is i ++ shown_joined items v y rest more i)

joined_shown : (items : List KeptLine) → Shown Shows (tt {0}) items (tt {0}) (joined_lines (map its_line items))
joined_shown [] = (refl, refl)
joined_shown (k ∷ items) = (tt {0}, k.line ++ 10 ∷ [], joined_lines (map its_line items), refl, joined_shown items, refl)

module _ (m : PlantModel) where
  -- a script of this model
  abbrev at : Nowhere → Bearing → ScriptSoFar
  at t s = record { model = m; pending = s.pending; mirrored = s.mirrored }

  abbrev Ties : Nowhere → Bearing → Type 0
  Ties t s = Unit {0}

  abbrev nothing : Nowhere → List ℕ
  nothing t = []

  never_sets : (s y : Bearing) (k : KeptLine) → Sets y ≡ Asks k s → ⊥
  never_sets s y k h = absurd cc

  serves : (k : KeptLine) (t : Nowhere) (s : Bearing) (f : Effect Bearing KeptLine) (n : ℕ) (u : Next ScriptSoFar) (text : List ℕ) → Leads kept_line its_event m k s f → ServesEffect false m at Shows f t n u text → KeepsLine k (at t s) u text
  serves k t s f n u text (after, known, is) h =
      let (v, words, next) = subst (λ (z : Effect Bearing KeptLine). ServesEffect false m at Shows z t n u text) is h in
      (after, known, next, words)

  tells : Tells second_lines false m at (IsSaid kept_line its_event m) (Follows kept_line its_event m) (Leads kept_line its_event m) Shows Ties nothing
  tells = record {
    model = λ t s. refl;
    limit = λ t s. refl;
    words = λ t s. refl;
    closes = λ t s n. refl;
    says = λ t s l said tie h. h;
    said = λ t s l said tie h. h;
    follows = follows kept_line its_event event_back m;
    leads = leads kept_line its_event event_back m;
    does = λ k t s n u text tie (after, known, next, words). (Asks k (behind_event s k.event after), (after, known, refl), (tt {0}, words, next));
    serves = λ k t s f n u text tie h j. serves k t s f n u text h j;
    sets = λ k t s y tie h. absurd (never_sets (behind_event s k.event h.0) y k h.2);
    asks = λ k t v s y x text tie h j. tt;
  }

  -- what is printed of a script behind n lines
  abbrev pub kept : ℕ → List (List ℕ) → DocumentEnd → Answer
  kept n ls e = with_text (migrated_lines (lines_read n e ls)) (ending Words m (counts_of []) e)

  ends_so : (end : LinesEnd) → ending_by false m nothing (tt {0}) end ≡ ending Words m (counts_of []) (document_end end)
  ends_so AllRead = refl
  ends_so (lines.RefusedAt line code) = refl

  -- the lines say this document, and so much is printed of it
  pub record Prints (n : ℕ) (ls : List (List ℕ)) (a : Answer) : Type 0 where
    pub document : Document
    pub says : SaysScript m [] 0 n ls document
    pub is : a ≡ kept n ls document.ending

  module _ (ls : List (List ℕ)) (n : ℕ) where
    -- what the machine prints is what the lines say
    pub prints : (e : End) (text : List ℕ) → Completes script_machine (GoesOn (script_first m)) n ls e text → Prints n ls (answer e text)
    prints e text c =
        let q = telling.told second_lines false m at (IsSaid kept_line its_event m) (Follows kept_line its_event m) (Leads kept_line its_event m) Shows Ties nothing tells ls (tt {0}) nothing_known (tt {0}) n e text c in
        let end = ends_so q.asked.ending in
        let words = shown_joined q.asked.items (tt {0}) q.last q.told q.shown ∙ ap joined_lines (kept_lines m ls nothing_known n q.asked q.reads) in
        record {
          document = document_of kept_line its_event m q.asked;
          says = reads_say kept_line its_event event_back m ls nothing_known n q.asked q.reads;
          is = same_answer (q.end ∙ ap (λ (a : Answer). a.end) end) (q.parts ∙ (λ i. words i ++ (end i).text));
        }

    -- what the lines say is what the machine prints
    pub runs : (r : Document) → SaysScript m [] 0 n ls r → Completes script_machine (GoesOn (script_first m)) n ls (kept n ls r.ending).end (kept n ls r.ending).text
    runs r says =
        let (a, reads, is) = says_read kept_line its_event event_back m ls nothing_known n r says in
        let end = ends_so a.ending in
        let words = ap joined_lines (kept_lines m ls nothing_known n a reads) in
        subst (λ (d : Document). Completes script_machine (GoesOn (script_first m)) n ls (kept n ls d.ending).end (kept n ls d.ending).text) (sym is)
        (telling.tells second_lines false m at (IsSaid kept_line its_event m) (Follows kept_line its_event m) (Leads kept_line its_event m) Shows Ties nothing tells ls (tt {0}) nothing_known (tt {0}) n
        (kept n ls (document_end a.ending)).end (kept n ls (document_end a.ending)).text (record {
          asked = a;
          told = joined_lines (map its_line a.items);
          last = tt {0};
          reads = reads;
          shown = joined_shown a.items;
          end = sym (ap (λ (z : Answer). z.end) end);
          parts = λ i. sym words i ++ (sym end i).text;
        }))
