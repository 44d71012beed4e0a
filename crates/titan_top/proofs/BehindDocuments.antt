-- A document of which nothing is refused is read as far as its end also where the line `trace` and more lines stand behind it.
use Rattle.std.proofs.Common.{◌≡◌, ℕ, ◌+◌, Bool, true, false, List, [], ◌∷◌, ◌++◌, length, Option, Some, None, Result, Ok, Err, refl, sym, ap, subst, ◌∙◌, append_assoc, append-nil, arith}
use Rattle.std.specs.Prelude.{codes}
use Rattle.std.proofs.lemmas.Bool.{false≢true}
use Rattle.cca_base.specs.declared.codes.TheConstants.{MALFORMED}
use Rattle.cca_base.specs.declared.cube.Pair.{Pair}
use Rattle.cca_base.specs.declared.events.Event.{Event}
use Rattle.cca_base.specs.PlantModel.{PlantModel}
use Rattle.cca_base.specs.Refusals.{bare}
use Rattle.model_syntax.specs.Lines.{ModelSoFar, LineOutcome, Reads as ReadsLine, Refuses as RefusesLine, Finishes}
use Rattle.script_reader.specs.EventLines.{event_line, event_of, by_form, by_tokens}
use Rattle.script_reader.specs.Items.{Item, item_of}
use Rattle.text_base.specs.Lexemes.{Lexeme, lexeme, word}
use Rattle.text_base.specs.Tokens.{Tok, tokens_of}
use Rattle.text_base.proofs.LexemeLaws.{lexeme_is}
use Rattle.check_form.specs.CheckScript.{ScriptSoFar, ScriptOutcome, Reads, Ends, Traced, ReadsScript, LeadsByCode, LeadsUnless, ScriptLeads, EventLeads, is_word_alone, is_trace_line, with_event}
use Rattle.model_form.specs.ModelTexts.{ModelText, WholeModel, RefusedModel, ReadsModel, After}
use Rattle.run_form.specs.Document.{Document, Complete, SaysBy, SaysScript}
use Rattle.model_form.specs.Limits.{line_code, unless_long}
use Rattle.migrate_form.proofs.MigratedTexts.{refused_never as never_complete}

-- ---- the model

-- the same end of a model's lines, with more lines behind
abbrev pub with_more : List (List ℕ) → ModelText → ModelText
with_more more (WholeModel m n rest) = WholeModel m n (rest ++ more)
with_more more (RefusedModel m line r) = RefusedModel m line r

-- the lines come to the script
abbrev pub IsWholeModel : ModelText → Type 0
IsWholeModel (WholeModel m n rest) = Unit {0}
IsWholeModel (RefusedModel m line r) = ⊥

never_whole : (end : ModelText) (m : PlantModel) (line : ℕ) (code : ℕ) → IsWholeModel end → end ≡ RefusedModel m line (bare code) → ⊥
never_whole end m line code scripted is = subst IsWholeModel is scripted

module _ (more : List (List ℕ)) where
  model_line_goes_on : (o : LineOutcome) (s : ModelSoFar) (n : ℕ) (ls : List (List ℕ)) (end : ModelText) → IsWholeModel end
      → ((t : ModelSoFar) → ReadsModel t (n + 1) ls end → ReadsModel t (n + 1) (ls ++ more) (with_more more end))
      → After o (λ t. ReadsModel t (n + 1) ls end) (end ≡ WholeModel s.model (n + 1) ls) (λ code. end ≡ RefusedModel s.model (n + 1) (bare code))
      → After o (λ t. ReadsModel t (n + 1) (ls ++ more) (with_more more end)) (with_more more end ≡ WholeModel s.model (n + 1) (ls ++ more)) (λ code. with_more more end ≡ RefusedModel s.model (n + 1) (bare code))
  model_line_goes_on (ReadsLine t) s n ls end scripted on h = on t h
  model_line_goes_on (RefusesLine code) s n ls end scripted on h = absurd (never_whole end s.model (n + 1) code scripted h)
  model_line_goes_on Finishes s n ls end scripted on h = ap (with_more more) h

  pub model_goes_on : (ls : List (List ℕ)) (s : ModelSoFar) (n : ℕ) (end : ModelText) → IsWholeModel end → ReadsModel s n ls end → ReadsModel s n (ls ++ more) (with_more more end)
  model_goes_on [] s n end scripted h = absurd (never_whole end s.model n _ scripted h)
  model_goes_on (l ∷ ls) s n end scripted (o, leads, after) =
      (o, leads, model_line_goes_on o s n ls end scripted (λ t h. model_goes_on ls t (n + 1) end scripted h) after)

-- ---- the script

-- a line with the word `trace` alone has no form of an event's line
trace_item : (says : Item → Result Event ℕ) (r : Result (List Tok) ℕ) → is_word_alone (codes "trace") r ≡ true → by_tokens says r ≡ Err MALFORMED
trace_item says (Err at) h = refl
trace_item says (Ok []) h = absurd (false≢true h)
trace_item says (Ok (t ∷ [])) h =
    let same : lexeme t ≡ word (codes "trace") = lexeme_is (word (codes "trace")) (lexeme t) h in
    ap (λ (l : Lexeme). by_form says (item_of (l ∷ []))) same
trace_item says (Ok (t ∷ u ∷ ts)) h = absurd (false≢true h)

trace_is_no_event : (m : PlantModel) (pending : List Pair) (mirrored : ℕ) (l : List ℕ) → is_trace_line l ≡ true → event_line m pending mirrored l ≡ Err MALFORMED
unfolding is_trace_line event_line
trace_is_no_event m pending mirrored l h = trace_item (event_of m pending mirrored) (tokens_of l) h

module _ (m : PlantModel) (l : List ℕ) (said : Result (Option Event) ℕ) where
  no_trace_by : (b : Bool) → b ≡ is_trace_line l → (is_trace_line l ≡ true → (code : ℕ) × (said ≡ Err code)) → (s : ScriptSoFar) (o : ScriptOutcome) → ((code : ℕ) → said ≡ Err code → ⊥) → EventLeads said s o → LeadsUnless b said s o
  no_trace_by true is malformed s o good h = let (code, e) = malformed (sym is) in absurd (good code e)
  no_trace_by false is malformed s o good h = h

module _ (m : PlantModel) where
  -- a line of which nothing is refused isn't the line `trace`
  event_leads : (s : ScriptSoFar) (l : List ℕ) (said : Result (Option Event) ℕ) (o : ScriptOutcome) → said ≡ event_line m s.pending s.mirrored l → ((code : ℕ) → said ≡ Err code → ⊥) → EventLeads said s o → ScriptLeads m s l o
  event_leads s l said o is good h =
      subst (λ (r : Result (Option Event) ℕ). LeadsUnless (is_trace_line l) r s o) is
      (no_trace_by m l said (is_trace_line l) refl (λ t. (MALFORMED, is ∙ trace_is_no_event m s.pending s.mirrored l t)) s o good h)

  module _ (trace : List ℕ) (is_trace : is_trace_line trace ≡ true) (rest : List (List ℕ)) where
    -- what is read of the lines and the line `trace` behind them
    abbrev IsTraced : ScriptSoFar → ℕ → List (List ℕ) → List Event → ℕ → Type 0
    IsTraced s n ls events k = ReadsScript m s n (ls ++ trace ∷ rest) (Traced events k rest)

    script_line_goes_on : (c : Option ℕ) (said : Result (Option Event) ℕ) (s : ScriptSoFar) (n k : ℕ) (l : List ℕ) (ls : List (List ℕ)) (r : Document) → c ≡ line_code (n + 1) l → said ≡ event_line m s.pending s.mirrored l
        → SaysBy (unless_long c said) m s.pending s.mirrored (n + 1) (λ after mirrors d. SaysScript m after mirrors (n + 1) ls d) r → r.ending ≡ Complete
        → ((t : ScriptSoFar) (d : Document) → SaysScript m t.pending t.mirrored (n + 1) ls d → d.ending ≡ Complete → IsTraced t (n + 1) ls (t.events ++ d.events) k)
        → IsTraced s n (l ∷ ls) (s.events ++ r.events) k
    script_line_goes_on (Some code) said s n k l ls r c says is complete on = absurd (never_complete m (n + 1) code r complete is)
    script_line_goes_on None (Err code) s n k l ls r c says is complete on = absurd (never_complete m (n + 1) code r complete is)
    script_line_goes_on None (Ok None) s n k l ls r c says h complete on =
        (Reads s, subst (λ (z : Option ℕ). LeadsByCode z m s l (Reads s)) c (event_leads s l (Ok None) (Reads s) says (λ code e. (let never : Ok None ≡ Err code = e in absurd cc)) refl), on s r h complete)
    script_line_goes_on None (Ok (Some e)) s n k l ls r c says (after, d, known, later, is) complete on =
        let t = with_event s e after in
        let ended : d.ending ≡ Complete = sym (ap (λ (x : Document). x.ending) is) ∙ complete in
        let events : t.events ++ d.events ≡ s.events ++ r.events = append_assoc s.events (e ∷ []) d.events ∙ ap (λ (z : List Event). s.events ++ z) (sym (ap (λ (x : Document). x.events) is)) in (
          Reads t,
          subst (λ (z : Option ℕ). LeadsByCode z m s l (Reads t)) c (event_leads s l (Ok (Some e)) (Reads t) says (λ code e'. (let never : Ok (Some e) ≡ Err code = e' in absurd cc)) (after, known, refl)),
          subst (λ (z : List Event). IsTraced t (n + 1) ls z k) events (on t d later ended),
        )

    -- the events of a script of which nothing is refused are those that are read up to the line `trace`
    pub script_goes_on : (ls : List (List ℕ)) (s : ScriptSoFar) (n k : ℕ) (r : Document) → SaysScript m s.pending s.mirrored n ls r → r.ending ≡ Complete → k ≡ n + length ls + 1 → line_code k trace ≡ None
        → IsTraced s n ls (s.events ++ r.events) k
    script_goes_on [] s n k r is complete number short =
        let last : k ≡ n + 1 = omega (arith, number) in
        let events : s.events ++ r.events ≡ s.events = ap (λ (d : Document). s.events ++ d.events) is ∙ append-nil s.events in
        let leads : ScriptLeads m s trace Ends = subst (λ (b : Bool). LeadsUnless b (event_line m s.pending s.mirrored trace) s Ends) (sym is_trace) refl in (
          Ends,
          subst (λ (z : Option ℕ). LeadsByCode z m s trace Ends) (sym short ∙ ap (λ (i : ℕ). line_code i trace) last) leads,
          (λ i. Traced (events i) (last i) rest),
        )
    script_goes_on (l ∷ ls) s n k r h complete number short =
        script_line_goes_on (line_code (n + 1) l) (event_line m s.pending s.mirrored l) s n k l ls r refl refl h complete
        (λ t d later ended. script_goes_on ls t (n + 1) k d later ended (omega (arith, number)) short)
