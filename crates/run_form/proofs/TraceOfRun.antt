-- What is printed of a run is the fixed trace of its events, which keeps the promises.
use Rattle.std.proofs.Common.{◌≡◌, ℕ, ◌+◌, inl, inr, List, [], ◌∷◌, Option, Some, None, Result, Ok, Err, refl, sym, subst, ◌∙◌}
use Rattle.cca_base.specs.declared.cube.Pair.{Pair}
use Rattle.cca_base.specs.declared.events.Event.{Event}
use Rattle.cca_base.specs.declared.events.Refusal.{Refusal}
use Rattle.cca_base.specs.declared.events.TickReport.{TickReport}
use Rattle.cca_base.specs.Accepted.{CompiledModel, IsCompiled}
use Rattle.cca_base.specs.Orders.{IsSorted}
use Rattle.cca_base.specs.Plans.{Promising}
use Rattle.cca_base.specs.PlantModel.{PlantModel}
use Rattle.cca_base.specs.Runs.{Trace}
use Rattle.cca_base.specs.Trace.{ExecutiveState, start, AllMayCome}
use Rattle.script_reader.specs.EventLines.{event_line}
use Rattle.script_reader.proofs.EventsMayCome.{event_comes}
use Rattle.trace_laws.specs.Events.{Makes, mirrored_after}
use Rattle.trace_laws.proofs.EventsJoin.{trace_is_made, event_first}
use Rattle.trace_laws.proofs.PendingKnown.{one_pending, known_after}
use Rattle.trace_laws.proofs.PromisesKept.{promising_traces_keep}
use Rattle.cca_laws.proofs.WeakerReplies.{chosen_ticks_are_good}
use Rattle.model_form.specs.Acceptance.{Acceptance, AcceptedAs, RefusedFor, IsAcceptanceOf}
use Rattle.model_form.specs.Answers.{Answer, refused_answer, AnswersByAcceptance, AnswersByEnd}
use Rattle.model_form.specs.Limits.{line_code, unless_long}
use Rattle.model_form.specs.ModelEnds.{IsRefusedEnd}
use Rattle.model_form.specs.ModelTexts.{ModelText, WholeModel, RefusedModel, EndsModel}
use Rattle.model_form.proofs.SameAnswer.{same_answer}
use Rattle.run_form.specs.Document.{Document, SaysBy, SaysScript, refused_at}
use Rattle.run_form.specs.Headline.{IsTraceOf, IsFixedTrace, IsRefusedBefore}
use Rattle.run_form.specs.Notations.{is_json}
use Rattle.run_form.specs.Printed.{printed, SaysRun}
use Rattle.run_form.specs.RunLaws.{RunsAreTraced}
use Rattle.run_form.specs.Summaries.{counts_of}
use Rattle.run_form.specs.TickTexts.{TicksText}
use Rattle.run_form.specs.declared.notation.Notation.{Notation}
use Rattle.run_form.proofs.PrintedDocuments.{printed_counts, printed_refused}
use Rattle.run_form.proofs.ReadScripts.{script_model}

-- ---- scripts

-- the events of a script may come
module _ (b : CompiledModel) where
  abbrev pub Says : ExecutiveState → ℕ → List (List ℕ) → Document → Type 0
  Says x n ls r = SaysScript b.model x.pending x.mirrored n ls r

  line_comes : (o : Option ℕ) (x : ExecutiveState) (n : ℕ) (l : List ℕ) (ls : List (List ℕ)) (v : Result (Option Event) ℕ) (r : Document) (last : ExecutiveState) (reports : List TickReport) → v ≡ event_line b.model x.pending x.mirrored l
      → SaysBy (unless_long o v) b.model x.pending x.mirrored n (λ after mirrors d. SaysScript b.model after mirrors n ls d) r → Makes b (Promising b) x r.events last reports
      → ((y : ExecutiveState) (d : Document) (others : List TickReport) → Says y n ls d → Makes b (Promising b) y d.events last others → AllMayCome b.model (IsSorted b.order) y d.events) → AllMayCome b.model (IsSorted b.order) x r.events
  line_comes (Some code) x n l ls v r last reports g is made on = subst (λ (d : Document). AllMayCome b.model (IsSorted b.order) x d.events) (sym is) tt
  line_comes None x n l ls (Err code) r last reports g is made on = subst (λ (d : Document). AllMayCome b.model (IsSorted b.order) x d.events) (sym is) tt
  line_comes None x n l ls (Ok None) r last reports g says made on = on x r reports says made
  line_comes None x n l ls (Ok (Some e)) r last reports g (after, rest, known, later, is) made on =
      let (y, report, others, acts, more, split) = subst (λ (d : Document). Makes b (Promising b) x d.events last reports) is made in
      let truly = known_after b (Promising b) x y e report acts in
      let pending : after ≡ y.pending = one_pending x.pending e y.pending after truly.0 known in
      let says : Says y n ls rest = subst (λ (k : ℕ). SaysScript b.model y.pending k n ls rest) (sym truly.1) (subst (λ (p : List Pair). SaysScript b.model p (mirrored_after x.mirrored e) n ls rest) pending later) in
      let may = event_comes b.model x.pending x.mirrored l (Some e) (sym g) in
      subst (λ (d : Document). AllMayCome b.model (IsSorted b.order) x d.events) (sym is) (event_first b (Promising b) x e y report rest.events may acts (on y rest others says more))

  pub script_comes : (ls : List (List ℕ)) (x : ExecutiveState) (n : ℕ) (r : Document) (last : ExecutiveState) (reports : List TickReport) → Says x n ls r → Makes b (Promising b) x r.events last reports → AllMayCome b.model (IsSorted b.order) x r.events
  script_comes [] x n r last reports is made = subst (λ (d : Document). AllMayCome b.model (IsSorted b.order) x d.events) (sym is) tt
  script_comes (l ∷ ls) x n r last reports says made =
      line_comes (line_code (n + 1) l) x (n + 1) l ls (event_line b.model x.pending x.mirrored l) r last reports refl says made (λ y d others h k. script_comes ls y (n + 1) d last others h k)

-- what is printed of a script is its fixed trace
script_traced : (notation : Notation) (b : CompiledModel) (n : ℕ) (ls : List (List ℕ)) (r : Document) (reports : List TickReport) (text : List ℕ) (a : Answer) → IsCompiled b → SaysScript b.model [] 0 n ls r → (trace : Trace b (Promising b) r.events reports) → TicksText notation b trace.ticks text → a ≡ printed notation r reports text
    → IsFixedTrace notation r a
script_traced notation b n ls r reports text a compiled says trace told e =
    let made = trace_is_made b (Promising b) r.events reports trace in
    let promises = promising_traces_keep b r.events reports compiled trace in
    record {
      compiled = b;
      is = compiled;
      of_model = sym (script_model ls b.model [] 0 n r says);
      come = script_comes b ls (start b.model 0) n r made.0 reports says made.1;
      reports = reports;
      trace = trace;
      good = chosen_ticks_are_good b (start b.model 0) [] r.events trace.ticks promises.0;
      chosen = promises.0;
      within = promises.1;
      stays_right = promises.2;
      text = text;
      of_ticks = told;
      lines = e;
    }

-- what is refused at a line of the model, or at its script, is refused before the first event
refused_before : (notation : Notation) (input : List ℕ) (end : ModelText) (m : PlantModel) (line : ℕ) (r : Refusal) (a : Answer) → EndsModel input end → IsRefusedEnd end line r → a ≡ refused_answer (is_json notation) m line r
    → IsRefusedBefore notation input (refused_at m line r) a
refused_before notation input end m line r a ends refused e =
    record { line = line; refusal = r; end = end; ends = ends; refused = refused; reading = refl; answer = e ∙ sym (printed_counts notation (refused_at m line r) [] [] ∙ printed_refused notation m (counts_of []) line r) }

prints_traced : (notation : Notation) (input : List ℕ) (v : Acceptance) (m : PlantModel) (n : ℕ) (ls : List (List ℕ)) (a : Answer) → EndsModel input (WholeModel m n ls) → IsAcceptanceOf m v
    → AnswersByAcceptance (is_json notation) (SaysRun notation) v m n ls a.end a.text → IsTraceOf notation input a
prints_traced notation input (AcceptedAs b) m n ls a ends is (r, reports, text, own, trace, told, e) =
    let says : SaysScript m [] 0 n ls r = subst (λ (k : PlantModel). SaysScript k [] 0 n ls r) is.1 own in
    (r, (WholeModel m n ls, ends, (AcceptedAs b, is, says)), inr (script_traced notation b n ls r reports text a is.0 own trace told e))
prints_traced notation input (RefusedFor rf) m n ls a ends is h =
    (refused_at m n rf, (WholeModel m n ls, ends, (RefusedFor rf, is, refl)), inl (refused_before notation input (WholeModel m n ls) m n rf a ends (refl, is) (same_answer h.0 h.1)))

run_traced : (notation : Notation) (input : List ℕ) (end : ModelText) (a : Answer) → EndsModel input end → AnswersByEnd (is_json notation) (SaysRun notation) end a.end a.text → IsTraceOf notation input a
run_traced notation input (WholeModel m n ls) a ends (v, is, h) = prints_traced notation input v m n ls a ends is h
run_traced notation input (RefusedModel m line r) a ends h = (refused_at m line r, (RefusedModel m line r, ends, refl), inl (refused_before notation input (RefusedModel m line r) m line r a ends (refl, refl) (same_answer h.0 h.1)))

-- what a run prints is traced
pub runs_are_traced : RunsAreTraced
runs_are_traced = record { whole = λ notation input a (end, ends, is). run_traced notation input end a ends is }
