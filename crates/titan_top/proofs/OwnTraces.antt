-- What a run with proofs prints of a document is checked.
use Rattle.std.proofs.Common.{◌≡◌, ◌≤◌, ◌+◌, ◌⊎◌, ℕ, List, [], ◌∷◌, ◌++◌, length, Option, Some, None, Result, All, inl, inr, refl, sym, ap, subst, ◌∙◌, append_assoc, append-nil, arith, length-append}
use Rattle.std.specs.Prelude.{IfSome, IfErr}
use Rattle.list_laws.proofs.Elements.{all_right}
use Rattle.std.proofs.lemmas.List.Elements.{All-tail}
use Rattle.cca_base.specs.declared.cube.Pair.{Pair}
use Rattle.cca_base.specs.declared.events.Event.{Event}
use Rattle.cca_base.specs.declared.events.Event.TheVariants as event
use Rattle.cca_base.specs.declared.events.Shown.{Shown}
use Rattle.cca_base.specs.declared.events.Shown.TheVariants.{Estimated, Unexplained, Holding}
use Rattle.cca_base.specs.declared.events.TickReport.{TickReport}
use Rattle.cca_base.specs.Accepted.{CompiledModel, IsCompiled}
use Rattle.cca_base.specs.Orders.{IsSorted}
use Rattle.cca_base.specs.Plans.{Promising}
use Rattle.cca_base.specs.PlantModel.{PlantModel}
use Rattle.cca_base.specs.Refusals.{bare}
use Rattle.cca_base.specs.Runs.{TickRecord, Ticks, Trace}
use Rattle.cca_base.specs.Trace.{ExecutiveState, Changes, AllMayCome, TickShows, start}
use Rattle.line_machine.specs.Lines.{Lines, lines_behind, lines_in, all_lines, last_line}
use Rattle.line_machine.specs.declared.machine.End.{End}
use Rattle.line_machine.specs.declared.machine.End.TheVariants as how
use Rattle.line_machine.specs.declared.machine.TheConstants.{MAX_LINES}
use Rattle.line_machine.specs.declared.send.Cut.{Cut}
use Rattle.line_machine.specs.declared.send.Cut.TheVariants as cuts
use Rattle.line_machine.proofs.JoinedLines.{lines-append, with_lines}
use Rattle.line_machine.proofs.LengthCodes.{short_code}
use Rattle.model_syntax.specs.Lines.{ModelSoFar, LineOutcome, Reads as ReadsLine, Refuses as RefusesLine, Finishes}
use Rattle.plan_checker.specs.Reasons.{Printed}
use Rattle.trace_laws.specs.Events.{AsGiven, Acts}
use Rattle.trace_laws.specs.Fits.{Fits}
use Rattle.trace_laws.proofs.EventsJoin.{next_may_come, trace_is_made}
use Rattle.trace_laws.proofs.FitsStay.{start_fits, stays_fitting}
use Rattle.model_form.specs.Acceptance.{Acceptance, AcceptedAs, RefusedFor, IsAcceptanceOf}
use Rattle.check_form.specs.CheckEnds.{IsAllYes}
use Rattle.check_form.specs.CheckScript.{Traced, ReadsScript, no_events}
use Rattle.check_form.specs.CheckTrace.{TraceSoFar, ComesTo, before_tick, AllYes, JudgesLines, JudgesTrace}
use Rattle.model_form.specs.FormStates.{nothing_read}
use Rattle.model_form.specs.ModelTexts.{ModelText, WholeModel, RefusedModel, ReadsModel, After, EndsModel}
use Rattle.run_form.specs.Document.{Document, DocumentEnd, Complete, RefusedAt, SaysScript}
use Rattle.model_form.specs.Limits.{line_code}
use Rattle.model_form.specs.Answers.{Answer, answer, AnswersByAcceptance, AnswersByEnd}
use Rattle.model_form.specs.declared.limits.TheConstants.{MAX_LINE}
use Rattle.run_form.specs.Notations.{is_json}
use Rattle.run_form.specs.Printed.{ending, printed, SaysRun}
use Rattle.titan_top.specs.Output.{Outcome, outcome_of, IsOutcomeFor}
use Rattle.titan_top.specs.Statuses.{status_of}
use Rattle.titan_top.specs.Streams.{input_for}
use Rattle.run_form.specs.Summaries.{counts_of}
use Rattle.run_form.specs.TickProofs.{IsProven, tick_text}
use Rattle.run_form.specs.TickTexts.{TicksText}
use Rattle.titan_top.specs.Wire.{WritesAs}
use Rattle.run_form.specs.declared.counts.Counts.{Counts}
use Rattle.run_form.specs.declared.notation.Notation.TheVariants.{Proof}
use Rattle.titan_top.specs.declared.status.Status.TheVariants.{Ended, Memory}
use Rattle.titan_top.specs.declared.words.Form.{Form}
use Rattle.titan_top.specs.declared.words.Form.TheVariants.{Check}
use Rattle.titan_top.proofs.TraceIsChecked.{counted}
use Rattle.run_form.proofs.TraceOfRun.{script_comes}
use Rattle.titan_top.specs.OwnTraces.{ShowsLong, HasOwnTrace}
use Rattle.titan_top.specs.Laws.{OwnTracesAreChecked}
use Rattle.titan_top.proofs.BehindDocuments.{model_goes_on, script_goes_on}
use Rattle.titan_top.proofs.FormStatuses.{ended_where, end_ended}
use Rattle.titan_top.proofs.ProvenLines.{first_line, KeepsLimits, tick_judged}
use Rattle.titan_top.proofs.ProvenTicks.{with_goal, IsGoalOf}

-- ---- events

-- an event that is no tick changes the checker as it does the executive, with the goal as it was given
record GoesAlong (b : CompiledModel) (x : ExecutiveState) (given : Option (List Pair)) (e : Event) (y : ExecutiveState) : Type 0 where
  after : Option (List Pair)
  changes : Changes b.model AsGiven (with_goal x given) e (with_goal y after)
  goals : IsGoalOf b.order after y.goal

goes_along : (b : CompiledModel) (x : ExecutiveState) (given : Option (List Pair)) (e : Event) (y : ExecutiveState) → IsGoalOf b.order given x.goal → Changes b.model (IsSorted b.order) x e y → GoesAlong b x given e y
goes_along b x given (event.Goal pairs) y goals (goal, sorted, e) = record {
  after = Some pairs;
  changes = (pairs, refl, ap (λ (z : ExecutiveState). with_goal z (Some pairs)) e);
  goals = subst (λ (z : ExecutiveState). IsGoalOf b.order (Some pairs) z.goal) (sym e) sorted;
}
goes_along b x given event.Clear y goals e = record { after = None; changes = ap (λ (z : ExecutiveState). with_goal z None) e; goals = subst (λ (z : ExecutiveState). IsGoalOf b.order None z.goal) (sym e) tt }
goes_along b x given (event.Observe pairs) y goals (both, union, e) = record {
  after = given;
  changes = (both, union, ap (λ (z : ExecutiveState). with_goal z given) e);
  goals = subst (λ (z : ExecutiveState). IsGoalOf b.order given z.goal) (sym e) goals;
}
goes_along b x given (event.Fault p) y goals e = record { after = given; changes = ap (λ (z : ExecutiveState). with_goal z given) e; goals = subst (λ (z : ExecutiveState). IsGoalOf b.order given z.goal) (sym e) goals }
goes_along b x given (event.Mirror v) y goals e = record { after = given; changes = ap (λ (z : ExecutiveState). with_goal z given) e; goals = subst (λ (z : ExecutiveState). IsGoalOf b.order given z.goal) (sym e) goals }
goes_along b x given event.Reset y goals e = record { after = None; changes = ap (λ (z : ExecutiveState). with_goal z None) e; goals = subst (λ (z : ExecutiveState). IsGoalOf b.order None z.goal) (sym e) tt }
goes_along b x given event.Tick y goals e = absurd e

-- a tick counts one, and leaves the goal
after_tick : (b : CompiledModel) (x : ExecutiveState) (shown : Shown) (y : ExecutiveState) → TickShows b.model (Promising b) x shown y → (y.ticks ≡ x.ticks + 1) × (y.goal ≡ x.goal)
after_tick b x (Estimated cost state reply) y h = (ap (λ (s : ExecutiveState). s.ticks) h.after, ap (λ (s : ExecutiveState). s.goal) h.after)
after_tick b x Unexplained y h = (ap (λ (s : ExecutiveState). s.ticks) h.after, ap (λ (s : ExecutiveState). s.goal) h.after)
after_tick b x Holding y h = (ap (λ (s : ExecutiveState). s.ticks) h.1, ap (λ (s : ExecutiveState). s.goal) h.1)

-- ---- a trace

module _ (b : CompiledModel) (compiled : IsCompiled b) where
  -- the events lead to the first tick, and the text of the ticks is judged from there on: each tick gets a Yes
  record IsTraceJudged (x : ExecutiveState) (given : Option (List Pair)) (events : List Event) (ticks : List TickRecord) (text : List ℕ) : Type 0 where
    next : TraceSoFar
    comes : ComesTo b.model (with_goal x given) events next
    judges : (n : ℕ) → x.ticks ≤ n → KeepsLimits n text → JudgesLines b.model next n (all_lines (lines_in text)) (AllYes (x.ticks + length ticks))

  abbrev May : ExecutiveState → List Event → Type 0
  May x events = AllMayCome b.model (IsSorted b.order) x events

  -- an event before others
  event_judged : (e : Event) (events : List Event) (x y : ExecutiveState) (given : Option (List Pair)) (ticks : List TickRecord) (text : List ℕ) → Fits b x → IsGoalOf b.order given x.goal → May x (e ∷ events) → Changes b.model (IsSorted b.order) x e y
      → ((after : Option (List Pair)) → Fits b y → IsGoalOf b.order after y.goal → May y events → IsTraceJudged y after events ticks text) → IsTraceJudged x given (e ∷ events) ticks text
  event_judged e events x y given ticks text fits goals may change on =
      let along = goes_along b x given e y goals change in
      let come = next_may_come b (Promising b) x e y None events change may in
      let r = on along.after (stays_fitting b compiled (Promising b) x y e None fits come.0 change) along.goals come.1 in
      let same : y.ticks ≡ x.ticks = counted b.model (IsSorted b.order) x e y change in
      record {
        next = r.next;
        comes = inr (with_goal y along.after, along.changes, r.comes);
        judges = λ n within keeps. subst (λ (i : ℕ). JudgesLines b.model r.next n (all_lines (lines_in text)) (AllYes (i + length ticks))) same (r.judges n (omega (arith, same, within)) keeps);
      }

  nothing_judged : (x : ExecutiveState) (given : Option (List Pair)) (text : List ℕ) → text ≡ [] → IsTraceJudged x given [] [] text
  nothing_judged x given text none =
      let count : x.ticks + 0 ≡ x.ticks = omega arith in
      record {
        next = before_tick (with_goal x given) None;
        comes = refl;
        judges = λ n within keeps. subst (λ (z : List ℕ). JudgesLines b.model (before_tick (with_goal x given) None) n (all_lines (lines_in z)) (AllYes (x.ticks + 0))) (sym none) (ap AllYes count);
      }

  -- a tick before others
  tick_first : (events : List Event) (x y : ExecutiveState) (given : Option (List Pair)) (t : TickRecord) (ticks : List TickRecord) (text first rest : List ℕ) (p : Printed) → Fits b x → IsGoalOf b.order given x.goal
      → p.report.tick ≡ x.ticks + 1 → TickShows b.model (Promising b) x p.report.shown y → IsProven b x p → first ≡ tick_text b.model p → text ≡ first ++ rest → IsTraceJudged y given events ticks rest → IsTraceJudged x given (event.Tick ∷ events) (t ∷ ticks) text
  tick_first events x y given t ticks text first rest p fits goals number shows proven is parts r =
      let whole : text ≡ tick_text b.model p ++ rest = parts ∙ ap (λ (z : List ℕ). z ++ rest) is in
      let count = (after_tick b x p.report.shown y shows).0 in
      let all : y.ticks + length ticks ≡ x.ticks + length (t ∷ ticks) = omega (arith, count) in
      record {
        next = before_tick (with_goal x given) (Some events);
        comes = inl (tt, refl);
        judges = λ n within keeps.
            subst (λ (z : List ℕ). JudgesLines b.model (before_tick (with_goal x given) (Some events)) n (all_lines (lines_in z)) (AllYes (x.ticks + length (t ∷ ticks)))) (sym whole)
            (tick_judged b compiled x y given goals fits events r.next r.comes (AllYes (x.ticks + length (t ∷ ticks))) rest
            (λ k enough left. subst (λ (i : ℕ). JudgesLines b.model r.next k (all_lines (lines_in rest)) (AllYes i)) all (r.judges k (omega (arith, count, enough)) left)) n p number within shows proven (subst (KeepsLimits n) whole keeps));
      }

  trace_judged : (events : List Event) (x : ExecutiveState) (given : Option (List Pair)) (since : List Event) (ticks : List TickRecord) (text : List ℕ) → Fits b x → IsGoalOf b.order given x.goal → May x events
      → Ticks b (Promising b) x since events ticks → TicksText Proof b ticks text → IsTraceJudged x given events ticks text
  trace_judged [] x given since ticks text fits goals may is told =
      subst (λ (ts : List TickRecord). IsTraceJudged x given [] ts text) (sym is) (nothing_judged x given text (subst (λ (ts : List TickRecord). TicksText Proof b ts text) is told))
  trace_judged (event.Tick ∷ events) x given since [] text fits goals may made told = absurd made
  trace_judged (event.Tick ∷ events) x given since (t ∷ ticks) text fits goals may (a, c, n, y, shows, made) (first, rest, (p, same, proven, is), told, parts) =
      let act : Acts b (Promising b) x event.Tick y (Some t.report) = (tt, n, shows) in
      let come = next_may_come b (Promising b) x event.Tick y (Some t.report) events act may in
      let next = after_tick b x t.report.shown y shows in
      let r = trace_judged events y given [] ticks rest (stays_fitting b compiled (Promising b) x y event.Tick (Some t.report) fits tt act) (subst (IsGoalOf b.order given) (sym next.1) goals) come.1 made told in
      tick_first events x y given t ticks text first rest p fits goals (ap (λ (q : TickReport). q.tick) same ∙ n) (subst (λ (q : TickReport). TickShows b.model (Promising b) x q.shown y) (sym same) shows) (subst (λ (z : ExecutiveState). IsProven b z p) c proven) is parts r
  trace_judged (event.Goal pairs ∷ events) x given since ticks text fits goals may (y, change, made) told =
      event_judged (event.Goal pairs) events x y given ticks text fits goals may change (λ after h g m. trace_judged events y after (since ++ event.Goal pairs ∷ []) ticks text h g m made told)
  trace_judged (event.Clear ∷ events) x given since ticks text fits goals may (y, change, made) told =
      event_judged event.Clear events x y given ticks text fits goals may change (λ after h g m. trace_judged events y after (since ++ event.Clear ∷ []) ticks text h g m made told)
  trace_judged (event.Observe pairs ∷ events) x given since ticks text fits goals may (y, change, made) told =
      event_judged (event.Observe pairs) events x y given ticks text fits goals may change (λ after h g m. trace_judged events y after (since ++ event.Observe pairs ∷ []) ticks text h g m made told)
  trace_judged (event.Fault p ∷ events) x given since ticks text fits goals may (y, change, made) told =
      event_judged (event.Fault p) events x y given ticks text fits goals may change (λ after h g m. trace_judged events y after (since ++ event.Fault p ∷ []) ticks text h g m made told)
  trace_judged (event.Mirror v ∷ events) x given since ticks text fits goals may (y, change, made) told =
      event_judged (event.Mirror v) events x y given ticks text fits goals may change (λ after h g m. trace_judged events y after (since ++ event.Mirror v ∷ []) ticks text h g m made told)
  trace_judged (event.Reset ∷ events) x given since ticks text fits goals may (y, change, made) told =
      event_judged event.Reset events x y given ticks text fits goals may change (λ after h g m. trace_judged events y after (since ++ event.Reset ∷ []) ticks text h g m made told)

-- ---- the input's lines

-- behind bytes that end with LF stand the lines of what comes
closed_lines : (front more : List ℕ) → all_lines (lines_in ((front ++ 10 ∷ []) ++ more)) ≡ all_lines (lines_in (front ++ 10 ∷ [])) ++ all_lines (lines_in more)
closed_lines front more =
    let f : Lines = lines_in front in
    let closed : lines_in (front ++ 10 ∷ []) ≡ record { whole = f.whole ++ f.tail ∷ []; tail = [] } = lines-append [] front (10 ∷ []) in
    let joined : lines_in ((front ++ 10 ∷ []) ++ more) ≡ with_lines (f.whole ++ f.tail ∷ []) (lines_in more) = lines-append [] (front ++ 10 ∷ []) more ∙ ap (λ (x : Lines). with_lines x.whole (lines_behind x.tail more)) closed in
    let first : all_lines (lines_in (front ++ 10 ∷ [])) ≡ f.whole ++ f.tail ∷ [] = ap all_lines closed ∙ append-nil (f.whole ++ f.tail ∷ []) in
    let w : List (List ℕ) = f.whole ++ f.tail ∷ [] in
    ap all_lines joined ∙ append_assoc w (lines_in more).whole (last_line (lines_in more).tail) ∙ ap (λ (ls : List (List ℕ)). ls ++ all_lines (lines_in more)) (sym first)

-- a model's script stands where its number says
place_by : (o : LineOutcome) (s : ModelSoFar) (n : ℕ) (ls : List (List ℕ)) (m : PlantModel) (k : ℕ) (rest : List (List ℕ)) → ((t : ModelSoFar) → ReadsModel t (n + 1) ls (WholeModel m k rest) → k + length rest ≡ n + 1 + length ls)
    → After o (λ t. ReadsModel t (n + 1) ls (WholeModel m k rest)) (WholeModel m k rest ≡ WholeModel s.model (n + 1) ls) (λ code. WholeModel m k rest ≡ RefusedModel s.model (n + 1) (bare code)) → k + length rest ≡ n + 1 + length ls
place_by (ReadsLine t) s n ls m k rest on h = on t h
place_by (RefusesLine code) s n ls m k rest on h = absurd cc
place_by Finishes s n ls m k rest on h =
    let number : k ≡ n + 1 = cc in
    let same : rest ≡ ls = cc in
    ap (λ (i : ℕ). i + length rest) number ∙ ap (λ (z : List (List ℕ)). n + 1 + length z) same

script_place : (ls : List (List ℕ)) (s : ModelSoFar) (n : ℕ) (m : PlantModel) (k : ℕ) (rest : List (List ℕ)) → ReadsModel s n ls (WholeModel m k rest) → k + length rest ≡ n + length ls
script_place [] s n m k rest h = absurd cc
script_place (l ∷ ls) s n m k rest (o, leads, after) =
    let place = place_by o s n ls m k rest (λ t h. script_place ls t (n + 1) m k rest h) after in
    omega (arith, place)

-- ---- the whole input

-- what is printed at the end of a document of which nothing is refused is nothing
ended_complete : (m : PlantModel) (c : Counts) (e : DocumentEnd) → (ending Proof m c e).end ≡ how.Ended → e ≡ Complete
ended_complete m c Complete h = refl
ended_complete m c (RefusedAt line r) h = let never : how.Refused ≡ how.Ended = h in absurd cc

record IsWhole (r : Document) (text all : List ℕ) : Type 0 where
  complete : r.ending ≡ Complete
  same : text ≡ all

printed_whole : (r : Document) (reports : List TickReport) (text all : List ℕ) → answer how.Ended all ≡ printed Proof r reports text → IsWhole r text all
unfolding printed
printed_whole r reports text all e =
    let complete : r.ending ≡ Complete = ended_complete r.model (counts_of reports) r.ending (sym (ap (λ (a : Answer). a.end) e)) in
    let words : all ≡ text ++ [] = ap (λ (a : Answer). a.text) e ∙ ap (λ (d : DocumentEnd). text ++ (ending Proof r.model (counts_of reports) d).text) complete in
    record { complete = complete; same = sym (append-nil text) ∙ sym words }

module _ (input : List ℕ) (own : HasOwnTrace input) where
  abbrev trace_lines : List (List ℕ)
  trace_lines = all_lines (lines_in own.text)

  abbrev document_lines : List (List ℕ)
  document_lines = all_lines (lines_in (own.front ++ 10 ∷ []))

  input_lines : all_lines (lines_in input) ≡ document_lines ++ own.trace ∷ trace_lines
  input_lines =
      ap (λ (z : List ℕ). all_lines (lines_in z)) (own.parts ∙ append_assoc (own.front ++ 10 ∷ []) (own.trace ++ 10 ∷ []) own.text)
      ∙ closed_lines own.front ((own.trace ++ 10 ∷ []) ++ own.text) ∙ ap (λ (ls : List (List ℕ)). document_lines ++ ls) (first_line own.trace own.text own.between.clean)

  module _ (m : PlantModel) (n : ℕ) (ls : List (List ℕ)) (ends : EndsModel (own.front ++ 10 ∷ []) (WholeModel m n ls)) where
    abbrev k : ℕ
    k = n + length ls + 1

    few : k + length trace_lines ≤ MAX_LINES
    few =
        let place : n + length ls ≡ 0 + length document_lines = script_place document_lines nothing_read 0 m n ls ends in
        let all : length (all_lines (lines_in input)) ≡ length document_lines + length (own.trace ∷ trace_lines) = ap length input_lines ∙ length-append document_lines (own.trace ∷ trace_lines) in
        let most = own.few in
        omega (arith, place, all, most)

    limits : KeepsLimits k own.text
    limits = record {
      few = few;
      written = All-tail (λ (l : List ℕ). ShowsLong l → ⊥) own.trace trace_lines (all_right (λ (l : List ℕ). ShowsLong l → ⊥) document_lines (own.trace ∷ trace_lines) (subst (All (λ (l : List ℕ). ShowsLong l → ⊥)) input_lines own.written));
    }

    model_ends : EndsModel input (WholeModel m n (ls ++ own.trace ∷ trace_lines))
    model_ends =
        subst (λ (l : List (List ℕ)). ReadsModel nothing_read 0 l (WholeModel m n (ls ++ own.trace ∷ trace_lines))) (sym input_lines)
        (model_goes_on (own.trace ∷ trace_lines) document_lines nothing_read 0 (WholeModel m n ls) tt ends)

    script_judged : (b : CompiledModel) → IsCompiled b → b.model ≡ m → (r : Document) (reports : List TickReport) (text : List ℕ) → SaysScript b.model [] 0 n ls r → (trace : Trace b (Promising b) r.events reports) → TicksText Proof b trace.ticks text
        → answer how.Ended own.text ≡ printed Proof r reports text → IsAllYes input
    script_judged b compiled is r reports text says trace told e =
        let whole = printed_whole r reports text own.text e in
        let read_says : SaysScript m [] 0 n ls r = subst (λ (z : PlantModel). SaysScript z [] 0 n ls r) is says in
        let made = trace_is_made b (Promising b) r.events reports trace in
        let come = script_comes b ls (start b.model 0) n r made.0 reports says made.1 in
        let j = trace_judged b compiled r.events (start b.model 0) None [] trace.ticks own.text (start_fits b 0 compiled) tt come trace.made (subst (TicksText Proof b trace.ticks) whole.same told) in
        let short : line_code k own.trace ≡ None = short_code MAX_LINE (n + length ls) (length own.trace) (let most = few in omega (arith, most)) own.between.short in
        let reads : ReadsScript m no_events n (ls ++ own.trace ∷ trace_lines) (Traced r.events k trace_lines) = script_goes_on m own.trace own.between.is trace_lines ls no_events n k r read_says whole.complete refl short in
        let judges : JudgesTrace b.model r.events k trace_lines (AllYes (0 + length trace.ticks)) = (j.next, j.comes, j.judges k (omega arith) limits) in (
          0 + length trace.ticks,
          (
            WholeModel m n (ls ++ own.trace ∷ trace_lines),
            model_ends,
            (AcceptedAs b, (compiled, is), (Traced r.events k trace_lines, reads, subst (λ (z : PlantModel). JudgesTrace z r.events k trace_lines (AllYes (0 + length trace.ticks))) is judges)),
          ),
        )

    acceptance_judged : (v : Acceptance) → IsAcceptanceOf m v → AnswersByAcceptance (is_json Proof) (SaysRun Proof) v m n ls how.Ended own.text → IsAllYes input
    acceptance_judged (AcceptedAs b) is (r, reports, text, says, trace, told, e) = script_judged b is.0 is.1 r reports text says trace told e
    acceptance_judged (RefusedFor rf) is h = let never : how.Ended ≡ how.Refused = h.0 in absurd cc

  by_end : (end : ModelText) → EndsModel (own.front ++ 10 ∷ []) end → AnswersByEnd (is_json Proof) (SaysRun Proof) end how.Ended own.text → IsAllYes input
  by_end (WholeModel m n ls) ends_so (v, is, h) = acceptance_judged m n ls ends_so v is h
  by_end (RefusedModel m line r) ends_so h = let never : how.Ended ≡ how.Refused = h.0 in absurd cc

  -- the text is that of a run which ended
  by_answer : (a : Answer) → record { text = own.text; status = Ended } ≡ outcome_of a → (end : ModelText) → EndsModel (own.front ++ 10 ∷ []) end → AnswersByEnd (is_json Proof) (SaysRun Proof) end a.end a.text → IsAllYes input
  by_answer a is end reads says =
      let ended = end_ended a.end (sym (ap (λ (o : Outcome). o.status) is)) in
      let text : a.text ≡ own.text = sym (ap (λ (o : Outcome). o.text) is) in
      by_end end reads (subst (λ (e : End). AnswersByEnd (is_json Proof) (SaysRun Proof) end e own.text) ended (subst (λ (t : List ℕ). AnswersByEnd (is_json Proof) (SaysRun Proof) end a.end t) text says))

pub own_traces_are_checked : OwnTracesAreChecked
own_traces_are_checked input own = let (a, is, (end, reads, says)) = own.runs in by_answer input own a is end reads says

-- ---- what the driver's answer says

check_where : (left : Option (List ℕ)) (r : Result End Cut) (old now : Option (List ℕ)) → IfSome left (λ input. WritesAs (status_of r) old now (IsOutcomeFor Check input)) → IfErr r (λ c. c ≡ cuts.Memory)
    → IfSome left (λ input. HasOwnTrace input → (status_of r ≡ Ended) ⊎ (status_of r ≡ Memory))
check_where None r old now h k = tt
check_where (Some input) r old now h k = λ own. ended_where Check (Some input) r old now h k (own_traces_are_checked input own)

-- without a fault such a check ends with a yes to each tick, or memory ran out
pub own_where : (form : Form) → form ≡ Check → (left : Option (List ℕ)) (r : Result End Cut) (old now : Option (List ℕ)) → IfSome (input_for (Some form) left) (λ input. WritesAs (status_of r) old now (IsOutcomeFor form input)) → IfErr r (λ c. c ≡ cuts.Memory)
    → IfSome left (λ input. HasOwnTrace input → (status_of r ≡ Ended) ⊎ (status_of r ≡ Memory))
own_where form is left r old now h k =
    check_where left r old now (subst (λ (f : Form). IfSome (input_for (Some f) left) (λ input. WritesAs (status_of r) old now (IsOutcomeFor f input))) is h) k
