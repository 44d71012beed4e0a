-- What gets a Yes to each tick is a checked trace.
use Rattle.std.proofs.Common.{◌≡◌, ℕ, ◌+◌, Bool, true, false, cond, eqb, List, [], ◌∷◌, ◌++◌, length, Option, Some, None, inl, inr, refl, sym, ap, subst, ◌∙◌, append_assoc, append-nil, arith}
use Rattle.std.specs.Prelude.{codes, flat_map, IfSome, String}
use Rattle.std.specs.Global.{Global}
use Rattle.cca_base.specs.declared.events.Event.{Event}
use Rattle.cca_base.specs.declared.events.Event.TheVariants as event
use Rattle.cca_base.specs.declared.events.PlanEnd.{PlanEnd}
use Rattle.cca_base.specs.declared.events.Refusal.{Refusal}
use Rattle.cca_base.specs.declared.events.Shown.{Shown}
use Rattle.cca_base.specs.declared.events.Shown.TheVariants.{Estimated, Unexplained, Holding}
use Rattle.cca_base.specs.declared.events.TickReport.{TickReport}
use Rattle.cca_base.specs.declared.state.World as worlds
use Rattle.cca_base.specs.Accepted.{CompiledModel, IsCompiled}
use Rattle.cca_base.specs.Model.{WellFormed}
use Rattle.cca_base.specs.PlantModel.{PlantModel}
use Rattle.cca_base.specs.Trace.{ExecutiveState, GoalOrder, Changes, start}
use Rattle.trace_laws.specs.Events.{AsGiven}
use Rattle.plan_checker.specs.Checked.{Takes}
use Rattle.plan_checker.specs.Reasons.{Printed, OnEstimate, AnswersGoal, IsVerdict}
use Rattle.plan_checker.specs.Worlds.{SomeAreSeen}
use Rattle.plan_checker.specs.declared.verdict.Verdict.{Verdict}
use Rattle.plan_checker.specs.declared.verdict.Verdict.TheVariants.{Yes, No}
use Rattle.plan_checker.proofs.YesShows.{yes_shows}
use Rattle.trace_text.specs.ProofLines.{world_line, plan_line, route_text}
use Rattle.trace_text.specs.Reports.{report_line}
use Rattle.trace_text.specs.TraceLines.{trace_line}
use Rattle.trace_text.specs.declared.trace_line.TraceLine.{TraceLine}
use Rattle.trace_text.specs.declared.trace_line.TraceLine.TheVariants.{Tick, World, Plan, Back}
use Rattle.model_form.specs.Acceptance.{Acceptance, AcceptedAs, RefusedFor, IsAcceptanceOf}
use Rattle.check_form.specs.CheckEnds.{EndsByScript, EndsByAcceptance, EndsByModel}
use Rattle.check_form.specs.CheckScript.{ScriptText, Traced, RefusedScript, ReadsScript, no_events}
use Rattle.check_form.specs.CheckTrace.{TraceSoFar, Follows, Fails, ComesTo, SeesPairs, ByVerdict, ByLines, LeadsBehind, AllYes, FirstNo, FirstRefusal, JudgesByCode, JudgesLines, end_behind, trace_line_code, with_said}
use Rattle.line_machine.specs.Lines.{joined_lines}
use Rattle.titan_top.specs.CheckedTrace.{IsCheckedTick, AreChecked, IsCheckedTrace}
use Rattle.run_form.specs.TickProofs.{tick_text}
use Rattle.model_form.specs.Answers.{Answer}
use Rattle.model_form.specs.ModelTexts.{ModelText, EndsModel, WholeModel}
use Rattle.model_form.specs.ModelTexts as models
use Rattle.check_form.specs.CheckForm.{judged}
use Rattle.titan_top.specs.Output.{Outcome, outcome_of, IsOutcomeFor, IsOutcomeOf, IsOutcome}
use Rattle.check_form.specs.TickLines.{TickLines, NotNext, More, Whole, has_world, has_route, next_lines}
use Rattle.titan_top.specs.Words.{IsForm}
use Rattle.titan_top.specs.declared.status.Status.TheVariants.{Ended}
use Rattle.check_form.specs.declared.tick_lines.TickSoFar.{TickSoFar}
use Rattle.check_form.specs.declared.tick_lines.TickSoFar.TheVariants.{Nothing, Reported, Explained, Planned}
use Rattle.titan_top.specs.declared.words.Form.{Form}
use Rattle.titan_top.specs.declared.words.Form.TheVariants.{Check}
use Rattle.check_form.proofs.CheckStatuses.{all_yes}
use Rattle.titan_top.proofs.FormStatuses.{end_ended}

-- ---- the text of a tick's lines

module _ (m : PlantModel) where
  -- the text of what was read of a tick
  abbrev text_so_far : TickSoFar → List ℕ
  text_so_far Nothing = []
  text_so_far (Reported r) = report_line m r
  text_so_far (Explained r w) = report_line m r ++ world_line m w
  text_so_far (Planned r w p) = report_line m r ++ world_line m w ++ plan_line (codes "plan") m p

  -- this is the text of a tick's lines
  abbrev IsTextOf : TickLines → List ℕ → Type 0
  IsTextOf NotNext text = Unit {0}
  IsTextOf (More lines) text = text ≡ text_so_far lines
  IsTextOf (Whole t) text = text ≡ tick_text m t

  report_text : (next world : Bool) (r : TickReport) → IsTextOf (cond next (cond world (More (Reported r)) (Whole (record { report = r; world = None; route = None }))) NotNext) (report_line m r)
  report_text true true r = refl
  report_text true false r = sym (append-nil (report_line m r)) ∙ sym (append-nil (report_line m r ++ []))
  report_text false world r = tt

  world_text : (sends : Bool) (r : TickReport) (w : worlds.World) → IsTextOf (cond sends (More (Explained r w)) (Whole (record { report = r; world = Some w; route = None }))) (report_line m r ++ world_line m w)
  world_text true r w = refl
  world_text false r w = sym (append-nil (report_line m r ++ world_line m w))

  back_text : (r : TickReport) (w : worlds.World) (p back : PlanEnd)
      → (report_line m r ++ world_line m w ++ plan_line (codes "plan") m p) ++ plan_line (codes "back") m back ≡ tick_text m (record { report = r; world = Some w; route = Some (record { plan = p; back = back }) })
  unfolding route_text
  back_text r w p back = append_assoc (report_line m r ++ world_line m w) (plan_line (codes "plan") m p) (plan_line (codes "back") m back)

  -- the text of a tick's lines with one more
  next_text : (ticks : ℕ) (lines : TickSoFar) (l : TraceLine) → IsTextOf (next_lines ticks lines l) (text_so_far lines ++ trace_line m l)
  next_text ticks Nothing (Tick r) = report_text (eqb r.tick (ticks + 1)) (has_world r.shown) r
  next_text ticks Nothing (World w) = tt
  next_text ticks Nothing (Plan p) = tt
  next_text ticks Nothing (Back p) = tt
  next_text ticks (Reported r) (Tick q) = tt
  next_text ticks (Reported r) (World w) = world_text (has_route r.shown) r w
  next_text ticks (Reported r) (Plan p) = tt
  next_text ticks (Reported r) (Back p) = tt
  next_text ticks (Explained r w) (Tick q) = tt
  next_text ticks (Explained r w) (World v) = tt
  next_text ticks (Explained r w) (Plan p) = refl
  next_text ticks (Explained r w) (Back p) = tt
  next_text ticks (Planned r w p) (Tick q) = tt
  next_text ticks (Planned r w p) (World v) = tt
  next_text ticks (Planned r w p) (Plan q) = tt
  next_text ticks (Planned r w p) (Back back) = back_text r w p back

  -- a line before others
  text_first : (front line : List ℕ) (rest : List (List ℕ)) (text whole : List ℕ) → text ≡ line ++ 10 ∷ [] → front ++ text ≡ whole → front ++ joined_lines (line ∷ rest) ≡ whole ++ joined_lines rest
  text_first front line rest text whole is e =
      sym (append_assoc front (line ++ 10 ∷ []) (joined_lines rest)) ∙ ap (λ (z : List ℕ). (front ++ z) ++ joined_lines rest) (sym is) ∙ ap (λ (z : List ℕ). z ++ joined_lines rest) e

-- ---- the ticks

-- events that are no ticks count none
pub counted : (m : PlantModel) (ordering : GoalOrder) (x : ExecutiveState) (e : Event) (y : ExecutiveState) → Changes m ordering x e y → y.ticks ≡ x.ticks
counted m ordering x (event.Goal pairs) y (p, h, e) = ap (λ (s : ExecutiveState). s.ticks) e
counted m ordering x event.Clear y e = ap (λ (s : ExecutiveState). s.ticks) e
counted m ordering x (event.Observe pairs) y (p, h, e) = ap (λ (s : ExecutiveState). s.ticks) e
counted m ordering x (event.Fault p) y e = ap (λ (s : ExecutiveState). s.ticks) e
counted m ordering x (event.Mirror v) y e = ap (λ (s : ExecutiveState). s.ticks) e
counted m ordering x event.Reset y e = ap (λ (s : ExecutiveState). s.ticks) e
counted m ordering x event.Tick y e = absurd e

comes_counted : (m : PlantModel) (events : List Event) (x : ExecutiveState) (next : TraceSoFar) → ComesTo m x events next → next.state.ticks ≡ x.ticks
comes_counted m [] x next is = ap (λ (t : TraceSoFar). t.state.ticks) is
comes_counted m (e ∷ events) x next (inl h) = ap (λ (t : TraceSoFar). t.state.ticks) h.1
comes_counted m (e ∷ events) x next (inr (y, c, h)) = comes_counted m events y next h ∙ counted m AsGiven x e y c

takes_counted : (m : PlantModel) (x : ExecutiveState) (shown : Shown) (y : ExecutiveState) → Takes m x shown y → y.ticks ≡ x.ticks + 1
takes_counted m x (Estimated cost state reply) y h = ap (λ (s : ExecutiveState). s.ticks) h.after
takes_counted m x Unexplained y h = ap (λ (s : ExecutiveState). s.ticks) h
takes_counted m x Holding y h = ap (λ (s : ExecutiveState). s.ticks) h

-- before a tick's first line nothing of it was read
comes_unread : (m : PlantModel) (events : List Event) (x : ExecutiveState) (next : TraceSoFar) → ComesTo m x events next → next.lines ≡ Nothing
comes_unread m [] x next is = ap (λ (t : TraceSoFar). t.lines) is
comes_unread m (e ∷ events) x next (inl h) = ap (λ (t : TraceSoFar). t.lines) h.1
comes_unread m (e ∷ events) x next (inr (y, c, h)) = comes_unread m events y next h

module _ (m : PlantModel) (good : WellFormed m) where
  -- what is seen of a tick with a Yes
  seen_of : (x : ExecutiveState) (shown : Shown) → AnswersGoal x shown → OnEstimate shown (λ cost s reply. SeesPairs m x) → OnEstimate shown (λ cost s reply. SomeAreSeen m x)
  seen_of x (Estimated cost state reply) answers (seen, observed) =
      (seen, record { each = λ p. ((λ c. (answers.0, (observed.each p).0 c)), (λ s. (observed.each p).1 s.1)); observed = λ going. observed })
  seen_of x Unexplained answers sees = tt
  seen_of x Holding answers sees = tt

  checked_tick : (x : ExecutiveState) (t : Printed) → IsVerdict m x t Yes → OnEstimate t.report.shown (λ cost s reply. SeesPairs m x) → IsCheckedTick m x t
  checked_tick x t v sees =
      let shows = yes_shows m x x t Yes good refl v (seen_of x t.report.shown ((v 8).answer refl) sees) in
      record {
        lines = (v 1).line refl;
        successor = shows.0;
        reply = shows.1;
        safety = shows.2;
        world = (v 3).world refl;
        answer = (v 8).answer refl;
        back = (v 7).back refl;
        written = (v 9).written refl;
      }

  -- the ticks behind these events, from the next one on
  abbrev AwaitsTicks : ExecutiveState → Option (List Event) → List Printed → Type 0
  AwaitsTicks x None ticks = ticks ≡ []
  AwaitsTicks x (Some events) ticks = (t : Printed) × (others : List Printed) × (ticks ≡ t ∷ others) × IsCheckedTick m x t × (y : ExecutiveState) × Takes m x t.report.shown y × AreChecked m y events others

  comes_checked : (events : List Event) (x : ExecutiveState) (next : TraceSoFar) (ticks : List Printed) → ComesTo m x events next → AwaitsTicks next.state next.behind ticks → AreChecked m x events ticks
  comes_checked [] x next ticks is h = subst (λ (t : TraceSoFar). AwaitsTicks t.state t.behind ticks) is h
  comes_checked (e ∷ events) x next ticks (inl (tick, is)) h =
      let (t, others, first, checked, y, takes, more) = subst (λ (z : TraceSoFar). AwaitsTicks z.state z.behind ticks) is h in
      inl (tick, t, others, first, checked, y, takes, more)
  comes_checked (e ∷ events) x next ticks (inr (y, c, comes)) h = inr (y, c, comes_checked events y next ticks comes h)

  -- the lines are the text of ticks that are checked, so many of them
  record Checks (x : TraceSoFar) (ls : List (List ℕ)) (count : ℕ) : Type 0 where
    ticks : List Printed
    text : text_so_far m x.lines ++ joined_lines ls ≡ flat_map (tick_text m) ticks
    checked : AwaitsTicks x.state x.behind ticks
    number : count ≡ x.state.ticks + length ticks

  -- behind the last tick nothing is read
  abbrev IsUnread : TraceSoFar → Type 0
  IsUnread x = x.behind ≡ None → x.lines ≡ Nothing

  not_all_no : (count tick reason : ℕ) → AllYes count ≡ FirstNo tick reason → ⊥
  not_all_no count tick reason h = absurd cc

  not_all_refused : (count : ℕ) (k : PlantModel) (line : ℕ) (r : Refusal) → AllYes count ≡ FirstRefusal k line r → ⊥
  not_all_refused count k line r h = absurd cc

  follows_fails : (t : TraceSoFar) (reason : ℕ) → Follows t ≡ Fails reason → ⊥
  follows_fails t reason h = absurd cc

  follows_one : (t u : TraceSoFar) → Follows t ≡ Follows u → t ≡ u
  follows_one t u h = cc

  -- no line is left
  none_left : (behind : Option (List Event)) (x : TraceSoFar) (count : ℕ) → x.behind ≡ behind → IsUnread x → AllYes count ≡ end_behind behind x → Checks x [] count
  none_left None x count is unread e =
      let same : count ≡ x.state.ticks = cc in
      record {
        ticks = [];
        text = append-nil (text_so_far m x.lines) ∙ ap (text_so_far m) (unread is);
        checked = subst (λ (b : Option (List Event)). AwaitsTicks x.state b []) (sym is) refl;
        number = omega (arith, same);
      }
  none_left (Some events) x count is unread e = absurd (not_all_no count _ _ e)

  module _ (x : TraceSoFar) (l : List ℕ) (ls : List (List ℕ)) (count : ℕ) (events : List Event) (is : x.behind ≡ Some events) (t : TraceSoFar) (on : IsUnread t → Checks t ls count) where
    more_checks : (lines : TickSoFar) (text : List ℕ) → text ≡ l ++ 10 ∷ [] → text_so_far m x.lines ++ text ≡ text_so_far m lines → t ≡ record { state = x.state; behind = Some events; lines = lines } → Checks x (l ∷ ls) count
    more_checks lines text of e there =
        let unread : IsUnread t = λ none. (let never : Some events ≡ None = sym (ap (λ (z : TraceSoFar). z.behind) there) ∙ none in absurd cc) in
        let r = on unread in
        let own : Checks (record { state = x.state; behind = Some events; lines = lines }) ls count = subst (λ (z : TraceSoFar). Checks z ls count) there r in
        record {
          ticks = own.ticks;
          text = text_first m (text_so_far m x.lines) l ls text (text_so_far m lines) of e ∙ own.text;
          checked = subst (λ (b : Option (List Event)). AwaitsTicks x.state b own.ticks) (sym is) own.checked;
          number = own.number;
        }

    yes_checks : (p : Printed) (text : List ℕ) → text ≡ l ++ 10 ∷ [] → text_so_far m x.lines ++ text ≡ tick_text m p → IsVerdict m x.state p Yes → OnEstimate p.report.shown (λ cost s reply. SeesPairs m x.state)
        → (y : ExecutiveState) → Takes m x.state p.report.shown y → ComesTo m y events t → Checks x (l ∷ ls) count
    yes_checks p text of e v sees y takes comes =
        let unread : t.lines ≡ Nothing = comes_unread m events y t comes in
        let r = on (λ none. unread) in
        let later : joined_lines ls ≡ flat_map (tick_text m) r.ticks = ap (λ (z : TickSoFar). text_so_far m z ++ joined_lines ls) (sym unread) ∙ r.text in
        let before : t.state.ticks ≡ x.state.ticks + 1 = comes_counted m events y t comes ∙ takes_counted m x.state p.report.shown y takes in
        record {
          ticks = p ∷ r.ticks;
          text = text_first m (text_so_far m x.lines) l ls text (tick_text m p) of e ∙ ap (λ (z : List ℕ). tick_text m p ++ z) later;
          checked = subst (λ (b : Option (List Event)). AwaitsTicks x.state b (p ∷ r.ticks)) (sym is) (p, r.ticks, refl, checked_tick x.state p v sees, y, takes, comes_checked events y t r.ticks comes r.checked);
          number = omega (arith, r.number, before);
        }

    whole_checks : (v : Verdict) (p : Printed) (text : List ℕ) → text ≡ l ++ 10 ∷ [] → text_so_far m x.lines ++ text ≡ tick_text m p → IsVerdict m x.state p v → ByVerdict v m x.state p events (Follows t) → Checks x (l ∷ ls) count
    whole_checks (No reason) p text of e v h = absurd (follows_fails t reason h)
    whole_checks Yes p text of e v (sees, y, takes, next, comes, there) =
        yes_checks p text of e v sees y takes (subst (ComesTo m y events) (sym (follows_one t next there)) comes)

    lines_check : (lines : TickLines) (text : List ℕ) → text ≡ l ++ 10 ∷ [] → IsTextOf m lines (text_so_far m x.lines ++ text) → ByLines lines m x events (Follows t) → Checks x (l ∷ ls) count
    lines_check NotNext text of e h = absurd (follows_fails t _ h)
    lines_check (More lines) text of e h = more_checks lines text of e (follows_one t _ h)
    lines_check (Whole p) text of e (v, says, h) = whole_checks v p text of e says h

    said_checks : (said : Option TraceLine) → IfSome said (λ value. trace_line m value ≡ l ++ 10 ∷ []) → ByLines (with_said x said) m x events (Follows t) → Checks x (l ∷ ls) count
    said_checks None of h = absurd (follows_fails t _ h)
    said_checks (Some value) of h = lines_check (next_lines x.state.ticks x.lines value) (trace_line m value) of (next_text m x.state.ticks x.lines value) h

  behind_checks : (behind : Option (List Event)) (x : TraceSoFar) (l : List ℕ) (ls : List (List ℕ)) (count : ℕ) (t : TraceSoFar) → x.behind ≡ behind → LeadsBehind behind m x l (Follows t) → (IsUnread t → Checks t ls count) → Checks x (l ∷ ls) count
  behind_checks None x l ls count t is h on = absurd (follows_fails t _ h)
  behind_checks (Some events) x l ls count t is (None, says, h) on = said_checks x l ls count events is t on None tt h
  behind_checks (Some events) x l ls count t is (Some value, says, h) on = said_checks x l ls count events is t on (Some value) says.1 h

  line_checks : (c : Option ℕ) (x : TraceSoFar) (n : ℕ) (l : List ℕ) (ls : List (List ℕ)) (count : ℕ) → JudgesByCode c m x (n + 1) l (λ t. JudgesLines m t (n + 1) ls (AllYes count)) (AllYes count)
      → ((t : TraceSoFar) → JudgesLines m t (n + 1) ls (AllYes count) → IsUnread t → Checks t ls count) → Checks x (l ∷ ls) count
  line_checks (Some code) x n l ls count h on = absurd (not_all_refused count m _ _ h)
  line_checks None x n l ls count (Fails reason, leads, h) on = absurd (not_all_no count _ _ h)
  line_checks None x n l ls count (Follows t, leads, h) on = behind_checks x.behind x l ls count t refl leads (on t h)

  all_check : (ls : List (List ℕ)) (x : TraceSoFar) (n count : ℕ) → JudgesLines m x n ls (AllYes count) → IsUnread x → Checks x ls count
  all_check [] x n count h unread = none_left x.behind x count refl unread h
  all_check (l ∷ ls) x n count h unread = line_checks (trace_line_code (n + 1) l) x n l ls count h (λ t k other. all_check ls t (n + 1) count k other)

-- ---- the whole input

script_checked : (input : List ℕ) (b : CompiledModel) (k : PlantModel) (n : ℕ) (ls : List (List ℕ)) (count : ℕ) (t : ScriptText) → IsCompiled b → b.model ≡ k → EndsModel input (WholeModel k n ls) → ReadsScript k no_events n ls t → EndsByScript k t (AllYes count)
    → IsCheckedTrace input (outcome_of (judged (AllYes count)))
script_checked input b k n ls count (RefusedScript line r) compiled is ends reads so = absurd (not_all_refused b.model compiled.accepted.well_formed count k line r so)
script_checked input b k n ls count (Traced events line rest) compiled is ends reads so =
    let (x, comes, judges) = subst (λ (m : PlantModel). EndsByScript m (Traced events line rest) (AllYes count)) (sym is) so in
    let unread = comes_unread b.model events (start b.model 0) x comes in
    let r = all_check b.model compiled.accepted.well_formed rest x line count judges (λ none. unread) in
    let before : x.state.ticks ≡ 0 = comes_counted b.model events (start b.model 0) x comes in
    let number : count ≡ length r.ticks = omega (arith, r.number, before) in
    record {
      compiled = b;
      is = compiled;
      script = n;
      lines = ls;
      model = subst (λ (m : PlantModel). EndsModel input (WholeModel m n ls)) (sym is) ends;
      events = events;
      trace = line;
      rest = rest;
      document = subst (λ (m : PlantModel). ReadsScript m no_events n ls (Traced events line rest)) (sym is) reads;
      ticks = r.ticks;
      text = ap (λ (z : TickSoFar). text_so_far b.model z ++ joined_lines rest) (sym unread) ∙ r.text;
      checked = comes_checked b.model compiled.accepted.well_formed events (start b.model 0) x r.ticks comes r.checked;
      outcome = ap (λ (z : ℕ). outcome_of (judged (AllYes z))) number;
    }

acceptance_checked : (input : List ℕ) (v : Acceptance) (k : PlantModel) (n : ℕ) (ls : List (List ℕ)) (count : ℕ) → IsAcceptanceOf k v → EndsModel input (WholeModel k n ls) → EndsByAcceptance v k n ls (AllYes count) → IsCheckedTrace input (outcome_of (judged (AllYes count)))
acceptance_checked input (AcceptedAs b) k n ls count is ends (t, reads, so) = script_checked input b k n ls count t is.0 is.1 ends reads so
acceptance_checked input (RefusedFor r) k n ls count is ends h = let never : AllYes count ≡ FirstRefusal k n r = h in absurd cc

model_checked : (input : List ℕ) (text : ModelText) (count : ℕ) → EndsModel input text → EndsByModel text (AllYes count) → IsCheckedTrace input (outcome_of (judged (AllYes count)))
model_checked input (WholeModel k n ls) count ends (v, is, h) = acceptance_checked input v k n ls count is ends h
model_checked input (models.RefusedModel k line r) count ends h = let never : AllYes count ≡ FirstRefusal k line r = h in absurd cc

-- a check that ends with a Yes is of a checked trace
ended_is_checked : (input : List ℕ) (o : Outcome) → IsOutcomeFor Check input o → o.status ≡ Ended → IsCheckedTrace input o
ended_is_checked input o (a, is, (text, ends, (end, so, same))) h =
    let ended = end_ended a.end (sym (ap (λ (x : Outcome). x.status) is) ∙ h) in
    let (ticks, e) = all_yes end (sym (ap (λ (x : Answer). x.end) same) ∙ ended) in
    subst (IsCheckedTrace input) (sym (is ∙ ap outcome_of (same ∙ ap judged e))) (model_checked input text ticks ends (subst (EndsByModel text) e so))

pub check_is_checked : (words : List (String Global)) (left : Option (List ℕ)) → IsForm words Check → IfSome left (λ input. (o : Outcome) → IsOutcome words input o → o.status ≡ Ended → IsCheckedTrace input o)
unfolding IsOutcome
check_is_checked words None e = tt
check_is_checked words (Some input) e = λ o is. ended_is_checked input o (subst (λ (f : Option Form). IsOutcomeOf f input o) e is)
