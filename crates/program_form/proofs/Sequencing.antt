-- What one event leads to, with what the program puts in before it.
use Rattle.std.proofs.Common.{◌≡◌, ℕ, Bool, true, false, List, [], ◌∷◌, ◌++◌, Option, Some, None, refl, sym, ap, subst, ◌∙◌}
use Rattle.std.specs.Prelude.{option_to_list}
use Rattle.cca_base.specs.declared.events.Event.{Event}
use Rattle.cca_base.specs.declared.events.Event.TheVariants as event
use Rattle.cca_base.specs.declared.events.Shown.{Shown}
use Rattle.cca_base.specs.declared.events.Shown.TheVariants.{Estimated, Unexplained, Holding}
use Rattle.cca_base.specs.declared.events.TickReport.{TickReport}
use Rattle.cca_base.specs.declared.cube.Pair.{Pair}
use Rattle.cca_base.specs.Accepted.{CompiledModel}
use Rattle.cca_base.specs.Orders.{IsSorted}
use Rattle.cca_base.specs.Plans.{Promising}
use Rattle.cca_base.specs.PlantModel.{PlantModel}
use Rattle.cca_base.specs.Trace.{ExecutiveState, ReplyRule, Changes, TickShows}
use Rattle.control_laws.specs.Turns.{Control}
use Rattle.trace_laws.specs.Events.{Acts, Makes, IsTick}
use Rattle.program_form.specs.Printed.{all_told, reports_of}
use Rattle.program_form.specs.ProgramMachine.{MakesEvent, Prepares, event_text, report_of, sequencer}
use Rattle.program_form.specs.PutIn.{Sequencer, Told, PutsBefore, TurnsBefore, IsToldOf, asks, behind, behind_event, estimate_after, is_holding}

-- two states that differ in their goals alone
pub record AreAlike (x z : ExecutiveState) : Type 0 where
  pub estimate : z.estimate ≡ x.estimate
  pub holding : z.holding ≡ x.holding
  pub pending : z.pending ≡ x.pending
  pub mirrored : z.mirrored ≡ x.mirrored
  pub ticks : z.ticks ≡ x.ticks

alike_by : (x z w : ExecutiveState) → z ≡ w → AreAlike x w → AreAlike x z
alike_by x z w e h = subst (AreAlike x) (sym e) h

same : (x : ExecutiveState) → AreAlike x x
same x = record { estimate = refl; holding = refl; pending = refl; mirrored = refl; ticks = refl }

module _ (b : CompiledModel) where
  -- setting or clearing a goal changes the goal alone
  asked_alike : (x z : ExecutiveState) (goal : List Pair) → Acts b (Promising b) x (asks goal) z None → AreAlike x z
  asked_alike x z [] h = alike_by x z (record x { goal = None }) h (record { estimate = refl; holding = refl; pending = refl; mirrored = refl; ticks = refl })
  asked_alike x z (p ∷ pairs) (g, sorted, e) = alike_by x z (record x { goal = Some g }) e (record { estimate = refl; holding = refl; pending = refl; mirrored = refl; ticks = refl })

  turned_alike : (holding : Bool) (s : Sequencer) (put : Option Event) (next : Control) (x z : ExecutiveState) → TurnsBefore holding b.model s put next → Prepares b x put z → AreAlike x z
  turned_alike true s put next x z (none, is) prepares = let stays : Prepares b x None z = subst (λ p. Prepares b x p z) none prepares in alike_by x z x stays (same x)
  turned_alike false s put next x z (goal, turns, is) prepares = asked_alike x z goal (subst (λ p. Prepares b x p z) is prepares)

  quiet_alike : (put : Option Event) (x z : ExecutiveState) → put ≡ None → Prepares b x put z → z ≡ x
  quiet_alike put x z none prepares = subst (λ p. Prepares b x p z) none prepares

  -- what is put in before an event changes the goal alone
  pub prepared : (e : Event) (s : Sequencer) (put : Option Event) (next : Control) (x z : ExecutiveState) → PutsBefore b.model e s put next → Prepares b x put z → AreAlike x z
  prepared event.Tick s put next x z h prepares = turned_alike s.holding s put next x z h prepares
  prepared event.Reset s put next x z h prepares = alike_by x z x (quiet_alike put x z h.0 prepares) (same x)
  prepared (event.Goal pairs) s put next x z h prepares = alike_by x z x (quiet_alike put x z h.0 prepares) (same x)
  prepared event.Clear s put next x z h prepares = alike_by x z x (quiet_alike put x z h.0 prepares) (same x)
  prepared (event.Observe pairs) s put next x z h prepares = alike_by x z x (quiet_alike put x z h.0 prepares) (same x)
  prepared (event.Fault p) s put next x z h prepares = alike_by x z x (quiet_alike put x z h.0 prepares) (same x)
  prepared (event.Mirror v) s put next x z h prepares = alike_by x z x (quiet_alike put x z h.0 prepares) (same x)

  -- ---- what is known behind an event

  -- the last estimate, and whether the executive is holding
  abbrev Knows : ExecutiveState → List ℕ → Bool → Type 0
  Knows y estimate holding = (y.estimate ≡ estimate) × (y.holding ≡ holding)

  shown_known : (answers : ReplyRule) (z : ExecutiveState) (shown : Shown) (y : ExecutiveState) → TickShows b.model answers z shown y → Knows y (estimate_after z.estimate shown) (is_holding shown)
  shown_known answers z (Estimated cost state reply) y h = (ap (λ (s : ExecutiveState). s.estimate) h.after, ap (λ (s : ExecutiveState). s.holding) h.after ∙ h.going)
  shown_known answers z Unexplained y h = (ap (λ (s : ExecutiveState). s.estimate) h.after, ap (λ (s : ExecutiveState). s.holding) h.after)
  shown_known answers z Holding y h = (ap (λ (s : ExecutiveState). s.estimate) h.1, ap (λ (s : ExecutiveState). s.holding) h.1 ∙ h.0)

  abbrev made_of : Control → List ℕ → Bool → Sequencer
  made_of next estimate holding = record { control = next; estimate = estimate; holding = holding }

  told_known : (e : Event) (x : ExecutiveState) (c next : Control) (z y : ExecutiveState) (told : Told) → AreAlike x z → Acts b (Promising b) z e y (Some told.report)
      → behind b.model e (sequencer x c) next (Some told) ≡ sequencer y next
  told_known e x c next z y told alike acts =
      let known = shown_known (Promising b) z told.report.shown y acts.2 in
      (λ i. made_of next (estimate_after (sym alike.estimate i) told.report.shown) (is_holding told.report.shown)) ∙ (λ i. made_of next (sym known.0 i) (sym known.1 i))

  quiet_known : (x y : ExecutiveState) (c next : Control) → next ≡ c → y.estimate ≡ x.estimate → y.holding ≡ x.holding → sequencer x c ≡ sequencer y next
  quiet_known x y c next left estimate holding = λ i. made_of (sym left i) (sym estimate i) (sym holding i)

  event_known : (e : Event) (x : ExecutiveState) (c next : Control) (put : Option Event) (y : ExecutiveState) → PutsBefore b.model e (sequencer x c) put next → (IsTick e → ⊥) → Changes b.model (IsSorted b.order) x e y
      → behind_event b.model e (sequencer x c) ≡ sequencer y next
  event_known event.Tick x c next put y h never act = absurd (never tt)
  event_known event.Reset x c next put y h never act =
      λ i. made_of (sym h.1 i) (ap (λ (s : ExecutiveState). s.estimate) (sym act) i) (ap (λ (s : ExecutiveState). s.holding) (sym act) i)
  event_known (event.Goal pairs) x c next put y h never (g, sorted, act) = quiet_known x y c next h.1 (ap (λ (s : ExecutiveState). s.estimate) act) (ap (λ (s : ExecutiveState). s.holding) act)
  event_known event.Clear x c next put y h never act = quiet_known x y c next h.1 (ap (λ (s : ExecutiveState). s.estimate) act) (ap (λ (s : ExecutiveState). s.holding) act)
  event_known (event.Observe pairs) x c next put y h never (both, union, act) = quiet_known x y c next h.1 (ap (λ (s : ExecutiveState). s.estimate) act) (ap (λ (s : ExecutiveState). s.holding) act)
  event_known (event.Fault p) x c next put y h never act = quiet_known x y c next h.1 (ap (λ (s : ExecutiveState). s.estimate) act) (ap (λ (s : ExecutiveState). s.holding) act)
  event_known (event.Mirror v) x c next put y h never act = quiet_known x y c next h.1 (ap (λ (s : ExecutiveState). s.estimate) act) (ap (λ (s : ExecutiveState). s.holding) act)

  -- nothing is put in before an event that is no tick
  nothing_put : (e : Event) (s : Sequencer) (put : Option Event) (next : Control) → (IsTick e → ⊥) → PutsBefore b.model e s put next → put ≡ None
  nothing_put event.Tick s put next never h = absurd (never tt)
  nothing_put event.Reset s put next never h = h.0
  nothing_put (event.Goal pairs) s put next never h = h.0
  nothing_put event.Clear s put next never h = h.0
  nothing_put (event.Observe pairs) s put next never h = h.0
  nothing_put (event.Fault p) s put next never h = h.0
  nothing_put (event.Mirror v) s put next never h = h.0

  -- where an event leads, what the program knows of the executive is so
  pub made_known : (e : Event) (x : ExecutiveState) (c : Control) (y : ExecutiveState) (next : Control) (own : Option Told) → MakesEvent b x c e y next own → behind b.model e (sequencer x c) next own ≡ sequencer y next
  made_known e x c y next (Some told) h = told_known e x c next h.middle y told (prepared e (sequencer x c) h.put next x h.middle h.puts h.prepares) h.acts
  made_known e x c y next None h =
      let stays = quiet_alike h.put x h.middle (nothing_put e (sequencer x c) h.put next h.told h.puts) h.prepares in
      event_known e x c next h.put y h.puts h.told (subst (λ (s : ExecutiveState). Changes b.model (IsSorted b.order) s e y) stays h.acts)

  -- ---- one event before others

  pub event_then : (put : Option Event) (e : Event) (rest : List Event) (x z y last : ExecutiveState) (report : Option TickReport) (others : List TickReport) → Prepares b x put z → Acts b (Promising b) z e y report
      → Makes b (Promising b) y rest last others → Makes b (Promising b) x (option_to_list put ++ e ∷ rest) last (option_to_list report ++ others)
  event_then None e rest x z y last report others prepares acts made = (y, report, others, subst (λ (s : ExecutiveState). Acts b (Promising b) s e y report) prepares acts, made, refl)
  event_then (Some p) e rest x z y last report others prepares acts made = (z, None, option_to_list report ++ others, prepares, (y, report, others, acts, made, refl), refl)

  -- the first event of some, with what is put in before it
  pub record IsFirst (put : Option Event) (e : Event) (rest : List Event) (x last : ExecutiveState) (reports : List TickReport) : Type 0 where
    pub middle : ExecutiveState
    pub next : ExecutiveState
    pub report : Option TickReport
    pub others : List TickReport
    pub prepares : Prepares b x put middle
    pub acts : Acts b (Promising b) middle e next report
    pub made : Makes b (Promising b) next rest last others
    pub split : reports ≡ option_to_list report ++ others

  first_of : (e : Event) (rest : List Event) (x last : ExecutiveState) (reports : List TickReport) → Makes b (Promising b) x (e ∷ rest) last reports → IsFirst None e rest x last reports
  first_of e rest x last reports (y, report, others, acts, made, split) = record { middle = x; next = y; report = report; others = others; prepares = refl; acts = acts; made = made; split = split }

  asked_first : (goal : List Pair) (e : Event) (rest : List Event) (x last : ExecutiveState) (reports : List TickReport) → Makes b (Promising b) x (asks goal ∷ e ∷ rest) last reports → IsFirst (Some (asks goal)) e rest x last reports
  asked_first goal e rest x last reports (z, None, more, acts, (y, report, others, act, made, split), whole) =
      record { middle = z; next = y; report = report; others = others; prepares = acts; acts = act; made = made; split = whole ∙ split }
  asked_first [] e rest x last reports (z, Some report, more, acts, made, whole) = absurd acts.0
  asked_first (p ∷ pairs) e rest x last reports (z, Some report, more, acts, made, whole) = absurd acts.0

  turned_first : (holding : Bool) (s : Sequencer) (put : Option Event) (next : Control) (e : Event) (rest : List Event) (x last : ExecutiveState) (reports : List TickReport) → TurnsBefore holding b.model s put next
      → Makes b (Promising b) x (option_to_list put ++ e ∷ rest) last reports → IsFirst put e rest x last reports
  turned_first true s put next e rest x last reports (none, is) made =
      subst (λ p. IsFirst p e rest x last reports) (sym none) (first_of e rest x last reports (subst (λ p. Makes b (Promising b) x (option_to_list p ++ e ∷ rest) last reports) none made))
  turned_first false s put next e rest x last reports (goal, turns, is) made =
      subst (λ p. IsFirst p e rest x last reports) (sym is) (asked_first goal e rest x last reports (subst (λ p. Makes b (Promising b) x (option_to_list p ++ e ∷ rest) last reports) is made))

  pub event_first : (e : Event) (s : Sequencer) (put : Option Event) (next : Control) (rest : List Event) (x last : ExecutiveState) (reports : List TickReport) → PutsBefore b.model e s put next
      → Makes b (Promising b) x (option_to_list put ++ e ∷ rest) last reports → IsFirst put e rest x last reports
  event_first event.Tick s put next rest x last reports h made = turned_first s.holding s put next event.Tick rest x last reports h made
  event_first event.Reset s put next rest x last reports h made = turned_first true s put s.control event.Reset rest x last reports (h.0, refl) made
  event_first (event.Goal pairs) s put next rest x last reports h made = turned_first true s put s.control (event.Goal pairs) rest x last reports (h.0, refl) made
  event_first event.Clear s put next rest x last reports h made = turned_first true s put s.control event.Clear rest x last reports (h.0, refl) made
  event_first (event.Observe pairs) s put next rest x last reports h made = turned_first true s put s.control (event.Observe pairs) rest x last reports (h.0, refl) made
  event_first (event.Fault p) s put next rest x last reports h made = turned_first true s put s.control (event.Fault p) rest x last reports (h.0, refl) made
  event_first (event.Mirror v) s put next rest x last reports h made = turned_first true s put s.control (event.Mirror v) rest x last reports (h.0, refl) made

-- ---- what is told

-- the reports and the text of what is told first, and of the others
pub reports_first : (own : Option Told) (others : List Told) → reports_of (option_to_list own ++ others) ≡ option_to_list (report_of own) ++ reports_of others
reports_first None others = refl
reports_first (Some told) others = refl

pub text_first : (m : PlantModel) (own : Option Told) (others : List Told) → all_told m (option_to_list own ++ others) ≡ event_text m own ++ all_told m others
text_first m None others = refl
text_first m (Some told) others = refl

-- a tick has a report, and no other event has one
pub tick_is : (e : Event) → IsTick e → e ≡ event.Tick
tick_is event.Tick tick = refl
tick_is event.Reset tick = absurd tick
tick_is (event.Goal pairs) tick = absurd tick
tick_is event.Clear tick = absurd tick
tick_is (event.Observe pairs) tick = absurd tick
tick_is (event.Fault p) tick = absurd tick
tick_is (event.Mirror v) tick = absurd tick

pub told_reports : (b : CompiledModel) (z : ExecutiveState) (e : Event) (y : ExecutiveState) (report : Option TickReport) (others reports : List TickReport) (before next : Control) (own : Option Told) → IsToldOf e before next own
    → Acts b (Promising b) z e y report → reports ≡ option_to_list report ++ others → (more : List Told) → reports ≡ reports_of (option_to_list own ++ more) → (report ≡ report_of own) × (others ≡ reports_of more)
told_reports b z e y None others reports before next None told acts split more is = (refl, sym split ∙ is)
told_reports b z e y (Some r) others reports before next None told acts split more is = absurd (told acts.0)
told_reports b z e y None others reports before next (Some t) told acts split more is = absurd (subst (λ (f : Event). Changes b.model (IsSorted b.order) z f y) (tick_is e told.0) acts)
told_reports b z e y (Some r) others reports before next (Some t) told acts split more is =
    let lists : r ∷ others ≡ t.report ∷ reports_of more = sym split ∙ is in
    (ap (λ s. Some s) (let h : r ∷ others ≡ t.report ∷ reports_of more = lists in head_same r t.report others (reports_of more) h), tail_same r t.report others (reports_of more) lists)
  where
    head_same : (a c : TickReport) (xs ys : List TickReport) → a ∷ xs ≡ c ∷ ys → a ≡ c
    head_same a c xs ys h = cc

    tail_same : (a c : TickReport) (xs ys : List TickReport) → a ∷ xs ≡ c ∷ ys → xs ≡ ys
    tail_same a c xs ys h = cc
