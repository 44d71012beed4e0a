-- One event after the other.
use Rattle.std.proofs.Common.{◌≡◌, List, [], ◌∷◌, ◌++◌, map, Option, Some, None, Contains, refl, sym, ap, subst, ◌∙◌, append_assoc}
use Rattle.std.specs.Prelude.{option_to_list}
use Rattle.cca_base.specs.declared.events.Event.{Event}
use Rattle.cca_base.specs.declared.events.Event.TheVariants as event
use Rattle.cca_base.specs.declared.events.Shown.{Shown}
use Rattle.cca_base.specs.declared.events.Shown.TheVariants.{Estimated, Unexplained, Holding}
use Rattle.cca_base.specs.declared.events.TickReport.{TickReport}
use Rattle.cca_base.specs.PlantModel.{PlantModel}
use Rattle.cca_base.specs.Accepted.{CompiledModel}
use Rattle.cca_base.specs.Cube.{IsUnion}
use Rattle.cca_base.specs.Sets.{with_number}
use Rattle.cca_base.specs.Orders.{IsSorted}
use Rattle.cca_base.specs.Trace.{ExecutiveState, start, ReplyRule, GoalOrder, Changes, MayCome, AllMayCome, TickShows}
use Rattle.cca_base.specs.Runs.{TickRecord, Ticks, Trace}
use Rattle.cca_laws.proofs.OneOrder.{one_union}
use Rattle.trace_laws.specs.Events.{Acts, Makes}

-- ---- what bears on which events may come

-- two states with the same pending observations and mirrored variables
pub record AreAlike (x z : ExecutiveState) : Type 0 where
  pub pending : x.pending ≡ z.pending
  pub mirrored : x.mirrored ≡ z.mirrored

module _ (m : PlantModel) (ordering : GoalOrder) where
  -- one event from both leads to such states again
  change_alike : (x z : ExecutiveState) (e : Event) (y w : ExecutiveState) → AreAlike x z → Changes m ordering x e y → Changes m ordering z e w → AreAlike y w
  change_alike x z (event.Goal pairs) y w h (g, k, e) (g2, k2, f) =
      record { pending = ap (λ (s : ExecutiveState). s.pending) e ∙ h.pending ∙ sym (ap (λ (s : ExecutiveState). s.pending) f); mirrored = ap (λ (s : ExecutiveState). s.mirrored) e ∙ h.mirrored ∙ sym (ap (λ (s : ExecutiveState). s.mirrored) f) }
  change_alike x z event.Clear y w h e f =
      record { pending = ap (λ (s : ExecutiveState). s.pending) e ∙ h.pending ∙ sym (ap (λ (s : ExecutiveState). s.pending) f); mirrored = ap (λ (s : ExecutiveState). s.mirrored) e ∙ h.mirrored ∙ sym (ap (λ (s : ExecutiveState). s.mirrored) f) }
  change_alike x z (event.Observe pairs) y w h (both, k, e) (other, k2, f) = record {
    pending = ap (λ (s : ExecutiveState). s.pending) e
        ∙ one_union (Contains z.pending) (Contains pairs) both other (subst (λ l. IsUnion (Contains l) (Contains pairs) both) h.pending k) k2
        ∙ sym (ap (λ (s : ExecutiveState). s.pending) f);
    mirrored = ap (λ (s : ExecutiveState). s.mirrored) e ∙ h.mirrored ∙ sym (ap (λ (s : ExecutiveState). s.mirrored) f);
  }
  change_alike x z (event.Fault p) y w h e f =
      record { pending = ap (λ (s : ExecutiveState). s.pending) e ∙ h.pending ∙ sym (ap (λ (s : ExecutiveState). s.pending) f); mirrored = ap (λ (s : ExecutiveState). s.mirrored) e ∙ h.mirrored ∙ sym (ap (λ (s : ExecutiveState). s.mirrored) f) }
  change_alike x z (event.Mirror v) y w h e f = record {
    pending = ap (λ (s : ExecutiveState). s.pending) e ∙ h.pending ∙ sym (ap (λ (s : ExecutiveState). s.pending) f);
    mirrored = ap (λ (s : ExecutiveState). s.mirrored) e ∙ ap (λ n. with_number n v) h.mirrored ∙ sym (ap (λ (s : ExecutiveState). s.mirrored) f);
  }
  change_alike x z event.Reset y w h e f =
      record { pending = ap (λ (s : ExecutiveState). s.pending) e ∙ sym (ap (λ (s : ExecutiveState). s.pending) f); mirrored = ap (λ (s : ExecutiveState). s.mirrored) e ∙ sym (ap (λ (s : ExecutiveState). s.mirrored) f) }
  change_alike x z event.Tick y w h e f = absurd e

  -- what an event changes in the one, it changes in the other
  change_too : (x z : ExecutiveState) (e : Event) (y : ExecutiveState) → AreAlike x z → Changes m ordering x e y → (w : ExecutiveState) × Changes m ordering z e w
  change_too x z (event.Goal pairs) y h (g, k, e) = (record z { goal = Some g }, (g, k, refl))
  change_too x z event.Clear y h e = (record z { goal = None }, refl)
  change_too x z (event.Observe pairs) y h (both, k, e) = (record z { pending = both }, (both, subst (λ l. IsUnion (Contains l) (Contains pairs) both) h.pending k, refl))
  change_too x z (event.Fault p) y h e = (_, refl)
  change_too x z (event.Mirror v) y h e = (_, refl)
  change_too x z event.Reset y h e = (_, refl)
  change_too x z event.Tick y h e = absurd e

  abbrev AllFrom : ExecutiveState → List Event → Type 0
  AllFrom x events = AllMayCome m ordering x events

  abbrev May : ExecutiveState → Event → Type 0
  May x e = MayCome m x.pending x.mirrored e

  may_alike : (x z : ExecutiveState) (e : Event) → AreAlike x z → May x e → May z e
  may_alike x z e h k = subst (λ l. MayCome m l z.mirrored e) h.pending (subst (λ n. MayCome m x.pending n e) h.mirrored k)

  all_alike : (events : List Event) (x z : ExecutiveState) → AreAlike x z → AllFrom x events → AllFrom z events
  all_alike [] x z h k = tt
  all_alike (event.Tick ∷ events) x z h k = all_alike events (record x { pending = [] }) (record z { pending = [] }) (record { pending = refl; mirrored = h.mirrored }) k
  all_alike (event.Goal pairs ∷ events) x z h (may, y, change, rest) =
      let too = change_too x z (event.Goal pairs) y h change in
      (may_alike x z (event.Goal pairs) h may, too.0, too.1, all_alike events y too.0 (change_alike x z (event.Goal pairs) y too.0 h change too.1) rest)
  all_alike (event.Clear ∷ events) x z h (may, y, change, rest) =
      let too = change_too x z event.Clear y h change in (may_alike x z event.Clear h may, too.0, too.1, all_alike events y too.0 (change_alike x z event.Clear y too.0 h change too.1) rest)
  all_alike (event.Observe pairs ∷ events) x z h (may, y, change, rest) =
      let too = change_too x z (event.Observe pairs) y h change in
      (may_alike x z (event.Observe pairs) h may, too.0, too.1, all_alike events y too.0 (change_alike x z (event.Observe pairs) y too.0 h change too.1) rest)
  all_alike (event.Fault p ∷ events) x z h (may, y, change, rest) =
      let too = change_too x z (event.Fault p) y h change in (may_alike x z (event.Fault p) h may, too.0, too.1, all_alike events y too.0 (change_alike x z (event.Fault p) y too.0 h change too.1) rest)
  all_alike (event.Mirror v ∷ events) x z h (may, y, change, rest) =
      let too = change_too x z (event.Mirror v) y h change in (may_alike x z (event.Mirror v) h may, too.0, too.1, all_alike events y too.0 (change_alike x z (event.Mirror v) y too.0 h change too.1) rest)
  all_alike (event.Reset ∷ events) x z h (may, y, change, rest) =
      let too = change_too x z event.Reset y h change in (may_alike x z event.Reset h may, too.0, too.1, all_alike events y too.0 (change_alike x z event.Reset y too.0 h change too.1) rest)

pub tick_alike : (m : PlantModel) (answers : ReplyRule) (x : ExecutiveState) (shown : Shown) (y : ExecutiveState) → TickShows m answers x shown y → AreAlike (record x { pending = [] }) y
tick_alike m answers x (Estimated cost state reply) y h = record { pending = sym (ap (λ (s : ExecutiveState). s.pending) h.after); mirrored = sym (ap (λ (s : ExecutiveState). s.mirrored) h.after) }
tick_alike m answers x Unexplained y h = record { pending = sym (ap (λ (s : ExecutiveState). s.pending) h.after); mirrored = sym (ap (λ (s : ExecutiveState). s.mirrored) h.after) }
tick_alike m answers x Holding y h = record { pending = sym (ap (λ (s : ExecutiveState). s.pending) h.1); mirrored = sym (ap (λ (s : ExecutiveState). s.mirrored) h.1) }

back : (x z : ExecutiveState) → AreAlike x z → AreAlike z x
back x z h = record { pending = sym h.pending; mirrored = sym h.mirrored }

self : (x : ExecutiveState) → AreAlike x x
self x = record { pending = refl; mirrored = refl }

module _ (b : CompiledModel) (answers : ReplyRule) where
  abbrev Keeps : GoalOrder
  Keeps = IsSorted b.order

  abbrev All' : ExecutiveState → List Event → Type 0
  All' x events = AllMayCome b.model Keeps x events

  abbrev May' : ExecutiveState → Event → Type 0
  May' x e = MayCome b.model x.pending x.mirrored e

  after_change : (x : ExecutiveState) (e : Event) (y z : ExecutiveState) (events : List Event) → Changes b.model Keeps x e y → Changes b.model Keeps x e z → All' z events → All' y events
  after_change x e y z events k change rest = all_alike b.model Keeps events z y (change_alike b.model Keeps x x e z y (self x) change k) rest

  -- the first of the events may come, and the others may come after it
  pub next_may_come : (x : ExecutiveState) (e : Event) (y : ExecutiveState) (report : Option TickReport) (events : List Event) → Acts b answers x e y report → All' x (e ∷ events) → May' x e × All' y events
  next_may_come x event.Tick y None events k h = absurd k
  next_may_come x event.Tick y (Some report) events k h = (tt, all_alike b.model Keeps events (record x { pending = [] }) y (tick_alike b.model answers x report.shown y k.2) h)
  next_may_come x (event.Goal pairs) y None events k (may, z, change, rest) = (may, after_change x (event.Goal pairs) y z events k change rest)
  next_may_come x (event.Goal pairs) y (Some report) events k h = absurd k.0
  next_may_come x event.Clear y None events k (may, z, change, rest) = (may, after_change x event.Clear y z events k change rest)
  next_may_come x event.Clear y (Some report) events k h = absurd k.0
  next_may_come x (event.Observe pairs) y None events k (may, z, change, rest) = (may, after_change x (event.Observe pairs) y z events k change rest)
  next_may_come x (event.Observe pairs) y (Some report) events k h = absurd k.0
  next_may_come x (event.Fault p) y None events k (may, z, change, rest) = (may, after_change x (event.Fault p) y z events k change rest)
  next_may_come x (event.Fault p) y (Some report) events k h = absurd k.0
  next_may_come x (event.Mirror v) y None events k (may, z, change, rest) = (may, after_change x (event.Mirror v) y z events k change rest)
  next_may_come x (event.Mirror v) y (Some report) events k h = absurd k.0
  next_may_come x event.Reset y None events k (may, z, change, rest) = (may, after_change x event.Reset y z events k change rest)
  next_may_come x event.Reset y (Some report) events k h = absurd k.0

  -- an event that may come, before those that may come where it leads
  pub event_first : (x : ExecutiveState) (e : Event) (y : ExecutiveState) (report : Option TickReport) (events : List Event) → May' x e → Acts b answers x e y report → All' y events → All' x (e ∷ events)
  event_first x (event.Goal pairs) y None events may h rest = (may, y, h, rest)
  event_first x event.Clear y None events may h rest = (may, y, h, rest)
  event_first x (event.Observe pairs) y None events may h rest = (may, y, h, rest)
  event_first x (event.Fault p) y None events may h rest = (may, y, h, rest)
  event_first x (event.Mirror v) y None events may h rest = (may, y, h, rest)
  event_first x event.Reset y None events may h rest = (may, y, h, rest)
  event_first x event.Tick y None events may h rest = absurd h
  event_first x (event.Goal pairs) y (Some report) events may h rest = absurd h.0
  event_first x event.Clear y (Some report) events may h rest = absurd h.0
  event_first x (event.Observe pairs) y (Some report) events may h rest = absurd h.0
  event_first x (event.Fault p) y (Some report) events may h rest = absurd h.0
  event_first x (event.Mirror v) y (Some report) events may h rest = absurd h.0
  event_first x event.Reset y (Some report) events may h rest = absurd h.0
  event_first x event.Tick y (Some report) events may h rest =
      all_alike b.model Keeps events y (record x { pending = [] }) (back (record x { pending = [] }) y (tick_alike b.model answers x report.shown y h.2)) rest

  -- ---- one event more

  pub one_more_may_come : (x y z : ExecutiveState) (events : List Event) (e : Event) (reports : List TickReport) (report : Option TickReport)
      → Makes b answers x events y reports → All' x events → May' y e → Acts b answers y e z report → All' x (events ++ e ∷ [])
  one_more_may_come x y z [] e reports report made all may acts = subst (λ w. All' w (e ∷ [])) made.0 (event_first y e z report [] may acts tt)
  one_more_may_come x y z (d ∷ events) e reports report (w, first, others, act, made, split) all may acts =
      let next = next_may_come x d w first events act all in
      event_first x d w first (events ++ e ∷ []) next.0 act (one_more_may_come w y z events e others report made next.1 may acts)

  append_nil_right : (l : List TickReport) → l ++ [] ≡ l
  append_nil_right [] = refl
  append_nil_right (r ∷ l) = ap (λ z. r ∷ z) (append_nil_right l)

  pub one_more : (x y z : ExecutiveState) (events : List Event) (e : Event) (reports : List TickReport) (report : Option TickReport)
      → Makes b answers x events y reports → Acts b answers y e z report → Makes b answers x (events ++ e ∷ []) z (reports ++ option_to_list report)
  one_more x y z [] e reports report made acts = (
    z,
    report,
    [],
    subst (λ w. Acts b answers w e z report) made.0 acts,
    (refl, refl),
    ap (λ l. l ++ option_to_list report) made.1 ∙ sym (append_nil_right (option_to_list report)),
  )
  one_more x y z (d ∷ events) e reports report (w, first, others, act, made, split) acts = (
    w,
    first,
    others ++ option_to_list report,
    act,
    one_more w y z events e others report made acts,
    ap (λ l. l ++ option_to_list report) split ∙ append_assoc (option_to_list first) others (option_to_list report),
  )

  -- ---- traces

  pub record IsMadeOf (x : ExecutiveState) (since events : List Event) (reports : List TickReport) : Type 0 where
    pub ticks : List TickRecord
    pub made : Ticks b answers x since events ticks
    pub reported : reports ≡ map (λ t. t.report) ticks

  -- the ticks of the other events are those of all, where an event that is no tick comes first
  quiet : {x z : ExecutiveState} {since : List Event} {events : List Event} {reports others : List TickReport} (e : Event) → IsMadeOf z (since ++ e ∷ []) events others → reports ≡ others
      → ((ts : List TickRecord) → Ticks b answers z (since ++ e ∷ []) events ts → Ticks b answers x since (e ∷ events) ts) → IsMadeOf x since (e ∷ events) reports
  quiet e rest split first = record { ticks = rest.ticks; made = first rest.ticks rest.made; reported = split ∙ rest.reported }

  ticks_of : (x : ExecutiveState) (since events : List Event) (y : ExecutiveState) (reports : List TickReport) → Makes b answers x events y reports → IsMadeOf x since events reports
  ticks_of x since [] y reports made = record { ticks = []; made = refl; reported = made.1 }
  ticks_of x since (event.Tick ∷ events) y reports (z, None, others, act, made, split) = absurd act
  ticks_of x since (event.Tick ∷ events) y reports (z, Some report, others, act, made, split) =
      let rest = ticks_of z [] events y others made in
      record { ticks = record { since = since; before = x; report = report } ∷ rest.ticks; made = (refl, refl, act.1, z, act.2, rest.made); reported = split ∙ ap (λ l. report ∷ l) rest.reported }
  ticks_of x since (event.Goal pairs ∷ events) y reports (z, None, others, act, made, split) = quiet (event.Goal pairs) (ticks_of z (since ++ event.Goal pairs ∷ []) events y others made) split (λ ts t. (z, act, t))
  ticks_of x since (event.Goal pairs ∷ events) y reports (z, Some report, others, act, made, split) = absurd act.0
  ticks_of x since (event.Clear ∷ events) y reports (z, None, others, act, made, split) = quiet event.Clear (ticks_of z (since ++ event.Clear ∷ []) events y others made) split (λ ts t. (z, act, t))
  ticks_of x since (event.Clear ∷ events) y reports (z, Some report, others, act, made, split) = absurd act.0
  ticks_of x since (event.Observe pairs ∷ events) y reports (z, None, others, act, made, split) = quiet (event.Observe pairs) (ticks_of z (since ++ event.Observe pairs ∷ []) events y others made) split (λ ts t. (z, act, t))
  ticks_of x since (event.Observe pairs ∷ events) y reports (z, Some report, others, act, made, split) = absurd act.0
  ticks_of x since (event.Fault p ∷ events) y reports (z, None, others, act, made, split) = quiet (event.Fault p) (ticks_of z (since ++ event.Fault p ∷ []) events y others made) split (λ ts t. (z, act, t))
  ticks_of x since (event.Fault p ∷ events) y reports (z, Some report, others, act, made, split) = absurd act.0
  ticks_of x since (event.Mirror v ∷ events) y reports (z, None, others, act, made, split) = quiet (event.Mirror v) (ticks_of z (since ++ event.Mirror v ∷ []) events y others made) split (λ ts t. (z, act, t))
  ticks_of x since (event.Mirror v ∷ events) y reports (z, Some report, others, act, made, split) = absurd act.0
  ticks_of x since (event.Reset ∷ events) y reports (z, None, others, act, made, split) = quiet event.Reset (ticks_of z (since ++ event.Reset ∷ []) events y others made) split (λ ts t. (z, act, t))
  ticks_of x since (event.Reset ∷ events) y reports (z, Some report, others, act, made, split) = absurd act.0

  pub made_is_trace : (events : List Event) (y : ExecutiveState) (reports : List TickReport) → Makes b answers (start b.model 0) events y reports → Trace b answers events reports
  made_is_trace events y reports h = let t = ticks_of (start b.model 0) [] events y reports h in record { ticks = t.ticks; made = t.made; reported = t.reported }

  -- some events were made
  abbrev AreMade : ExecutiveState → List Event → List TickReport → Type 0
  AreMade x events reports = (y : ExecutiveState) × Makes b answers x events y reports

  -- an event that is no tick, and then the others
  then_made : (x : ExecutiveState) (e : Event) (z : ExecutiveState) (events : List Event) (reports : List TickReport) → Acts b answers x e z None → AreMade z events reports → AreMade x (e ∷ events) reports
  then_made x e z events reports act more = (more.0, (z, None, reports, act, more.1, refl))

  made_of : (x : ExecutiveState) (since events : List Event) (ts : List TickRecord) → Ticks b answers x since events ts → AreMade x events (map (λ t. t.report) ts)
  made_of x since [] ts h = (x, (refl, ap (map (λ t. t.report)) h))
  made_of x since (event.Tick ∷ events) [] h = absurd h
  made_of x since (event.Tick ∷ events) (t ∷ ts) (a, c, n, z, shows, rest) =
      let more = made_of z [] events ts rest in (more.0, (z, Some t.report, map (λ t. t.report) ts, (tt, n, shows), more.1, refl))
  made_of x since (event.Goal pairs ∷ events) ts (z, change, rest) = then_made x (event.Goal pairs) z events (map (λ t. t.report) ts) change (made_of z (since ++ event.Goal pairs ∷ []) events ts rest)
  made_of x since (event.Clear ∷ events) ts (z, change, rest) = then_made x event.Clear z events (map (λ t. t.report) ts) change (made_of z (since ++ event.Clear ∷ []) events ts rest)
  made_of x since (event.Observe pairs ∷ events) ts (z, change, rest) = then_made x (event.Observe pairs) z events (map (λ t. t.report) ts) change (made_of z (since ++ event.Observe pairs ∷ []) events ts rest)
  made_of x since (event.Fault p ∷ events) ts (z, change, rest) = then_made x (event.Fault p) z events (map (λ t. t.report) ts) change (made_of z (since ++ event.Fault p ∷ []) events ts rest)
  made_of x since (event.Mirror v ∷ events) ts (z, change, rest) = then_made x (event.Mirror v) z events (map (λ t. t.report) ts) change (made_of z (since ++ event.Mirror v ∷ []) events ts rest)
  made_of x since (event.Reset ∷ events) ts (z, change, rest) = then_made x event.Reset z events (map (λ t. t.report) ts) change (made_of z (since ++ event.Reset ∷ []) events ts rest)

  pub trace_is_made : (events : List Event) (reports : List TickReport) → Trace b answers events reports → AreMade (start b.model 0) events reports
  trace_is_made events reports t = subst (AreMade (start b.model 0) events) (sym t.reported) (made_of (start b.model 0) [] events t.ticks t.made)

  -- ---- the first events of some

  pub record AreMadeInTwo (x : ExecutiveState) (events more : List Event) (reports : List TickReport) : Type 0 where
    pub middle : ExecutiveState
    pub last : ExecutiveState
    pub first : List TickReport
    pub rest : List TickReport
    pub made_first : Makes b answers x events middle first
    made_rest : Makes b answers middle more last rest
    pub split : reports ≡ first ++ rest

  pub made_in_two : (events more : List Event) (x z : ExecutiveState) (reports : List TickReport) → Makes b answers x (events ++ more) z reports → AreMadeInTwo x events more reports
  made_in_two [] more x z reports h = record { middle = x; last = z; first = []; rest = reports; made_first = (refl, refl); made_rest = h; split = refl }
  made_in_two (e ∷ events) more x z reports (w, report, others, act, made, split) =
      let h = made_in_two events more w z others made in
      record {
        middle = h.middle;
        last = h.last;
        first = option_to_list report ++ h.first;
        rest = h.rest;
        made_first = (w, report, h.first, act, h.made_first, refl);
        made_rest = h.made_rest;
        split = split ∙ ap (λ l. option_to_list report ++ l) h.split ∙ sym (append_assoc (option_to_list report) h.first h.rest);
      }
