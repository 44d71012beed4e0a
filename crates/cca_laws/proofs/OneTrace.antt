-- A trace is determined by its events.
use Rattle.std.proofs.Common.{◌≡◌, ◌+◌, ℕ, Bool, false, List, [], ◌∷◌, ◌++◌, length, map, count_by, cond, Option, Some, None, Contains, IsTrue, refl, sym, ap, subst, ◌∙◌, arith}
use Rattle.std.proofs.lemmas.Bool.{false≢true}
use Rattle.std.proofs.lemmas.List.{length-map}
use Rattle.std.proofs.lemmas.List.Sums.{sum_by-cons}
use Rattle.cca_base.specs.declared.cube.Pair.{Pair}
use Rattle.cca_base.specs.declared.events.Event.{Event}
use Rattle.cca_base.specs.declared.events.Event.TheVariants as event
use Rattle.cca_base.specs.declared.events.Reply.{Reply}
use Rattle.cca_base.specs.declared.events.Shown.{Shown}
use Rattle.cca_base.specs.declared.events.Shown.TheVariants.{Estimated, Unexplained, Holding}
use Rattle.cca_base.specs.declared.events.TickReport.{TickReport}
use Rattle.cca_base.specs.PlantModel.{PlantModel}
use Rattle.cca_base.specs.Model.{CommandsFit}
use Rattle.cca_base.specs.Accepted.{CompiledModel, IsCompiled}
use Rattle.cca_base.specs.Orders.{numbers_below, IsSorted}
use Rattle.cca_base.specs.Sets.{has}
use Rattle.cca_base.specs.Successors.{Nominal}
use Rattle.cca_base.specs.Estimates as estimates
use Rattle.cca_base.specs.Choice.{IsChosenReply}
use Rattle.cca_base.specs.Trace.{ExecutiveState, start, ReplyRule, GoalOrder, IsReply, Changes, HasOneValue, Observed, command_of, TickShows}
use Rattle.cca_base.specs.Runs.{TickRecord, Ticks, Trace}
use Rattle.cca_base.proofs.NominalLaws.{one_nominal}
use Rattle.cca_laws.proofs.OneOrder.{one_union, none_twice, one_sorted}
use Rattle.cca_laws.proofs.EstimateLaws.{one_estimate, never_both}
use Rattle.cca_laws.proofs.OnePick.{one_reply}
use Rattle.cca_laws.specs.Laws.{is_tick}

-- ---- ticks

abbrev IsOneReply : ReplyRule → Type 0
IsOneReply answers = (s : List ℕ) (goal : List Pair) (r t : Reply) → answers s goal r → answers s goal t → r ≡ t

one_reply_at : (answers : ReplyRule) → IsOneReply answers → (s : List ℕ) (goal : Option (List Pair)) (r t : Reply) → IsReply answers s goal r → IsReply answers s goal t → r ≡ t
one_reply_at answers one s None r t h k = h ∙ sym k
one_reply_at answers one s (Some goal) r t h k = one s goal r t h k

pub one_seen : (m : PlantModel) (x : ExecutiveState) (a b : List Pair) → Observed m x a → Observed m x b → a ≡ b
one_seen m x a b h k = one_union (Contains x.pending) (λ p. IsTrue (has x.mirrored p.item) × HasOneValue m x.plant p) a b h k

abbrev pub after_tick : ExecutiveState → List ℕ → Reply → List ℕ → ExecutiveState
after_tick x state reply plant = record x { estimate = state; command = command_of reply; plant = plant; pending = []; ticks = x.ticks + 1 }

abbrev SameEnd : Shown → ExecutiveState → Shown → ExecutiveState → Type 0
SameEnd shown y other z = (shown ≡ other) × (y ≡ z)

pub both_going : {X : Type 0} (b : Bool) → b ≡ false → IsTrue b → X
both_going b h k = absurd (false≢true (sym h ∙ k))

one_tick : (m : PlantModel) (answers : ReplyRule) → CommandsFit m.moves → IsOneReply answers → (x : ExecutiveState) (shown other : Shown) (y z : ExecutiveState)
    → TickShows m answers x shown y → TickShows m answers x other z → SameEnd shown y other z
one_tick m answers fit one x (Estimated cost state reply) (Estimated more there back) y z h k =
    let seen : h.seen ≡ k.seen = one_seen m x h.seen k.seen h.observed k.observed in
    let both = one_estimate m x.estimate x.command k.seen state.modes there.modes cost more (subst (λ l. estimates.Estimate m x.estimate x.command l state.modes cost) seen h.estimate) k.estimate in
    let answer : reply ≡ back = one_reply_at answers one there.modes x.goal reply back (subst (λ l. IsReply answers l x.goal reply) both.0 h.replies) k.replies in
    let plants : h.plant ≡ k.plant = one_nominal m x.plant (command_of back) h.plant k.plant fit (subst (λ r. Nominal m x.plant (command_of r) h.plant) answer h.moves) k.moves in
    ((λ i. Estimated (both.1 i) (record { modes = both.0 i }) (answer i)), h.after ∙ (λ i. after_tick x (both.0 i) (answer i) (plants i)) ∙ sym k.after)
one_tick m answers fit one x (Estimated cost state reply) Unexplained y z h k =
    let seen : k.seen ≡ h.seen = one_seen m x k.seen h.seen k.observed h.observed in
    absurd (never_both m x.estimate x.command h.seen state.modes cost h.estimate (subst (estimates.Unexplained m x.estimate x.command) seen k.unexplained))
one_tick m answers fit one x (Estimated cost state reply) Holding y z h k = both_going x.holding h.going k.0
one_tick m answers fit one x Unexplained (Estimated cost state reply) y z h k =
    let seen : h.seen ≡ k.seen = one_seen m x h.seen k.seen h.observed k.observed in
    absurd (never_both m x.estimate x.command k.seen state.modes cost k.estimate (subst (estimates.Unexplained m x.estimate x.command) seen h.unexplained))
one_tick m answers fit one x Unexplained Unexplained y z h k = (refl, h.after ∙ sym k.after)
one_tick m answers fit one x Unexplained Holding y z h k = both_going x.holding h.going k.0
one_tick m answers fit one x Holding (Estimated cost state reply) y z h k = both_going x.holding k.going h.0
one_tick m answers fit one x Holding Unexplained y z h k = both_going x.holding k.going h.0
one_tick m answers fit one x Holding Holding y z h k = (refl, h.1 ∙ sym k.1)

-- ---- events

abbrev IsOneGoalOrder : GoalOrder → Type 0
IsOneGoalOrder ordering = (pairs a b : List Pair) → ordering pairs a → ordering pairs b → a ≡ b

one_change : (m : PlantModel) (ordering : GoalOrder) → IsOneGoalOrder ordering → (x : ExecutiveState) (e : Event) (y z : ExecutiveState) → Changes m ordering x e y → Changes m ordering x e z → y ≡ z
one_change m ordering one x (event.Goal pairs) y z (a, h, e) (b, k, f) = e ∙ (λ i. record x { goal = Some (one pairs a b h k i) }) ∙ sym f
one_change m ordering one x event.Clear y z e f = e ∙ sym f
one_change m ordering one x (event.Observe pairs) y z (a, h, e) (b, k, f) = e ∙ (λ i. record x { pending = one_union (Contains x.pending) (Contains pairs) a b h k i }) ∙ sym f
one_change m ordering one x (event.Fault p) y z e f = e ∙ sym f
one_change m ordering one x (event.Mirror v) y z e f = e ∙ sym f
one_change m ordering one x event.Reset y z e f = e ∙ sym f
one_change m ordering one x event.Tick y z e f = absurd e

-- ---- runs

module _ (b : CompiledModel) (answers : ReplyRule) (fit : CommandsFit b.model.moves) (one : IsOneReply answers) (keeps : IsOneGoalOrder (IsSorted b.order)) where
  -- the situations after one event are one
  abbrev Next : Event → ExecutiveState → ExecutiveState → Type 0
  Next e x y = Changes b.model (IsSorted b.order) x e y

  next : (e : Event) (x y z : ExecutiveState) → Next e x y → Next e x z → z ≡ y
  next e x y z h k = one_change b.model (IsSorted b.order) keeps x e z y k h

  one_run : (events : List Event) (x : ExecutiveState) (since : List Event) (ts us : List TickRecord) → Ticks b answers x since events ts → Ticks b answers x since events us → ts ≡ us
  one_run [] x since ts us h k = h ∙ sym k
  one_run (event.Tick ∷ events) x since [] us h k = absurd h
  one_run (event.Tick ∷ events) x since (t ∷ ts) [] h k = absurd k
  one_run (event.Tick ∷ events) x since (t ∷ ts) (u ∷ us) (a, c, n, y, shows, rest) (d, e, l, z, other, more) =
      let same = one_tick b.model answers fit one x t.report.shown u.report.shown y z shows other in
      let rests : ts ≡ us = one_run events y [] ts us rest (subst (λ w. Ticks b answers w [] events us) (sym same.1) more) in
      let since_same : t.since ≡ u.since = a ∙ sym d in
      let before_same : t.before ≡ u.before = c ∙ sym e in
      let tick_same : t.report.tick ≡ u.report.tick = n ∙ sym l in
      λ i. record { since = since_same i; before = before_same i; report = record { tick = tick_same i; shown = same.0 i } } ∷ rests i
  one_run (event.Goal pairs ∷ events) x since ts us (y, h, rest) (z, k, more) =
      one_run events y (since ++ event.Goal pairs ∷ []) ts us rest (subst (λ w. Ticks b answers w (since ++ event.Goal pairs ∷ []) events us) (next (event.Goal pairs) x y z h k) more)
  one_run (event.Clear ∷ events) x since ts us (y, h, rest) (z, k, more) =
      one_run events y (since ++ event.Clear ∷ []) ts us rest (subst (λ w. Ticks b answers w (since ++ event.Clear ∷ []) events us) (next event.Clear x y z h k) more)
  one_run (event.Observe pairs ∷ events) x since ts us (y, h, rest) (z, k, more) =
      one_run events y (since ++ event.Observe pairs ∷ []) ts us rest (subst (λ w. Ticks b answers w (since ++ event.Observe pairs ∷ []) events us) (next (event.Observe pairs) x y z h k) more)
  one_run (event.Fault p ∷ events) x since ts us (y, h, rest) (z, k, more) =
      one_run events y (since ++ event.Fault p ∷ []) ts us rest (subst (λ w. Ticks b answers w (since ++ event.Fault p ∷ []) events us) (next (event.Fault p) x y z h k) more)
  one_run (event.Mirror v ∷ events) x since ts us (y, h, rest) (z, k, more) =
      one_run events y (since ++ event.Mirror v ∷ []) ts us rest (subst (λ w. Ticks b answers w (since ++ event.Mirror v ∷ []) events us) (next (event.Mirror v) x y z h k) more)
  one_run (event.Reset ∷ events) x since ts us (y, h, rest) (z, k, more) =
      one_run events y (since ++ event.Reset ∷ []) ts us rest (subst (λ w. Ticks b answers w (since ++ event.Reset ∷ []) events us) (next event.Reset x y z h k) more)

pub one_fixed_trace : (b : CompiledModel) (events : List Event) (reports others : List TickReport) → IsCompiled b → Trace b (IsChosenReply b) events reports → Trace b (IsChosenReply b) events others → reports ≡ others
one_fixed_trace b events reports others h t u =
    let once = none_twice b.model (numbers_below (length b.model.components)) b.order h.order in
    let same : t.ticks ≡ u.ticks = one_run b (IsChosenReply b) h.accepted.well_formed.commands (λ s. one_reply b s once) (λ pairs x y. one_sorted b.order pairs x y once) events (start b.model 0) [] t.ticks u.ticks t.made u.made in
    t.reported ∙ ap (map (λ z. z.report)) same ∙ sym u.reported

-- ---- how many ticks

-- one event more counts, if it is a tick
counted : (e : Event) (events : List Event) → count_by is_tick (e ∷ events) ≡ cond (is_tick e) 1 0 + count_by is_tick events
counted e events = sum_by-cons (λ x. cond (is_tick x) 1 0) e events

module _ (b : CompiledModel) (answers : ReplyRule) where
  many : (events : List Event) (x : ExecutiveState) (since : List Event) (ts : List TickRecord) → Ticks b answers x since events ts → length ts ≡ count_by is_tick events
  many [] x since ts h = ap length h
  many (event.Tick ∷ events) x since [] h = absurd h
  many (event.Tick ∷ events) x since (t ∷ ts) (a, c, n, y, shows, rest) = omega (arith, counted event.Tick events, many events y [] ts rest)
  many (event.Goal pairs ∷ events) x since ts (y, h, rest) = omega (arith, counted (event.Goal pairs) events, many events y (since ++ event.Goal pairs ∷ []) ts rest)
  many (event.Clear ∷ events) x since ts (y, h, rest) = omega (arith, counted event.Clear events, many events y (since ++ event.Clear ∷ []) ts rest)
  many (event.Observe pairs ∷ events) x since ts (y, h, rest) = omega (arith, counted (event.Observe pairs) events, many events y (since ++ event.Observe pairs ∷ []) ts rest)
  many (event.Fault p ∷ events) x since ts (y, h, rest) = omega (arith, counted (event.Fault p) events, many events y (since ++ event.Fault p ∷ []) ts rest)
  many (event.Mirror v ∷ events) x since ts (y, h, rest) = omega (arith, counted (event.Mirror v) events, many events y (since ++ event.Mirror v ∷ []) ts rest)
  many (event.Reset ∷ events) x since ts (y, h, rest) = omega (arith, counted event.Reset events, many events y (since ++ event.Reset ∷ []) ts rest)

pub as_many_as_ticks : (b : CompiledModel) (events : List Event) (reports : List TickReport) → Trace b (IsChosenReply b) events reports → length reports ≡ count_by is_tick events
as_many_as_ticks b events reports t = ap length t.reported ∙ length-map t.ticks (λ z. z.report) ∙ many b (IsChosenReply b) events (start b.model 0) [] t.ticks t.made
