-- What an executive keeps fits its model.
use Rattle.std.proofs.Common.{◌≡◌, ◌||◌, ◌==◌, ◌+◌, ℕ, Bool, true, false, IsTrue, List, [], ◌∷◌, ◌++◌, Option, Some, None, All, Contains, inl, inr, refl, sym, ap, subst, ◌∙◌, arith}
use Rattle.std.specs.Prelude.{IfSome}
use Rattle.std.proofs.lemmas.Bool.{false≢true, eqb-true, cases_eq, cases_Bool}
use Rattle.std.proofs.lemmas.List.Elements.{All-nil, All-cons, All-contains}
use Rattle.std.proofs.lemmas.List.Sorted.{All-permutation}
use Rattle.list_laws.proofs.Members.{all_from}
use Rattle.cca_base.specs.declared.cube.Pair.{Pair}
use Rattle.cca_base.specs.declared.events.Event.{Event}
use Rattle.cca_base.specs.declared.events.Event.TheVariants as event
use Rattle.cca_base.specs.declared.events.Shown.{Shown}
use Rattle.cca_base.specs.declared.events.Shown.TheVariants.{Estimated, Unexplained, Holding}
use Rattle.cca_base.specs.declared.events.TickReport.{TickReport}
use Rattle.cca_base.specs.PlantModel.{PlantModel}
use Rattle.cca_base.specs.Accepted.{CompiledModel, IsCompiled}
use Rattle.cca_base.specs.Model.{HasMode, is_broken}
use Rattle.cca_base.specs.Sets.{has, with_number}
use Rattle.cca_base.specs.Cube.{IsUnion, IsRising}
use Rattle.cca_base.specs.Orders.{IsSorted}
use Rattle.cca_base.specs.State.{IsState, HasValue}
use Rattle.cca_base.specs.Trace.{ExecutiveState, start, ReplyRule, Changes, MayBeGoal, MayBeObserved, MayBeSeen, MayCome, AllMayCome, TickShows, command_of}
use Rattle.cca_base.specs.Runs.{TickRecord, Ticks}
use Rattle.cca_base.proofs.SetLaws.{has-empty, has-with_number}
use Rattle.cca_base.proofs.NominalLaws.{nominal_is_free, moved}
use Rattle.trace_laws.specs.Events.{Acts}
use Rattle.trace_laws.specs.Fits.{IsKeptGoal, IsSensed, MayBePending, Fits}
use Rattle.trace_laws.specs.Laws.{EventsMayCome}
use Rattle.trace_laws.proofs.EventsJoin.{next_may_come}
use Rattle.cca_base.proofs.StartLaws.{start_state}

nothing_rises : IsRising []
nothing_rises = λ i j d before within. absurd (omega arith)

pub start_fits : (b : CompiledModel) (ticks : ℕ) → IsCompiled b → Fits b (start b.model ticks)
start_fits b ticks compiled = record {
  estimate = start_state b.model compiled.accepted.well_formed;
  plant = start_state b.model compiled.accepted.well_formed;
  rising = nothing_rises;
  pending = All-nil (MayBePending b.model 0);
  mirrors = λ v h. absurd (false≢true (sym (has-empty v) ∙ h));
  goal = tt;
  silent = λ h. refl;
}

kept_goal : (b : CompiledModel) (pairs goal : List Pair) → MayBeGoal b.model pairs → IsSorted b.order pairs goal → IsKeptGoal b goal
kept_goal b pairs goal may sorted = record {
  in_order = sorted.in_order;
  modes = All-permutation (λ p. HasMode b.model p.item p.value) pairs goal sorted.same may.modes;
  sound = All-permutation (λ p. is_broken b.model.moves p.item p.value ≡ false) pairs goal sorted.same may.sound;
}

sensed : (m : PlantModel) (pending : List Pair) (mirrored v : ℕ) → MayBeSeen m pending mirrored v → IsSensed m v
sensed m pending mirrored v h = (h.variable, h.of_model, h.sensed)

new_pending : (m : PlantModel) (pending : List Pair) (mirrored : ℕ) (pairs : List Pair) → MayBeObserved m pending mirrored pairs → (p : Pair) → Contains pairs p → MayBePending m mirrored p
new_pending m pending mirrored pairs may p among =
    let seen : MayBeSeen m pending mirrored p.item = All-contains (λ q. MayBeSeen m pending mirrored q.item) pairs p may.seen among in
    record { value = All-contains (λ q. HasValue m q.item q.value) pairs p may.values among; sensed = sensed m pending mirrored p.item seen; unmirrored = seen.unmirrored }

both_pending : (m : PlantModel) (pending : List Pair) (mirrored : ℕ) (pairs both : List Pair) → All (MayBePending m mirrored) pending → MayBeObserved m pending mirrored pairs
    → IsUnion (Contains pending) (Contains pairs) both → All (MayBePending m mirrored) both
both_pending m pending mirrored pairs both old may union = all_from (MayBePending m mirrored) both (λ p among. elim ((union.each p).0 among) [
  | inl before ↦ All-contains (MayBePending m mirrored) pending p old before
  | inr new ↦ new_pending m pending mirrored pairs may p new
])

false_test : (a v : ℕ) → (a ≡ v → ⊥) → (a == v) ≡ false
false_test a v ne = elim (cases_Bool (a == v)) [ inl e ↦ absurd (ne (eqb-true a v e)) | inr e ↦ e ]

still_pending : (m : PlantModel) (pending : List Pair) (mirrored v : ℕ) → MayBeSeen m pending mirrored v → All (MayBePending m mirrored) pending → All (MayBePending m (with_number mirrored v)) pending
still_pending m pending mirrored v may old = all_from (MayBePending m (with_number mirrored v)) pending (λ p among.
    let was : MayBePending m mirrored p = All-contains (MayBePending m mirrored) pending p old among in
    let other : p.item ≡ v → ⊥ = All-contains (λ q. q.item ≡ v → ⊥) pending p may.new among in
    record { value = was.value; sensed = was.sensed; unmirrored = has-with_number mirrored v p.item ∙ ap (λ z. z || has mirrored p.item) (false_test p.item v other) ∙ was.unmirrored })

all_mirrors : (m : PlantModel) (pending : List Pair) (mirrored v : ℕ) → MayBeSeen m pending mirrored v → ((u : ℕ) → IsTrue (has mirrored u) → IsSensed m u) → (u : ℕ) → IsTrue (has (with_number mirrored v) u) → IsSensed m u
all_mirrors m pending mirrored v may old u h = elim (cases_eq u v) [
  | inl e ↦ subst (IsSensed m) (sym e) (sensed m pending mirrored v may)
  | inr other ↦ old u (sym (has-with_number mirrored v u ∙ ap (λ z. z || has mirrored u) (false_test u v other)) ∙ h)
]

-- another goal
wants : (b : CompiledModel) (x : ExecutiveState) (goal : Option (List Pair)) → Fits b x → IfSome goal (IsKeptGoal b) → Fits b (record x { goal = goal })
wants b x goal h kept = record { estimate = h.estimate; plant = h.plant; rising = h.rising; pending = h.pending; mirrors = h.mirrors; goal = kept; silent = h.silent }

-- other observations pending, and other variables mirrored
knows : (b : CompiledModel) (x : ExecutiveState) (pending : List Pair) (mirrored : ℕ) → Fits b x → IsRising pending → All (MayBePending b.model mirrored) pending
    → ((v : ℕ) → IsTrue (has mirrored v) → IsSensed b.model v) → Fits b (record x { pending = pending; mirrored = mirrored })
knows b x pending mirrored h rises values mirrors =
    record { estimate = h.estimate; plant = h.plant; rising = rises; pending = values; mirrors = mirrors; goal = h.goal; silent = h.silent }

-- another estimate, plant and command, with nothing pending
counts : (b : CompiledModel) (x : ExecutiveState) (estimate plant : List ℕ) (command : Option ℕ) (holding : Bool) (ticks : ℕ) → Fits b x
    → IsState b.model estimate → IsState b.model plant → (IsTrue holding → command ≡ None)
    → Fits b (record x { estimate = estimate; command = command; plant = plant; pending = []; holding = holding; ticks = ticks })
counts b x estimate plant command holding ticks h state stands silent = record {
  estimate = state;
  plant = stands;
  rising = nothing_rises;
  pending = All-nil (MayBePending b.model x.mirrored);
  mirrors = h.mirrors;
  goal = h.goal;
  silent = silent;
}

module _ (b : CompiledModel) (compiled : IsCompiled b) where
  after_change : (x : ExecutiveState) (e : Event) (y : ExecutiveState) → Fits b x → MayCome b.model x.pending x.mirrored e → Changes b.model (IsSorted b.order) x e y → Fits b y
  after_change x (event.Goal pairs) y h may (goal, sorted, e) = subst (Fits b) (sym e) (wants b x (Some goal) h (kept_goal b pairs goal may sorted))
  after_change x event.Clear y h may e = subst (Fits b) (sym e) (wants b x None h tt)
  after_change x (event.Observe pairs) y h may (both, union, e) =
      subst (Fits b) (sym e) (knows b x both x.mirrored h union.rising (both_pending b.model x.pending x.mirrored pairs both h.pending may union) h.mirrors)
  after_change x (event.Fault p) y h may e = subst (Fits b) (sym e) (record {
    estimate = h.estimate;
    plant = moved b.model x.plant p.item p.value h.plant may;
    rising = h.rising;
    pending = h.pending;
    mirrors = h.mirrors;
    goal = h.goal;
    silent = h.silent;
  })
  after_change x (event.Mirror v) y h may e = subst (Fits b) (sym e)
      (knows b x x.pending (with_number x.mirrored v) h h.rising (still_pending b.model x.pending x.mirrored v may h.pending) (all_mirrors b.model x.pending x.mirrored v may h.mirrors))
  after_change x event.Reset y h may e = subst (Fits b) (sym e) (start_fits b x.ticks compiled)
  after_change x event.Tick y h may e = absurd e

  after_tick : (answers : ReplyRule) (x : ExecutiveState) (shown : Shown) (y : ExecutiveState) → Fits b x → TickShows b.model answers x shown y → Fits b y
  after_tick answers x (Estimated cost state reply) y h shows = subst (Fits b) (sym shows.after)
      (counts b x state.modes shows.plant (command_of reply) x.holding (x.ticks + 1) h shows.estimate.consistent.costs.state
      (nominal_is_free b.model x.plant shows.plant (command_of reply) compiled.accepted.well_formed h.plant shows.moves).state (λ holds. absurd (false≢true (sym shows.going ∙ holds))))
  after_tick answers x Unexplained y h shows = subst (Fits b) (sym shows.after) (counts b x x.estimate x.plant None true (x.ticks + 1) h h.estimate h.plant (λ holds. refl))
  after_tick answers x Holding y h shows = subst (Fits b) (sym shows.1) (counts b x x.estimate x.plant x.command x.holding (x.ticks + 1) h h.estimate h.plant h.silent)

  pub stays_fitting : (answers : ReplyRule) (x y : ExecutiveState) (e : Event) (report : Option TickReport) → Fits b x → MayCome b.model x.pending x.mirrored e → Acts b answers x e y report → Fits b y
  stays_fitting answers x y e None h may acts = after_change x e y h may acts
  stays_fitting answers x y e (Some report) h may acts = after_tick answers x report.shown y h acts.2

-- ---- the goals of a run

module _ (b : CompiledModel) (answers : ReplyRule) (compiled : IsCompiled b) where
  abbrev IsKept : TickRecord → Type 0
  IsKept t = IfSome t.before.goal (IsKeptGoal b)

  abbrev Come : ExecutiveState → List Event → Type 0
  Come x events = AllMayCome b.model (IsSorted b.order) x events

  -- after an event that is no tick all still fits, and the other events may come
  next_fits : (e : Event) (x y : ExecutiveState) (events : List Event) (ts : List TickRecord) → Fits b x → Come x (e ∷ events) → Acts b answers x e y None
      → (Fits b y → Come y events → All IsKept ts) → All IsKept ts
  next_fits e x y events ts h may change goes_on =
      let next = next_may_come b answers x e y None events change may in
      goes_on (stays_fitting b compiled answers x y e None h next.0 change) next.1

  goals_from : (events : List Event) (x : ExecutiveState) (since : List Event) (ts : List TickRecord) → Fits b x → Come x events → Ticks b answers x since events ts → All IsKept ts
  goals_from [] x since ts h may k = subst (All IsKept) (sym k) (All-nil IsKept)
  goals_from (event.Tick ∷ events) x since [] h may k = absurd k
  goals_from (event.Tick ∷ events) x since (t ∷ ts) h may (a, c, n, y, shows, rest) =
      let act : Acts b answers x event.Tick y (Some t.report) = (tt, n, shows) in
      All-cons IsKept t ts (subst (λ (s : ExecutiveState). IfSome s.goal (IsKeptGoal b)) (sym c) h.goal)
      (goals_from events y [] ts (stays_fitting b compiled answers x y event.Tick (Some t.report) h tt act) (next_may_come b answers x event.Tick y (Some t.report) events act may).1 rest)
  goals_from (event.Goal pairs ∷ events) x since ts h may (y, change, rest) = next_fits (event.Goal pairs) x y events ts h may change (λ f c. goals_from events y (since ++ event.Goal pairs ∷ []) ts f c rest)
  goals_from (event.Clear ∷ events) x since ts h may (y, change, rest) = next_fits event.Clear x y events ts h may change (λ f c. goals_from events y (since ++ event.Clear ∷ []) ts f c rest)
  goals_from (event.Observe pairs ∷ events) x since ts h may (y, change, rest) = next_fits (event.Observe pairs) x y events ts h may change (λ f c. goals_from events y (since ++ event.Observe pairs ∷ []) ts f c rest)
  goals_from (event.Fault p ∷ events) x since ts h may (y, change, rest) = next_fits (event.Fault p) x y events ts h may change (λ f c. goals_from events y (since ++ event.Fault p ∷ []) ts f c rest)
  goals_from (event.Mirror v ∷ events) x since ts h may (y, change, rest) = next_fits (event.Mirror v) x y events ts h may change (λ f c. goals_from events y (since ++ event.Mirror v ∷ []) ts f c rest)
  goals_from (event.Reset ∷ events) x since ts h may (y, change, rest) = next_fits event.Reset x y events ts h may change (λ f c. goals_from events y (since ++ event.Reset ∷ []) ts f c rest)

  pub goals_kept : (events : List Event) (ts : List TickRecord) → EventsMayCome b events → Ticks b answers (start b.model 0) [] events ts → All IsKept ts
  goals_kept events ts may made = goals_from events (start b.model 0) [] ts (start_fits b 0 compiled) may made
