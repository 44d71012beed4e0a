-- The ticks of a run, one after the other.
use Rattle.std.proofs.Common.{◌≡◌, ◌⊎◌, ℕ, zero, suc, List, [], ◌∷◌, ◌++◌, Some, slice_get, inl, inr, refl, sym, ap, subst}
use Rattle.cca_base.specs.declared.events.Event.{Event}
use Rattle.cca_base.specs.declared.events.Event.TheVariants as event
use Rattle.cca_base.specs.PlantModel.{PlantModel}
use Rattle.cca_base.specs.Accepted.{CompiledModel}
use Rattle.cca_base.specs.Orders.{IsSorted}
use Rattle.cca_base.specs.Trace.{ExecutiveState, ReplyRule, GoalOrder, Changes, TickShows}
use Rattle.cca_base.specs.Runs.{TickRecord, Ticks}
use Rattle.std.proofs.lemmas.Option.{none-some, same_Some}
use Rattle.trace_laws.specs.Events.{Becomes}

-- one event more
becomes_more : (m : PlantModel) (ordering : GoalOrder) (x : ExecutiveState) (events : List Event) (y : ExecutiveState) (e : Event) (z : ExecutiveState)
    → Becomes m ordering x events y → Changes m ordering y e z → Becomes m ordering x (events ++ e ∷ []) z
becomes_more m ordering x [] y e z h k = (z, subst (λ w. Changes m ordering w e z) h k, refl)
becomes_more m ordering x (d ∷ events) y e z (w, change, h) k = (w, change, becomes_more m ordering w events y e z h k)

-- each tick comes by its events from where the tick before it led
abbrev pub Linked : CompiledModel → ReplyRule → ExecutiveState → List TickRecord → Type 0
Linked b answers x [] = Unit {0}
Linked b answers x (t ∷ ticks) =
    Becomes b.model (IsSorted b.order) x t.since t.before × (y : ExecutiveState) × TickShows b.model answers t.before t.report.shown y × Linked b answers y ticks

module _ (b : CompiledModel) (answers : ReplyRule) where
  abbrev Comes : ExecutiveState → List Event → ExecutiveState → Type 0
  Comes x since y = Becomes b.model (IsSorted b.order) x since y

  abbrev Shows : TickRecord → ExecutiveState → Type 0
  Shows t y = TickShows b.model answers t.before t.report.shown y

  pub linked : (events : List Event) (first x : ExecutiveState) (since : List Event) (ts : List TickRecord) → Comes first since x → Ticks b answers x since events ts → Linked b answers first ts
  linked [] first x since ts h k = subst (Linked b answers first) (sym k) tt
  linked (event.Tick ∷ events) first x since [] h k = absurd k
  linked (event.Tick ∷ events) first x since (t ∷ ts) h (a, c, n, y, shows, rest) = (
    subst (λ l. Comes first l t.before) (sym a) (subst (Comes first since) (sym c) h),
    y,
    subst (λ z. TickShows b.model answers z t.report.shown y) (sym c) shows,
    linked events y y [] ts refl rest,
  )
  linked (event.Goal pairs ∷ events) first x since ts h (y, change, rest) =
      linked events first y (since ++ event.Goal pairs ∷ []) ts (becomes_more b.model (IsSorted b.order) first since x (event.Goal pairs) y h change) rest
  linked (event.Clear ∷ events) first x since ts h (y, change, rest) =
      linked events first y (since ++ event.Clear ∷ []) ts (becomes_more b.model (IsSorted b.order) first since x event.Clear y h change) rest
  linked (event.Observe pairs ∷ events) first x since ts h (y, change, rest) =
      linked events first y (since ++ event.Observe pairs ∷ []) ts (becomes_more b.model (IsSorted b.order) first since x (event.Observe pairs) y h change) rest
  linked (event.Fault p ∷ events) first x since ts h (y, change, rest) =
      linked events first y (since ++ event.Fault p ∷ []) ts (becomes_more b.model (IsSorted b.order) first since x (event.Fault p) y h change) rest
  linked (event.Mirror v ∷ events) first x since ts h (y, change, rest) =
      linked events first y (since ++ event.Mirror v ∷ []) ts (becomes_more b.model (IsSorted b.order) first since x (event.Mirror v) y h change) rest
  linked (event.Reset ∷ events) first x since ts h (y, change, rest) =
      linked events first y (since ++ event.Reset ∷ []) ts (becomes_more b.model (IsSorted b.order) first since x event.Reset y h change) rest

  -- the tick before the one at i led to y, from where t came; or t is the first, and came from x
  pub record After (ts : List TickRecord) (i : ℕ) (t : TickRecord) : Type 0 where
    pub last : ℕ
    pub next : i ≡ suc last
    pub tick : TickRecord
    pub at_last : slice_get ts last ≡ Some tick
    pub led : ExecutiveState
    pub shows : Shows tick led
    pub comes : Comes led t.since t.before

  pub record Came (x : ExecutiveState) (ts : List TickRecord) (i : ℕ) (t : TickRecord) : Type 0 where
    pub from : ((i ≡ 0) × Comes x t.since t.before) ⊎ After ts i t
    pub leads : ExecutiveState
    pub shows : Shows t leads

  later : (x y : ExecutiveState) (u : TickRecord) (us : List TickRecord) (i : ℕ) (t : TickRecord) → Shows u y → Came y us i t → Came x (u ∷ us) (suc i) t
  later x y u us i t shows came = record {
    from = elim came.from [
      | inl first ↦ inr (record { last = 0; next = ap suc first.0; tick = u; at_last = refl; led = y; shows = shows; comes = first.1 })
      | inr after ↦ inr (record { last = suc after.last; next = ap suc after.next; tick = after.tick; at_last = after.at_last; led = after.led; shows = after.shows; comes = after.comes })
    ];
    leads = came.leads;
    shows = came.shows;
  }

  pub came : (x : ExecutiveState) (ts : List TickRecord) (i : ℕ) (t : TickRecord) → Linked b answers x ts → slice_get ts i ≡ Some t → Came x ts i t
  came x [] i t h e = absurd (none-some t e)
  came x (u ∷ us) zero t (comes, y, shows, rest) e =
      let same : u ≡ t = same_Some u t e in
      record { from = inl (refl, subst (λ v. Comes x v.since v.before) same comes); leads = y; shows = subst (λ v. Shows v y) same shows }
  came x (u ∷ us) (suc i) t (comes, y, shows, rest) e = later x y u us i t shows (came y us i t rest e)
