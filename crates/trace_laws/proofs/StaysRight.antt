-- Right estimates stay right.
use Rattle.std.proofs.Common.{◌≡◌, ◌≤◌, ◌⊎◌, ℕ, false, List, [], ◌∷◌, ◌++◌, All, slice_get, inl, inr, refl, sym, ap, subst, ◌∙◌, arith}
use Rattle.std.proofs.lemmas.Bool.{false≢true}
use Rattle.std.proofs.lemmas.List.Elements.{All-head, All-tail}
use Rattle.cca_base.specs.declared.cube.Pair.{Pair}
use Rattle.cca_base.specs.declared.events.Event.{Event}
use Rattle.cca_base.specs.declared.events.Event.TheVariants as event
use Rattle.cca_base.specs.declared.events.Shown.{Shown}
use Rattle.cca_base.specs.declared.events.Shown.TheVariants.{Estimated, Unexplained, Holding}
use Rattle.cca_base.specs.PlantModel.{PlantModel}
use Rattle.cca_base.specs.Accepted.{CompiledModel}
use Rattle.cca_base.specs.Model.{WellFormed}
use Rattle.cca_base.specs.Orders.{IsSorted}
use Rattle.cca_base.specs.State.{IsState, IsWorld, Extends, start_modes}
use Rattle.cca_base.specs.Successors.{Nominal}
use Rattle.cca_base.specs.Estimates.{Consistent}
use Rattle.cca_base.specs.Goals.{IsGoodReply}
use Rattle.cca_base.specs.Trace.{ExecutiveState, start, ReplyRule, GoalOrder, Changes, Observed, command_of, TickShows}
use Rattle.cca_base.specs.Runs.{TickRecord, IsRight, HasEstimate, CostsNothing, LeavesPlantAlone, StartsAnew, ComesAfterRight, StaysRight}
use Rattle.std.proofs.lemmas.Option.{same_Some}
use Rattle.cca_base.proofs.NominalLaws.{one_nominal, nominal_is_free, stays}
use Rattle.cca_base.proofs.StartLaws.{start_state}
use Rattle.cca_laws.proofs.CostLaws.{free_is_nominal}
use Rattle.cca_laws.proofs.OneTrace.{one_seen}
use Rattle.trace_laws.specs.Events.{Becomes}
use Rattle.trace_laws.specs.Laws.{RightStaysRight}
use Rattle.trace_laws.proofs.TicksLink.{Linked, linked, came, Came}

-- ---- in step

-- the executive is not holding, and its plant stands where the last command takes its estimate
record IsInStep (m : PlantModel) (x : ExecutiveState) : Type 0 where
  pub going : x.holding ≡ false
  pub state : IsState m x.estimate
  pub nominal : Nominal m x.estimate x.command x.plant

starts : (m : PlantModel) (ticks : ℕ) → WellFormed m → IsInStep m (start m ticks)
starts m ticks good = record { going = refl; state = start_state m good; nominal = stays m (start_modes m) }

module _ (m : PlantModel) (ordering : GoalOrder) where
  one_event : (x : ExecutiveState) (e : Event) (y : ExecutiveState) → LeavesPlantAlone e → Changes m ordering x e y → IsInStep m x → IsInStep m y
  one_event x (event.Goal pairs) y leaves (goal, k, e) h = subst (IsInStep m) (sym e) (record { going = h.going; state = h.state; nominal = h.nominal })
  one_event x event.Clear y leaves e h = subst (IsInStep m) (sym e) (record { going = h.going; state = h.state; nominal = h.nominal })
  one_event x (event.Observe pairs) y leaves (both, k, e) h = subst (IsInStep m) (sym e) (record { going = h.going; state = h.state; nominal = h.nominal })
  one_event x (event.Fault p) y leaves e h = absurd leaves
  one_event x (event.Mirror v) y leaves e h = subst (IsInStep m) (sym e) (record { going = h.going; state = h.state; nominal = h.nominal })
  one_event x event.Reset y leaves e h = absurd leaves
  one_event x event.Tick y leaves e h = absurd e

  keeps_step : (x : ExecutiveState) (events : List Event) (y : ExecutiveState) → All LeavesPlantAlone events → Becomes m ordering x events y → IsInStep m x → IsInStep m y
  keeps_step x [] y all e h = subst (IsInStep m) (sym e) h
  keeps_step x (e ∷ events) y all (z, change, rest) h =
      keeps_step z events y (All-tail LeavesPlantAlone e events all) rest (one_event x e z (All-head LeavesPlantAlone e events all) change h)

  -- what comes after a reset comes from the start
  after_reset : (x : ExecutiveState) (before after : List Event) (y : ExecutiveState) → Becomes m ordering x (before ++ event.Reset ∷ after) y → (n : ℕ) × Becomes m ordering (start m n) after y
  after_reset x [] after y (z, e, h) = (x.ticks, subst (λ w. Becomes m ordering w after y) e h)
  after_reset x (e ∷ before) after y (z, change, h) = after_reset z before after y h

-- ---- ticks

module _ (m : PlantModel) (good : WellFormed m) (answers : ReplyRule) where
  -- a world of the plant agrees with what is observed
  abbrev Agrees : ExecutiveState → Type 0
  Agrees x = (seen w : List _) × Observed m x seen × IsWorld m x.plant w × Extends w seen

  plant_is_consistent : (x : ExecutiveState) (seen : List Pair) → IsInStep m x → Agrees x → Observed m x seen → Consistent m x.estimate x.command seen x.plant 0
  plant_is_consistent x seen h (other, w, observed, world, agrees) also = record {
    costs = nominal_is_free m x.estimate x.plant x.command good h.state h.nominal;
    world = w;
    is_world = world;
    agrees = subst (Extends w) (one_seen m x other seen observed also) agrees;
  }

  tick_in_step : (x : ExecutiveState) (shown : Shown) (y : ExecutiveState) → IsInStep m x → Agrees x → TickShows m answers x shown y → HasEstimate shown x.plant × CostsNothing shown
  tick_in_step x (Estimated cost state reply) y h agrees shows =
      let below : cost ≤ 0 = shows.estimate.least x.plant 0 (plant_is_consistent x shows.seen h agrees shows.observed) in
      let nothing : cost ≡ 0 = omega arith in
      let nominal : Nominal m x.estimate x.command state.modes = free_is_nominal m x.estimate state.modes x.command cost good h.state shows.estimate.consistent.costs nothing in
      (one_nominal m x.estimate x.command state.modes x.plant good.commands nominal h.nominal, nothing)
  tick_in_step x Unexplained y h agrees shows = absurd (shows.unexplained x.plant 0 (plant_is_consistent x shows.seen h agrees shows.observed))
  tick_in_step x Holding y h agrees shows = absurd (false≢true (sym h.going ∙ shows.0))

  -- a right tick leaves the executive in step
  after_right : (x : ExecutiveState) (shown : Shown) (y : ExecutiveState) → HasEstimate shown x.plant → TickShows m answers x shown y → IsInStep m y
  after_right x (Estimated cost state reply) y right shows = subst (IsInStep m) (sym shows.after) (record {
    going = shows.going;
    state = shows.estimate.consistent.costs.state;
    nominal = subst (λ s. Nominal m s (command_of reply) shows.plant) (sym right) shows.moves;
  })
  after_right x Unexplained y right shows = absurd right
  after_right x Holding y right shows = absurd right

-- ---- runs

module _ (b : CompiledModel) (good : WellFormed b.model) (answers : ReplyRule) (ticks : ℕ) (ts : List TickRecord) where
  abbrev Keeps : GoalOrder
  Keeps = IsSorted b.order

  fresh : (i : ℕ) (t : TickRecord) → Came b answers (start b.model ticks) ts i t → StartsAnew i t.since → IsInStep b.model t.before
  fresh i t c (inl (first, quiet)) = elim c.from [
    | inl (zero_at, comes) ↦ keeps_step b.model Keeps (start b.model ticks) t.since t.before quiet comes (starts b.model ticks good)
    | inr after ↦ absurd (omega (arith, first, after.next))
  ]
  fresh i t c (inr (before, after, split, quiet)) =
      let from : (x : ExecutiveState) × Becomes b.model Keeps x t.since t.before = elim c.from [ inl (first, comes) ↦ (start b.model ticks, comes) | inr late ↦ (late.led, late.comes) ] in
      let anew = after_reset b.model Keeps from.0 before after t.before (subst (λ l. Becomes b.model Keeps from.0 l t.before) split from.1) in
      keeps_step b.model Keeps (start b.model anew.0) after t.before quiet anew.1 (starts b.model anew.0 good)

  follows : (i : ℕ) (t : TickRecord) → Came b answers (start b.model ticks) ts i t → ComesAfterRight ts i t.since → IsInStep b.model t.before
  follows i t c (last, u, at, is, right, quiet) = elim c.from [
    | inl (first, comes) ↦ absurd (omega (arith, first, at))
    | inr after ↦
        let place : after.last ≡ last = omega (arith, after.next, at) in
        let same : after.tick ≡ u = same_Some after.tick u (sym after.at_last ∙ ap (slice_get ts) place ∙ is) in
        let led : IsInStep b.model after.led = after_right b.model good answers after.tick.before after.tick.report.shown after.led (subst IsRight (sym same) right) after.shows in
        keeps_step b.model Keeps after.led t.since t.before quiet after.comes led
  ]

  in_step : (i : ℕ) (t : TickRecord) → Came b answers (start b.model ticks) ts i t → (StartsAnew i t.since ⊎ ComesAfterRight ts i t.since) → IsInStep b.model t.before
  in_step i t c (inl anew) = fresh i t c anew
  in_step i t c (inr after) = follows i t c after

  pub stays_right : Linked b answers (start b.model ticks) ts → StaysRight b ts
  stays_right h i t at either seen =
      let c = came b answers (start b.model ticks) ts i t h at in
      tick_in_step b.model good answers t.before t.report.shown c.leads (in_step i t c either) seen c.shows

pub right_stays_right : RightStaysRight
right_stays_right b events reports compiled t =
    stays_right b compiled.accepted.well_formed (IsGoodReply b.model) 0 t.ticks (linked b (IsGoodReply b.model) events (start b.model 0) (start b.model 0) [] t.ticks refl t.made)
