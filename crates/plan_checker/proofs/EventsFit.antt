-- What a checker keeps fits its model after each event, and what is pending stays unmirrored.
use Rattle.std.proofs.Common.{◌≡◌, ◌≢◌, ◌<◌, ◌||◌, ℕ, false, IsTrue, List, [], Option, Some, None, IfSome, length, All, Contains, inl, inr, sym, ap, subst, ◌∙◌, arith}
use Rattle.std.proofs.lemmas.Bool.{false≢true, cases_eq, ne_eqb}
use Rattle.std.proofs.lemmas.List.Elements.{All-nil, All-contains}
use Rattle.std.proofs.lemmas.Option.{slice_get_within}
use Rattle.list_laws.proofs.Members.{all_from}
use Rattle.cca_base.specs.declared.cube.Pair.{Pair}
use Rattle.cca_base.specs.declared.events.Event.{Event}
use Rattle.cca_base.specs.declared.events.Event.TheVariants as event
use Rattle.cca_base.specs.PlantModel.{PlantModel}
use Rattle.cca_base.specs.Cube.{IsUnion}
use Rattle.cca_base.specs.Model.{WellFormed, HasMode}
use Rattle.cca_base.specs.Sets.{has, with_number}
use Rattle.cca_base.specs.State.{HasValue}
use Rattle.cca_base.specs.Trace.{ExecutiveState, start, Changes, MayCome, MayBeSeen, MayBeObserved}
use Rattle.cca_base.proofs.NominalLaws.{moved}
use Rattle.cca_base.proofs.SetLaws.{has-empty, has-with_number}
use Rattle.cca_base.proofs.StartLaws.{start_state}
use Rattle.trace_laws.specs.Events.{AsGiven}
use Rattle.consistency.proofs.ObservedPairs.{observed_values}
use Rattle.plan_checker.specs.Standing.{FitsModel, KeepsPending}

pub start_fits : (m : PlantModel) (ticks : ℕ) → WellFormed m → FitsModel m (start m ticks)
start_fits m ticks good = record {
  estimate = start_state m good;
  plant = start_state m good;
  command = tt;
  pending = All-nil (λ (p : Pair). HasValue m p.item p.value);
  mirrored = λ v h. absurd (false≢true (sym (has-empty v) ∙ h));
  goal = tt;
}

nothing_pending : (x : ExecutiveState) → x.pending ≡ [] → KeepsPending x
nothing_pending x none = record {
  rising = λ i j d before within. absurd (omega (arith, ap length none, within));
  unmirrored = λ k d within. absurd (omega (arith, ap length none, within));
}

-- ---- what is pending and mirrored

module _ (m : PlantModel) (pending : List Pair) (mirrored : ℕ) where
  both_unmirrored : (pairs both : List Pair) → MayBeObserved m pending mirrored pairs → IsUnion (Contains pending) (Contains pairs) both
      → All (λ p. has mirrored p.item ≡ false) pending → All (λ p. has mirrored p.item ≡ false) both
  both_unmirrored pairs both may union old = all_from (λ p. has mirrored p.item ≡ false) both (λ p among. elim ((union.each p).0 among) [
    | inl before ↦ All-contains (λ q. has mirrored q.item ≡ false) pending p old before
    | inr new ↦ (All-contains (λ q. MayBeSeen m pending mirrored q.item) pairs p may.seen new).unmirrored
  ])

  still_unmirrored : (v : ℕ) → MayBeSeen m pending mirrored v → All (λ p. has mirrored p.item ≡ false) pending → All (λ p. has (with_number mirrored v) p.item ≡ false) pending
  still_unmirrored v may old = all_from (λ p. has (with_number mirrored v) p.item ≡ false) pending (λ p among.
      let other : p.item ≢ v = All-contains (λ q. q.item ≢ v) pending p may.new among in
      has-with_number mirrored v p.item ∙ ap (λ z. z || has mirrored p.item) (ne_eqb p.item v other) ∙ All-contains (λ q. has mirrored q.item ≡ false) pending p old among)

  mirrored_within : (v : ℕ) → MayBeSeen m pending mirrored v → ((u : ℕ) → IsTrue (has mirrored u) → u < length m.variables)
      → (u : ℕ) → IsTrue (has (with_number mirrored v) u) → u < length m.variables
  mirrored_within v may old u h = elim (cases_eq u v) [
    | inl e ↦ subst (λ w. w < length m.variables) (sym e) (slice_get_within m.variables v may.variable may.of_model)
    | inr other ↦ old u (sym (has-with_number mirrored v u ∙ ap (λ z. z || has mirrored u) (ne_eqb u v other)) ∙ h)
  ]

-- ---- events

-- another goal
wants : (m : PlantModel) (x : ExecutiveState) (goal : Option (List Pair)) → FitsModel m x → IfSome goal (All (λ p. HasMode m p.item p.value)) → FitsModel m (record x { goal = goal })
wants m x goal h modes = record { estimate = h.estimate; plant = h.plant; command = h.command; pending = h.pending; mirrored = h.mirrored; goal = modes }

-- other observations pending, and other variables mirrored
knows : (m : PlantModel) (x : ExecutiveState) (pending : List Pair) (mirrored : ℕ) → FitsModel m x → All (λ p. HasValue m p.item p.value) pending
    → ((v : ℕ) → IsTrue (has mirrored v) → v < length m.variables) → FitsModel m (record x { pending = pending; mirrored = mirrored })
knows m x pending mirrored h values within = record { estimate = h.estimate; plant = h.plant; command = h.command; pending = values; mirrored = within; goal = h.goal }

pub event_fits : (m : PlantModel) (x : ExecutiveState) (e : Event) (y : ExecutiveState) → WellFormed m → FitsModel m x → MayCome m x.pending x.mirrored e → Changes m AsGiven x e y → FitsModel m y
event_fits m x (event.Goal pairs) y good h may (goal, given, e) =
    subst (FitsModel m) (sym e) (wants m x (Some goal) h (subst (All (λ p. HasMode m p.item p.value)) (sym given) may.modes))
event_fits m x event.Clear y good h may e = subst (FitsModel m) (sym e) (wants m x None h tt)
event_fits m x (event.Observe pairs) y good h may (both, union, e) =
    subst (FitsModel m) (sym e) (knows m x both x.mirrored h (observed_values m x.pending pairs both h.pending may.values union) h.mirrored)
event_fits m x (event.Fault p) y good h may e = subst (FitsModel m) (sym e)
    (record { estimate = h.estimate; plant = moved m x.plant p.item p.value h.plant may; command = h.command; pending = h.pending; mirrored = h.mirrored; goal = h.goal })
event_fits m x (event.Mirror v) y good h may e =
    subst (FitsModel m) (sym e) (knows m x x.pending (with_number x.mirrored v) h h.pending (mirrored_within m x.pending x.mirrored v may h.mirrored))
event_fits m x event.Reset y good h may e = subst (FitsModel m) (sym e) (start_fits m x.ticks good)
event_fits m x event.Tick y good h may e = absurd e

pub event_keeps : (m : PlantModel) (x : ExecutiveState) (e : Event) (y : ExecutiveState) → KeepsPending x → MayCome m x.pending x.mirrored e → Changes m AsGiven x e y → KeepsPending y
event_keeps m x (event.Goal pairs) y h may (goal, given, e) = subst KeepsPending (sym e) (record { rising = h.rising; unmirrored = h.unmirrored })
event_keeps m x event.Clear y h may e = subst KeepsPending (sym e) (record { rising = h.rising; unmirrored = h.unmirrored })
event_keeps m x (event.Observe pairs) y h may (both, union, e) =
    subst KeepsPending (sym e) (record { rising = union.rising; unmirrored = both_unmirrored m x.pending x.mirrored pairs both may union h.unmirrored })
event_keeps m x (event.Fault p) y h may e = subst KeepsPending (sym e) (record { rising = h.rising; unmirrored = h.unmirrored })
event_keeps m x (event.Mirror v) y h may e =
    subst KeepsPending (sym e) (record { rising = h.rising; unmirrored = still_unmirrored m x.pending x.mirrored v may h.unmirrored })
event_keeps m x event.Reset y h may e = nothing_pending y (ap (λ (z : ExecutiveState). z.pending) e)
event_keeps m x event.Tick y h may e = absurd e
