-- A valve whose flow is mirrored.
use Rattle.std.proofs.Common.{◌≡◌, ◌<◌, ℕ, zero, suc, true, false, if◌then◌else◌, List, [], ◌∷◌, Some, inl, inr, refl, sym, ap, ◌∙◌, arith}
use Rattle.std.specs.Prelude.{slice_get, slice_index}
use Rattle.std.proofs.lemmas.Bool.{false≢true}
use Rattle.std.proofs.lemmas.Option.{slice_get-get_or, none-some, same_Some}
use Rattle.cca_base.specs.declared.cube.Pair.{Pair}
use Rattle.cca_base.specs.declared.events.Event.TheVariants as event
use Rattle.cca_base.specs.Sets.{has}
use Rattle.cca_base.specs.State.{IsWorld}
use Rattle.cca_base.specs.Runs.{CanBeSeen, LeavesPlantAlone}
use Rattle.list_laws.proofs.Members.{contains_cases, contains_none, contains_here}
use Rattle.list_laws.proofs.Few.{one_at}
use Rattle.cca_laws.proofs.ValveExamples.{rule_is, start_world}
use Rattle.cca_laws.proofs.RightExamples.{wrong}
use Rattle.cca_laws.specs.Examples.{always_true}
use Rattle.cca_laws.specs.RightExamples.{no_flow}
use Rattle.cca_laws.specs.ValveExamples.{valve_model}
use Rattle.trace_laws.specs.Examples.{MirrorShowsFlow, MirroredIsNotRight, mirrored_record}

-- while the valve is closed, nothing flows
dry : (v : ℕ) → v < 2 → (if has 2 v then false else true) ≡ true → v ≡ 0
dry zero h e = refl
dry (suc zero) h e = absurd (false≢true e)
dry (suc (suc v)) h e = absurd (omega (arith, h))

closed_is_dry : (w : List ℕ) → IsWorld valve_model (0 ∷ 0 ∷ []) w → slice_get w 0 ≡ Some 0
closed_is_dry w world =
    let none : slice_index w 0 ≡ 0 = dry (slice_index w 0) (world.values 0 (omega arith)) (sym (rule_is (0 ∷ 0 ∷ []) w) ∙ world.rules 0 always_true (omega arith)) in
    slice_get-get_or w 0 0 (omega (arith, world.full)) ∙ ap Some none

-- the one value that any variable has in the world of the start
only_flow : (i v : ℕ) → slice_get (0 ∷ []) i ≡ Some v → (i ≡ 0) × (v ≡ 0)
only_flow zero v e = (refl, sym (same_Some 0 v e))
only_flow (suc i) v e = absurd (none-some v e)

pub mirror_shows_flow : MirrorShowsFlow
mirror_shows_flow = record {
  rising = λ i j d before within. absurd (omega arith);
  each = λ p. (
    λ among. elim (contains_cases (record { item = 0; value = 0 }) p [] among) [
      | inl e ↦ inr (ap (λ (q : Pair). has 1 q.item) (sym e), λ w world. ap (slice_get w) (ap (λ (q : Pair). q.item) (sym e)) ∙ closed_is_dry w world ∙ ap (λ (q : Pair). Some q.value) e)
      | inr none ↦ absurd (contains_none p none)
    ],
    λ either. elim either [
      | inl pending ↦ absurd (contains_none p pending)
      | inr (mirrored, one) ↦
          let flow = only_flow p.item p.value (one (0 ∷ []) start_world) in
          contains_here (record { item = 0; value = 0 }) p [] (λ i. record { item = sym flow.0 i; value = sym flow.1 i })
    ],
  );
}

can_be_seen : CanBeSeen valve_model mirrored_record
can_be_seen = (no_flow, 0 ∷ [], mirror_shows_flow, start_world, one_at (λ (p : Pair). slice_get (0 ∷ []) p.item ≡ Some p.value) (record { item = 0; value = 0 }) refl)

pub mirrored_is_not_right : MirroredIsNotRight
mirrored_is_not_right ways order bounds h = wrong (h 0 mirrored_record refl (inl (inl (refl, one_at LeavesPlantAlone (event.Mirror 0) tt))) can_be_seen).0
