-- Right and wrong estimates.
use Rattle.std.proofs.Common.{◌≡◌, ℕ, zero, suc, inl, inr, List, [], ◌∷◌, ◌++◌, All, Some, refl, sym, ap, subst, ◌∙◌, arith}
use Rattle.std.specs.Prelude.{slice_get}
use Rattle.std.proofs.lemmas.List.Elements.{All-get_or}
use Rattle.std.proofs.lemmas.Bool.{false≢true}
use Rattle.std.proofs.lemmas.Option.{same_Some, none-some}
use Rattle.cca_base.specs.declared.cube.Pair.{Pair}
use Rattle.cca_base.specs.declared.events.Event.{Event}
use Rattle.cca_base.specs.declared.events.Event.TheVariants as event
use Rattle.cca_base.specs.Cube.{IsRising}
use Rattle.cca_base.specs.Sets.{has}
use Rattle.cca_base.specs.Trace.{ExecutiveState, Observed}
use Rattle.cca_base.specs.Runs.{TickRecord, CanBeSeen, StartsAnew, LeavesPlantAlone}
use Rattle.cca_base.proofs.SetLaws.{has-empty}
use Rattle.list_laws.proofs.Few.{one_at}
use Rattle.cca_laws.proofs.ValveExamples.{start_world}
use Rattle.cca_laws.specs.ValveExamples.{valve_model}
use Rattle.cca_laws.specs.RightExamples.{no_flow, wrong_moment, faulty_moment, reset_moment, WrongIsNotRight, FaultsExcuse, ResetsEndExcuses, ResetKeepsTicks}

-- where nothing is mirrored, what is pending is observed
pub observed : (x : ExecutiveState) → x.mirrored ≡ 0 → IsRising x.pending → Observed valve_model x x.pending
observed x none rising = record {
  rising = rising;
  each = λ p. (
    λ among. inl among,
    λ h. elim h [ inl among ↦ among | inr shown ↦ absurd (false≢true (sym (ap (λ set. has set p.item) none ∙ has-empty p.item) ∙ shown.0)) ],
  );
}

pub one_rises : (p : Pair) → IsRising (p ∷ [])
one_rises p i j d lt h = absurd (omega arith)

pub can_be_seen : CanBeSeen valve_model wrong_moment
can_be_seen =
    let p : Pair = record { item = 0; value = 0 } in
    let agrees = one_at (λ (q : Pair). slice_get (0 ∷ []) q.item ≡ Some q.value) p refl in
    (no_flow, 0 ∷ [], observed wrong_moment.before refl (one_rises p), start_world, agrees)

pub wrong : ◌≡◌ {A = List ℕ} (1 ∷ 0 ∷ []) (0 ∷ 0 ∷ []) → ⊥
wrong e = absurd cc

pub wrong_is_not_right : WrongIsNotRight
wrong_is_not_right ways order bounds h =
    wrong (h 0 wrong_moment refl (inl (inl (refl, one_at LeavesPlantAlone (event.Observe no_flow) tt))) can_be_seen).0

-- neither does the tick start anew
fault_stays : (before after : List Event) → faulty_moment.since ≡ before ++ event.Reset ∷ after → ⊥
fault_stays [] after e = absurd cc
fault_stays (x ∷ []) after e = absurd cc
fault_stays (x ∷ y ∷ []) after e = absurd cc
fault_stays (x ∷ y ∷ z ∷ before) after e = absurd cc

faulty : (t : TickRecord) → faulty_moment ≡ t → StartsAnew 0 t.since → ⊥
faulty t e (inl x) = All-get_or LeavesPlantAlone faulty_moment.since 0 event.Reset (omega arith) (subst (λ (u : TickRecord). All LeavesPlantAlone u.since) (sym e) x.1)
faulty t e (inr x) = fault_stays x.0 x.1 (ap (λ (u : TickRecord). u.since) e ∙ x.2)

pub faults_excuse : FaultsExcuse
faults_excuse b zero t e (inl x) seen = absurd (faulty t (same_Some faulty_moment t e) x)
faults_excuse b zero t e (inr x) seen = absurd (omega (arith, x.2))
faults_excuse b (suc i) t e x seen = absurd (none-some t e)

pub resets_end_excuses : ResetsEndExcuses
resets_end_excuses ways order bounds h =
    wrong (
    h 0 reset_moment refl
    (inl (inr (event.Fault (record { item = 0; value = 0 }) ∷ [], event.Observe no_flow ∷ [], refl, one_at LeavesPlantAlone (event.Observe no_flow) tt)))
    can_be_seen
    ).0

pub reset_keeps_ticks : ResetKeepsTicks
reset_keeps_ticks m order x y e = ap (λ (z : ExecutiveState). z.ticks) e
