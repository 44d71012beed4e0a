-- What comes first.
use Rattle.std.proofs.Common.{◌≡◌, ◌==◌, ◌<◌, ◌≤◌, ◌⊎◌, ◌+◌, ◌*◌, ℕ, zero, suc, Bool, inl, inr, true, not, List, [], ◌∷◌, length, Some, None, refl, sym, ap, subst, ◌∙◌, arith}
use Rattle.std.specs.Prelude.{slice_get, slice_index, IsTrue, if◌then◌else◌}
use Rattle.std.specs.List.{list_all}
use Rattle.std.proofs.lemmas.Bool.{false≢true, eqb-true}
use Rattle.list_laws.proofs.Places.{value_at}
use Rattle.cca_base.proofs.NominalLaws.{stays}
use Rattle.cca_base.specs.declared.cube.Pair.{Pair}
use Rattle.cca_base.specs.Formula.{truth}
use Rattle.cca_base.specs.Sets.{has}
use Rattle.cca_base.specs.Model.{HasMode}
use Rattle.cca_base.specs.State.{HasValue, Extends}
use Rattle.cca_base.specs.Successors.{HasFailure}
use Rattle.cca_base.specs.Estimates.{Consistent, IsEarlier}
use Rattle.list_laws.proofs.Few.{one_at, below_one, below_two}
use Rattle.cca_laws.proofs.EstimateLaws.{one_estimate}
use Rattle.cca_laws.proofs.FormulaExamples.{truth_mode, truth_iff, truth_both}
use Rattle.cca_laws.proofs.ValveExamples.{truth_flow}
use Rattle.cca_laws.proofs.SmallCosts.{sum_two, nominal_costs, failure_costs, each_failure, unmoved, part_from_start, costs_of_two}
use Rattle.cca_laws.proofs.ObservedExamples.{world}
use Rattle.cca_laws.specs.FormulaExamples.{mode_in, both}
use Rattle.cca_laws.specs.ValveExamples.{flow_in}
use Rattle.cca_laws.specs.ObservedExamples.{y_high}
use Rattle.cca_laws.specs.RightExamples.{no_flow}
use Rattle.cca_laws.specs.FirstExamples.{LesserWorldIsFirst, GreaterWorldIsNot, pipe_rule, pumping, PipeIsBurst, PumpIsNotDead}

-- ---- worlds

sees : (a : ℕ) → Extends (a ∷ 1 ∷ []) (y_high ∷ [])
sees a = one_at (λ (p : Pair). slice_get (a ∷ 1 ∷ []) p.item ≡ Some p.value) y_high refl

pairs_of_two : (s : List ℕ) → length s ≡ 2 → s ≡ slice_index s 0 ∷ slice_index s 1 ∷ []
pairs_of_two [] e = absurd (omega arith)
pairs_of_two (x ∷ []) e = absurd (omega arith)
pairs_of_two (x ∷ y ∷ []) e = refl
pairs_of_two (x ∷ y ∷ z ∷ s) e = absurd (omega arith)

-- no pair with a high second comes before low and high
none_earlier : (a : ℕ) → a < 2 → IsEarlier (a ∷ 1 ∷ []) (0 ∷ 1 ∷ []) → ⊥
none_earlier zero h before = absurd cc
none_earlier (suc zero) h before = absurd cc
none_earlier (suc (suc a)) h before = absurd (omega arith)

pub lesser_world_is_first : LesserWorldIsFirst
lesser_world_is_first = record {
  world = world 0 1 (omega arith) (omega arith);
  agrees = sees 0;
  first = λ other h agrees before.
      let high : slice_index other 1 ≡ 1 = value_at other 1 1 (agrees 0 y_high (omega arith)) in
      none_earlier (slice_index other 0) (h.values 0 (omega arith))
      (subst (λ (w : List ℕ). IsEarlier w (0 ∷ 1 ∷ [])) (pairs_of_two other h.full ∙ ap (λ v. slice_index other 0 ∷ v ∷ []) high) before);
}

pub greater_world_is_not : GreaterWorldIsNot
greater_world_is_not h = h.first (0 ∷ 1 ∷ []) (world 0 1 (omega arith) (omega arith)) (sees 0) refl

-- ---- estimates

abbrev flows : ℕ → ℕ → Bool
flows a b = list_all (λ x. x) (has 1 a ∷ has 1 b ∷ [])

pipe_is : (s w : List ℕ) → truth s w pipe_rule ≡ (if has 2 (slice_index w 0) then flows (slice_index s 0) (slice_index s 1) else not (flows (slice_index s 0) (slice_index s 1)))
pipe_is s w =
    truth_iff s w (flow_in 2) (both (mode_in 0 1) (mode_in 1 1)) _ _ (truth_flow s w 2) (truth_both s w (mode_in 0 1) (mode_in 1 1) _ _ (truth_mode s w 0 1) (truth_mode s w 1 1))

pump_cost : (k : ℕ) → HasFailure pumping 0 0 1 k → k ≡ 5
pump_cost k h = eqb-true k 5 (each_failure pumping (λ x. x == 5) 0 0 1 refl k h)

pipe_cost : (k : ℕ) → HasFailure pumping 1 0 1 k → k ≡ 5
pipe_cost k h = eqb-true k 5 (each_failure pumping (λ x. x == 5) 1 0 1 refl k h)

-- where nothing flows one of them has failed; at cost 5 only one
one_failed : (a b cost : ℕ) → a < 2 → b < 2 → cost ≡ 5 * a + 5 * b → not (flows a b) ≡ true
    → ((cost ≡ 5) × (((a ≡ 0) × (b ≡ 1)) ⊎ ((a ≡ 1) × (b ≡ 0)))) ⊎ (6 ≤ cost)
one_failed zero zero cost h k e off = absurd (false≢true off)
one_failed zero (suc b) cost h k e off = inl (omega (arith, e, k), inl (refl, omega (arith, k)))
one_failed (suc a) zero cost h k e off = inl (omega (arith, e, h), inr (omega (arith, h), refl))
one_failed (suc a) (suc b) cost h k e off = inr (omega (arith, e))

abbrev Guessed : List ℕ → ℕ → Type 0
Guessed other cost = ((cost ≡ 5) × ((other ≡ 0 ∷ 1 ∷ []) ⊎ (other ≡ 1 ∷ 0 ∷ []))) ⊎ (6 ≤ cost)

guessed : (other : List ℕ) (cost : ℕ) → Consistent pumping (0 ∷ 0 ∷ []) None no_flow other cost → Guessed other cost
guessed other cost h =
    let a : ℕ = slice_index other 0 in
    let b : ℕ = slice_index other 1 in
    let full : length other ≡ 2 = h.costs.state.full in
    let la : a < 2 = h.costs.state.modes 0 (omega arith) in
    let lb : b < 2 = h.costs.state.modes 1 (omega arith) in
    let part = part_from_start pumping (0 ∷ 0 ∷ []) other cost h.costs in
    let pa : slice_index h.costs.parts 0 ≡ 5 * a = part 0 5 (omega (arith, full)) refl la pump_cost in
    let pb : slice_index h.costs.parts 1 ≡ 5 * b = part 1 5 (omega (arith, full)) refl lb pipe_cost in
    let total : cost ≡ 5 * a + 5 * b = h.costs.total ∙ sum_two h.costs.parts (h.costs.full ∙ full) ∙ omega arith in
    let seen : slice_index h.world 0 ≡ 0 = value_at h.world 0 0 (h.agrees 0 (record { item = 0; value = 0 }) (omega arith)) in
    let off : not (flows a b) ≡ true = subst (λ (v : ℕ). (if has 2 v then flows a b else not (flows a b)) ≡ true) seen (sym (pipe_is other h.world) ∙ h.is_world.rules 0 pipe_rule (omega arith)) in
    let whole : other ≡ a ∷ b ∷ [] = pairs_of_two other full in
    elim (one_failed a b cost la lb total off) [
      | inl (e, inl (x, y)) ↦ inl (e, inl (whole ∙ (λ i. x i ∷ y i ∷ [])))
      | inl (e, inr (x, y)) ↦ inl (e, inr (whole ∙ (λ i. x i ∷ y i ∷ [])))
      | inr more ↦ inr more
    ]

least : (other : List ℕ) (cost : ℕ) → Guessed other cost → 5 ≤ cost
least other cost (inl x) = omega (arith, x.0)
least other cost (inr x) = omega arith

not_before_itself : IsEarlier (0 ∷ 1 ∷ []) (0 ∷ 1 ∷ []) → ⊥
not_before_itself h = absurd cc

not_before : IsEarlier (1 ∷ 0 ∷ []) (0 ∷ 1 ∷ []) → ⊥
not_before h = absurd cc

first : (other : List ℕ) → Guessed other 5 → IsEarlier other (0 ∷ 1 ∷ []) → ⊥
first other (inl (e, inl same)) before = not_before_itself (subst (λ (s : List ℕ). IsEarlier s (0 ∷ 1 ∷ [])) same before)
first other (inl (e, inr same)) before = not_before (subst (λ (s : List ℕ). IsEarlier s (0 ∷ 1 ∷ [])) same before)
first other (inr x) before = absurd (omega arith)

pub pipe_is_burst : PipeIsBurst
pipe_is_burst = record {
  consistent = record {
    costs = (costs_of_two pumping None (0 ∷ 0 ∷ []) (0 ∷ 0 ∷ []) (0 ∷ 1 ∷ []) 0 5
        (record { full = refl; modes = below_two (λ c. HasMode pumping c (slice_index (0 ∷ 1 ∷ []) c)) (omega arith) (omega arith) }) refl
        (stays pumping (0 ∷ 0 ∷ [])) (unmoved pumping (0 ∷ 0 ∷ [])) (nominal_costs pumping 0 0 0)
        (failure_costs pumping 1 0 0 1 5 (λ e. omega (arith, e)) (1, omega arith, refl) (λ other h. omega (arith, pipe_cost other h))) 5).1 refl;
    world = 0 ∷ [];
    is_world = record {
      full = refl;
      values = below_one (λ v. HasValue pumping v (slice_index (0 ∷ []) v)) (omega arith);
      rules = one_at (λ rule. IsTrue (truth (0 ∷ 1 ∷ []) (0 ∷ []) rule)) pipe_rule (pipe_is (0 ∷ 1 ∷ []) (0 ∷ []));
    };
    agrees = one_at (λ (p : Pair). slice_get (0 ∷ []) p.item ≡ Some p.value) (record { item = 0; value = 0 }) refl;
  };
  least = λ other cost h. least other cost (guessed other cost h);
  first = λ other h. first other (guessed other 5 h);
}

heads_differ : ◌≡◌ {A = List ℕ} (0 ∷ 1 ∷ []) (1 ∷ 0 ∷ []) → ⊥
heads_differ e = absurd cc

pub pump_is_not_dead : PumpIsNotDead
pump_is_not_dead cost h = heads_differ (one_estimate pumping (0 ∷ 0 ∷ []) None no_flow (0 ∷ 1 ∷ []) (1 ∷ 0 ∷ []) 5 cost pipe_is_burst h).0
