-- Costs of small models.
use Rattle.std.proofs.Common.{◌≡◌, ◌==◌, ◌<◌, ◌≤◌, ◌⊎◌, ℕ, ◌+◌, ◌*◌, zero, suc, Bool, inl, inr, true, not, List, [], ◌∷◌, length, sum, Some, None, refl, sym, ap, subst, ◌∙◌, arith}
use Rattle.std.specs.Prelude.{slice_get, slice_index, slice_set, IsTrue, nat_le, if◌then◌else◌}
use Rattle.std.specs.List.{list_all, list_any}
use Rattle.std.proofs.lemmas.Bool.{false≢true, eqb-true, leb-true}
use Rattle.std.proofs.lemmas.Option.{same_Some}
use Rattle.list_laws.proofs.Places.{value_at}
use Rattle.cca_base.proofs.NominalLaws.{stays}
use Rattle.cca_base.specs.declared.cube.Pair.{Pair}
use Rattle.cca_base.specs.declared.model.Move.{Move}
use Rattle.cca_base.specs.declared.model.Failure.{Failure}
use Rattle.cca_base.specs.PlantModel.{PlantModel}
use Rattle.cca_base.specs.Formula.{truth}
use Rattle.cca_base.specs.Sets.{has}
use Rattle.cca_base.specs.Model.{HasMode}
use Rattle.cca_base.specs.State.{IsState, HasValue}
use Rattle.cca_base.specs.Successors.{Nominal, IsCommanded, ChangeCosts, HasFailure}
use Rattle.cca_base.specs.Estimates.{Consistent, IsEarlier}
use Rattle.list_laws.proofs.Few.{one_at, below_one, below_two, below_three}
use Rattle.cca_laws.proofs.SmallCosts.{nominal_costs, failure_costs, each_failure, unmoved, part_from_start, costs_of_two}
use Rattle.cca_laws.proofs.FormulaExamples.{truth_mode, truth_iff, truth_both, truth_either}
use Rattle.cca_laws.proofs.ValveExamples.{truth_flow, open_is_the_one}
use Rattle.cca_laws.specs.FormulaExamples.{mode_in, both, either}
use Rattle.cca_laws.specs.ValveExamples.{flow_in, valve_model, open_move}
use Rattle.cca_laws.specs.CostExamples.{falling_open, staying_shut, stuck_twice, poor_rule, three, OpeningIsFree, StayingShutCosts, StandingIsFree, LesserFailureCounts, TwoForOne}

sum_three : (parts : List ℕ) → length parts ≡ 3 → sum parts ≡ slice_index parts 0 + slice_index parts 1 + slice_index parts 2
sum_three [] e = absurd (omega arith)
sum_three (x ∷ []) e = absurd (omega arith)
sum_three (x ∷ y ∷ []) e = absurd (omega arith)
sum_three (x ∷ y ∷ z ∷ []) e = omega arith
sum_three (x ∷ y ∷ z ∷ u ∷ parts) e = absurd (omega arith)

module _ (failure : Failure) where
  abbrev failing : PlantModel
  failing = record valve_model { failures = record { component = 1; source = 0; target = 2; cost = 4 } ∷ record { component = 1; source = 1; target = 2; cost = 6 } ∷ failure ∷ [] }

  two_modes : (mode : ℕ) → mode < 3 → IsState failing (1 ∷ mode ∷ [])
  two_modes mode h = record { full = refl; modes = below_two (λ c. HasMode failing c (slice_index (1 ∷ mode ∷ []) c)) (omega arith) h }

  commanded : IsCommanded failing (1 ∷ 0 ∷ []) (Some 2) open_move
  commanded = record { of_model = (2, omega arith, refl); command = refl; source = refl; guard = λ w world. truth_mode (1 ∷ 0 ∷ []) w 0 2 }

  opened : (nominal : List ℕ) → Nominal failing (1 ∷ 0 ∷ []) (Some 2) nominal → nominal ≡ 1 ∷ 1 ∷ []
  opened nominal h = elim h [
    | inl x ↦ x.2 ∙ ap (λ (y : Move). slice_set (1 ∷ 0 ∷ []) y.component y.target) (sym (open_is_the_one x.0 (sym (same_Some 2 x.0.command x.1.command)) x.1.of_model))
    | inr x ↦ absurd (x.0 open_move commanded)
  ]

abbrev opening_by_itself : Failure
opening_by_itself = record { component = 1; source = 0; target = 1; cost = 3 }

pub opening_is_free : OpeningIsFree
opening_is_free = costs_of_two falling_open (Some 2) (1 ∷ 0 ∷ []) (1 ∷ 1 ∷ []) (1 ∷ 1 ∷ []) 0 0 (two_modes opening_by_itself 1 (omega arith)) refl
    (inl (open_move, commanded opening_by_itself, refl)) (opened opening_by_itself) (nominal_costs falling_open 0 1 1) (nominal_costs falling_open 1 0 1)

abbrev staying_by_itself : Failure
staying_by_itself = record { component = 1; source = 0; target = 0; cost = 3 }

pub staying_shut_costs : StayingShutCosts
staying_shut_costs = costs_of_two staying_shut (Some 2) (1 ∷ 0 ∷ []) (1 ∷ 1 ∷ []) (1 ∷ 0 ∷ []) 0 3 (two_modes staying_by_itself 0 (omega arith)) refl
    (inl (open_move, commanded staying_by_itself, refl)) (opened staying_by_itself) (nominal_costs staying_shut 0 1 1)
    (failure_costs staying_shut 1 0 1 0 3 (λ e. omega (arith, e)) (2, omega arith, refl) (λ other h. leb-true 3 other (each_failure staying_shut (nat_le 3) 1 0 0 refl other h)))

pub standing_is_free : StandingIsFree
standing_is_free = costs_of_two staying_shut None (1 ∷ 0 ∷ []) (1 ∷ 0 ∷ []) (1 ∷ 0 ∷ []) 0 0 (two_modes staying_by_itself 0 (omega arith)) refl
    (stays staying_shut (1 ∷ 0 ∷ [])) (unmoved staying_shut (1 ∷ 0 ∷ [])) (nominal_costs staying_shut 0 1 1) (nominal_costs staying_shut 1 0 0)

-- of two failures between the same modes the cheaper counts
pub lesser_failure_counts : LesserFailureCounts
lesser_failure_counts = costs_of_two stuck_twice None (0 ∷ 0 ∷ []) (0 ∷ 0 ∷ []) (0 ∷ 2 ∷ []) 0 4
    (record { full = refl; modes = below_two (λ c. HasMode stuck_twice c (slice_index (0 ∷ 2 ∷ []) c)) (omega arith) (omega arith) }) refl
    (stays stuck_twice (0 ∷ 0 ∷ [])) (unmoved stuck_twice (0 ∷ 0 ∷ [])) (nominal_costs stuck_twice 0 0 0)
    (failure_costs stuck_twice 1 0 0 2 4 (λ e. omega (arith, e)) (0, omega arith, refl) (λ other h. leb-true 4 other (each_failure stuck_twice (nat_le 4) 1 0 2 refl other h)))

-- ---- the estimate

abbrev is_poor : ℕ → ℕ → ℕ → Bool
is_poor a b c = list_any (λ x. x) (list_all (λ x. x) (has 2 a ∷ has 2 b ∷ []) ∷ has 2 c ∷ [])

poor_is : (s w : List ℕ) → truth s w poor_rule ≡ (if has 2 (slice_index w 0) then is_poor (slice_index s 0) (slice_index s 1) (slice_index s 2) else not (is_poor (slice_index s 0) (slice_index s 1) (slice_index s 2)))
poor_is s w =
    truth_iff s w (flow_in 2) (either (both (mode_in 0 2) (mode_in 1 2)) (mode_in 2 2)) _ _ (truth_flow s w 2)
    (truth_either s w (both (mode_in 0 2) (mode_in 1 2)) (mode_in 2 2) _ _
    (truth_both s w (mode_in 0 2) (mode_in 1 2) _ _ (truth_mode s w 0 2) (truth_mode s w 1 2)) (truth_mode s w 2 2))

-- who is to blame
culprits : (a b c : ℕ) → a < 2 → is_poor a b c ≡ true → ((0 < a) × (0 < b)) ⊎ (0 < c)
culprits (suc a) (suc b) c h e = inl (omega arith, omega arith)
culprits (suc zero) zero zero h e = absurd (false≢true e)
culprits (suc (suc a)) zero zero h e = absurd (omega arith)
culprits (suc a) zero (suc c) h e = inr (omega arith)
culprits zero b zero h e = absurd (false≢true e)
culprits zero b (suc c) h e = inr (omega arith)

-- nothing is cheaper than p and q
weigh : (a b c more : ℕ) → a < 2 → b < 2 → c < 2 → more ≡ 4 * a + 6 * b + 11 * c → ((0 < a) × (0 < b)) ⊎ (0 < c)
    → ((more ≡ 10) × (a ≡ 1) × (b ≡ 1) × (c ≡ 0)) ⊎ (11 ≤ more)
weigh a b zero more h k l e (inl x) = inl (omega (arith, x.0, x.1), omega (arith, x.0), omega (arith, x.1), refl)
weigh a b zero more h k l e (inr x) = absurd (omega arith)
weigh a b (suc c) more h k l e x = inr (omega arith)

p_cost : (k : ℕ) → HasFailure three 0 0 1 k → k ≡ 4
p_cost k h = eqb-true k 4 (each_failure three (λ x. x == 4) 0 0 1 refl k h)

q_cost : (k : ℕ) → HasFailure three 1 0 1 k → k ≡ 6
q_cost k h = eqb-true k 6 (each_failure three (λ x. x == 6) 1 0 1 refl k h)

r_cost : (k : ℕ) → HasFailure three 2 0 1 k → k ≡ 11
r_cost k h = eqb-true k 11 (each_failure three (λ x. x == 11) 2 0 1 refl k h)

three_of : (s : List ℕ) → length s ≡ 3 → s ≡ slice_index s 0 ∷ slice_index s 1 ∷ slice_index s 2 ∷ []
three_of [] e = absurd (omega arith)
three_of (x ∷ []) e = absurd (omega arith)
three_of (x ∷ y ∷ []) e = absurd (omega arith)
three_of (x ∷ y ∷ z ∷ []) e = refl
three_of (x ∷ y ∷ z ∷ u ∷ s) e = absurd (omega arith)

abbrev Guessed : List ℕ → ℕ → Type 0
Guessed other more = ((more ≡ 10) × (other ≡ 1 ∷ 1 ∷ 0 ∷ [])) ⊎ (11 ≤ more)

guessed : (other : List ℕ) (more : ℕ) → Consistent three (0 ∷ 0 ∷ 0 ∷ []) None (record { item = 0; value = 1 } ∷ []) other more → Guessed other more
guessed other more h =
    let x : ℕ = slice_index other 0 in
    let y : ℕ = slice_index other 1 in
    let z : ℕ = slice_index other 2 in
    let full : length other ≡ 3 = h.costs.state.full in
    let lx : x < 2 = h.costs.state.modes 0 (omega arith) in
    let ly : y < 2 = h.costs.state.modes 1 (omega arith) in
    let lz : z < 2 = h.costs.state.modes 2 (omega arith) in
    let part = part_from_start three (0 ∷ 0 ∷ 0 ∷ []) other more h.costs in
    let px : slice_index h.costs.parts 0 ≡ 4 * x = part 0 4 (omega (arith, full)) refl lx p_cost in
    let py : slice_index h.costs.parts 1 ≡ 6 * y = part 1 6 (omega (arith, full)) refl ly q_cost in
    let pz : slice_index h.costs.parts 2 ≡ 11 * z = part 2 11 (omega (arith, full)) refl lz r_cost in
    let total : more ≡ 4 * x + 6 * y + 11 * z =
    h.costs.total ∙ sum_three h.costs.parts (h.costs.full ∙ full) ∙ omega arith in
    let seen : slice_index h.world 0 ≡ 1 = value_at h.world 0 1 (h.agrees 0 (record { item = 0; value = 0 }) (omega arith)) in
    let poor : is_poor x y z ≡ true =
    subst (λ (v : ℕ). (if has 2 v then is_poor x y z else not (is_poor x y z)) ≡ true) seen (sym (poor_is other h.world) ∙ h.is_world.rules 0 poor_rule (omega arith)) in
    elim (weigh x y z more lx ly lz total (culprits x y z lx poor)) [
      | inl (e, ex, ey, ez) ↦ inl (e, three_of other full ∙ cc)
      | inr large ↦ inr large
    ]

not_before_itself : IsEarlier (1 ∷ 1 ∷ 0 ∷ []) (1 ∷ 1 ∷ 0 ∷ []) → ⊥
not_before_itself h = absurd cc

least : (other : List ℕ) (more : ℕ) → Guessed other more → 10 ≤ more
least other more (inl x) = omega (arith, x.0)
least other more (inr x) = omega arith

first : (other : List ℕ) → Guessed other 10 → IsEarlier other (1 ∷ 1 ∷ 0 ∷ []) → ⊥
first other (inl x) before = not_before_itself (subst (λ (s : List ℕ). IsEarlier s (1 ∷ 1 ∷ 0 ∷ [])) x.1 before)
first other (inr x) before = absurd (omega arith)

pub two_for_one : TwoForOne
two_for_one = record {
  consistent = record {
    costs = record {
      state = record { full = refl; modes = below_three (λ c. HasMode three c (slice_index (1 ∷ 1 ∷ 0 ∷ []) c)) (omega arith) (omega arith) (omega arith) };
      nominal = 0 ∷ 0 ∷ 0 ∷ [];
      is_nominal = stays three (0 ∷ 0 ∷ 0 ∷ []);
      parts = 4 ∷ 6 ∷ 0 ∷ [];
      full = refl;
      each = below_three (λ c. ChangeCosts three c (slice_index (0 ∷ 0 ∷ 0 ∷ []) c) (slice_index (0 ∷ 0 ∷ 0 ∷ []) c) (slice_index (1 ∷ 1 ∷ 0 ∷ []) c) (slice_index (4 ∷ 6 ∷ 0 ∷ []) c))
          (inr (λ e. absurd (omega (arith, e)), (0, omega arith, refl), λ other h. omega (arith, p_cost other h)))
          (inr (λ e. absurd (omega (arith, e)), (1, omega arith, refl), λ other h. omega (arith, q_cost other h)))
          (inl (refl, refl));
      total = refl;
    };
    world = 1 ∷ [];
    is_world = record {
      full = refl;
      values = below_one (λ v. HasValue three v (slice_index (1 ∷ []) v)) (omega arith);
      rules = one_at (λ rule. IsTrue (truth (1 ∷ 1 ∷ 0 ∷ []) (1 ∷ []) rule)) poor_rule (poor_is (1 ∷ 1 ∷ 0 ∷ []) (1 ∷ []));
    };
    agrees = one_at (λ (p : Pair). slice_get (1 ∷ []) p.item ≡ Some p.value) (record { item = 0; value = 1 }) refl;
  };
  least = λ other more h. least other more (guessed other more h);
  first = λ other h. first other (guessed other 10 h);
}
