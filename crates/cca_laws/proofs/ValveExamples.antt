-- The valve and the engine.
use Rattle.std.proofs.Common.{◌≡◌, ◌<◌, ℕ, zero, suc, Bool, inl, inr, true, false, List, [], ◌∷◌, Contains, slice_get, Some, Option, refl, sym, ap, subst, ◌∙◌, arith, not}
use Rattle.std.specs.Prelude.{slice_index, slice_set, IsTrue, if◌then◌else◌}
use Rattle.std.proofs.lemmas.Bool.{false≢true}
use Rattle.std.proofs.lemmas.List.Elements.{All-contains}
use Rattle.list_laws.proofs.Places.{value_at}
use Rattle.cca_base.specs.declared.cube.Pair.{Pair}
use Rattle.cca_base.specs.declared.formula.Formula.TheOpen.{Formula-F}
use Rattle.cca_base.specs.declared.formula.Formula.TheFolds.{fold-roll-Formula}
use Rattle.cca_base.specs.declared.formula.Subject.TheVariants.{Variable}
use Rattle.cca_base.specs.declared.model.Move.{Move}
use Rattle.cca_base.specs.PlantModel.{PlantModel}
use Rattle.cca_base.specs.Sets.{has}
use Rattle.cca_base.specs.Formula.{truth, truth_step}
use Rattle.cca_base.specs.Model.{HasMode, IsInChain}
use Rattle.cca_base.specs.State.{Follows, Holds, IsState, IsWorld, HasValue}
use Rattle.cca_base.specs.Steps.{Step, Run, Allowed, support}
use Rattle.cca_base.specs.Repairs.{Mending}
use Rattle.cca_base.proofs.NextModes.{next_broken}
use Rattle.list_laws.proofs.Few.{one_at, three_at, below_one, below_two, below_three}
use Rattle.cca_laws.proofs.SmallModels.{the_one}
use Rattle.cca_laws.proofs.FormulaExamples.{truth_mode, truth_iff}
use Rattle.cca_laws.proofs.FreeMoves.{always}
use Rattle.cca_laws.proofs.PlanLaws.{mends_itself}
use Rattle.cca_laws.specs.Examples.{always_true}
use Rattle.cca_laws.specs.FormulaExamples.{mode_in}
use Rattle.cca_laws.specs.ValveExamples.{flow_in, valve_model, engine_model, driver_on, open_move, arm_move, DriverComesOn, StuckMends, OpeningNeedsDriver, StuckIsNotLeanedOn, ClosedIsLeanedOn, flow_rule, no_way_back, OpeningForGood, OpeningIsAllowed}

pub driver_comes_on : DriverComesOn
driver_comes_on = record {
  move = record { component = 0; source = 0; target = 1; command = 0; repair = false; guard = always_true };
  of_model = (0, omega arith, refl);
  command = refl;
  source = refl;
  guard = λ s state extends w world. always s w;
  gives = refl;
}

pub stuck_mends : StuckMends
stuck_mends = (
  refl,
  record {
    broken = refl;
    sound = refl;
    count = 1;
    chain = (
      0,
      record {
        repair = record { component = 1; source = 2; target = 0; command = 4; repair = true; guard = driver_on };
        of_model = (4, omega arith, refl);
        mends = refl;
        target = refl;
      },
      refl,
    );
  },
  refl,
  refl,
)

-- the rule, by the numbers
pub rule_is : (s w : List ℕ) → truth s w flow_rule ≡ (if has 2 (slice_index w 0) then has 2 (slice_index s 1) else not (has 2 (slice_index s 1)))
rule_is s w =
    truth_iff s w (flow_in 2) (mode_in 1 2) (has 2 (slice_index w 0)) (has 2 (slice_index s 1)) (fold-roll-Formula Bool (truth_step s w) (Formula-F.Among (Variable 0) 2))
    (truth_mode s w 1 2)

pub start_state : IsState valve_model (0 ∷ 0 ∷ [])
start_state = record { full = refl; modes = below_two (λ c. HasMode valve_model c (slice_index (0 ∷ 0 ∷ []) c)) (omega arith) (omega arith) }

pub start_world : IsWorld valve_model (0 ∷ 0 ∷ []) (0 ∷ [])
start_world = record {
  full = refl;
  values = below_one (λ v. HasValue valve_model v (slice_index (0 ∷ []) v)) (omega arith);
  rules = one_at (λ rule. IsTrue (truth (0 ∷ 0 ∷ []) (0 ∷ []) rule)) flow_rule (rule_is (0 ∷ 0 ∷ []) (0 ∷ []));
}

does_not_follow : Follows valve_model (support valve_model (0 ∷ 0 ∷ []) open_move) driver_on → ⊥
does_not_follow h =
    false≢true (
    sym (truth_mode (0 ∷ 0 ∷ []) (0 ∷ []) 0 2)
    ∙ h (0 ∷ 0 ∷ []) start_state
    (three_at (λ (p : Pair). slice_get (0 ∷ 0 ∷ []) p.item ≡ Some p.value) (record { item = 1; value = 0 }) (record { item = 0; value = 0 }) (record { item = 1; value = 0 }) refl refl refl)
    (0 ∷ []) start_world
    )

-- the one move by the command for opening
pub open_is_the_one : (move : Move) → move.command ≡ 2 → Contains valve_model.moves move → open_move ≡ move
open_is_the_one = the_one valve_model.moves refl open_move 2 refl

pub opening_needs_driver : OpeningNeedsDriver
opening_needs_driver = (
  does_not_follow,
  λ s step. does_not_follow (
      subst (λ (x : Move). Follows valve_model (support valve_model (0 ∷ 0 ∷ []) x) x.guard) (sym (open_is_the_one step.move step.command step.of_model)) step.guard
      ),
)

-- ---- the engine

pub truth_flow : (s w : List ℕ) (set : ℕ) → truth s w (flow_in set) ≡ has set (slice_index w 0)
truth_flow s w set = fold-roll-Formula Bool (truth_step s w) (Formula-F.Among (Variable 0) set)

-- where the valve is not open, nothing flows
pub nothing_flows : (v mode : ℕ) → v < 2 → has 2 mode ≡ false → (if has 2 v then has 2 mode else not (has 2 mode)) ≡ true → v ≡ 0
nothing_flows zero mode h shut e = refl
nothing_flows (suc zero) mode h shut e = absurd (false≢true (sym shut ∙ e))
nothing_flows (suc (suc v)) mode h shut e = absurd (omega arith)

shut_off : (s w : List ℕ) → IsWorld engine_model s w → has 2 (slice_index s 1) ≡ false → truth s w (flow_in 1) ≡ true
shut_off s w world shut =
    truth_flow s w 1
    ∙ ap (has 1) (nothing_flows (slice_index w 0) (slice_index s 1) (world.values 0 (omega arith)) shut (sym (rule_is s w) ∙ world.rules 0 always_true (omega arith)))

stuck_holds : Holds engine_model (1 ∷ 2 ∷ 0 ∷ []) (flow_in 1)
stuck_holds w world = shut_off (1 ∷ 2 ∷ 0 ∷ []) w world refl

open_state : IsState engine_model (1 ∷ 1 ∷ 0 ∷ [])
open_state = record { full = refl; modes = below_three (λ c. HasMode engine_model c (slice_index (1 ∷ 1 ∷ 0 ∷ []) c)) (omega arith) (omega arith) (omega arith) }

open_world : IsWorld engine_model (1 ∷ 1 ∷ 0 ∷ []) (1 ∷ [])
open_world = record {
  full = refl;
  values = below_one (λ v. HasValue engine_model v (slice_index (1 ∷ []) v)) (omega arith);
  rules = one_at (λ rule. IsTrue (truth (1 ∷ 1 ∷ 0 ∷ []) (1 ∷ []) rule)) flow_rule (rule_is (1 ∷ 1 ∷ 0 ∷ []) (1 ∷ []));
}

arming_does_not_follow : Follows engine_model (support engine_model (1 ∷ 2 ∷ 0 ∷ []) arm_move) (flow_in 1) → ⊥
arming_does_not_follow h =
    false≢true (
    sym (truth_flow (1 ∷ 1 ∷ 0 ∷ []) (1 ∷ []) 1)
    ∙ h (1 ∷ 1 ∷ 0 ∷ []) open_state
    (three_at (λ (p : Pair). slice_get (1 ∷ 1 ∷ 0 ∷ []) p.item ≡ Some p.value) (record { item = 2; value = 0 }) (record { item = 0; value = 1 }) (record { item = 2; value = 0 }) refl refl refl)
    (1 ∷ []) open_world
    )

-- the one move by the command for arming
arm_is_the_one : (move : Move) → move.command ≡ 5 → Contains engine_model.moves move → arm_move ≡ move
arm_is_the_one = the_one engine_model.moves refl arm_move 5 refl

pub stuck_is_not_leaned_on : StuckIsNotLeanedOn
stuck_is_not_leaned_on = (
  stuck_holds,
  λ s step. arming_does_not_follow (
      subst (λ (x : Move). Follows engine_model (support engine_model (1 ∷ 2 ∷ 0 ∷ []) x) x.guard) (sym (arm_is_the_one step.move step.command step.of_model)) step.guard
      ),
)

pub closed_is_leaned_on : ClosedIsLeanedOn
closed_is_leaned_on = record {
  move = arm_move;
  of_model = (5, omega arith, refl);
  command = refl;
  source = refl;
  guard = λ s state extends w world. shut_off s w world (ap (has 2) (value_at s 1 0 (extends 2 (record { item = 0; value = 0 }) (omega arith))));
  gives = refl;
}

-- ---- without a way back

-- a step of a component while the driver is on, in any model that has the move and may lean on the driver
driven_step : (m : PlantModel) (s : List ℕ) (c from to k : ℕ) (repair : Bool)
    → let move : Move = record { component = c; source = from; target = to; command = k; repair = repair; guard = driver_on } in
    Contains m.moves move → slice_get s c ≡ Some from → Contains (support m s move) (record { item = 0; value = 1 }) → Step m s k (slice_set s c to)
driven_step m s0 c from to k repair of_model at leaned = record {
  move = record { component = c; source = from; target = to; command = k; repair = repair; guard = driver_on };
  of_model = of_model;
  command = refl;
  source = at;
  guard = λ s state extends w world. truth_mode s w 0 2
      ∙ ap (has 2) (value_at s 0 1 (All-contains (λ (p : Pair). slice_get s p.item ≡ Some p.value) (support m s0 (record { component = c; source = from; target = to; command = k; repair = repair; guard = driver_on })) (record { item = 0; value = 1 }) extends leaned));
  gives = refl;
}

opening : Step no_way_back (1 ∷ 0 ∷ []) 2 (1 ∷ 1 ∷ [])
opening = driven_step no_way_back (1 ∷ 0 ∷ []) 1 0 1 2 false (2, omega arith, refl) refl (1, omega arith, refl)

other_stays : (s : List ℕ) (v : ℕ) → slice_get (slice_set s 0 v) 1 ≡ slice_get s 1
other_stays [] v = refl
other_stays (x ∷ s) v = refl

apart : (a b : ℕ) (o : Option ℕ) → o ≡ Some a → o ≡ Some b → a ≡ b
apart a b o h k = cc

-- where the valve is open, it is after each step
stays_open : (s s2 : List ℕ) (k : ℕ) → slice_get s 1 ≡ Some 1 → (step : Step no_way_back s k s2) → Contains no_way_back.moves step.move → slice_get s2 1 ≡ Some 1
stays_open s s2 k h step (zero, lt, e) =
    ap (λ (x : List ℕ). slice_get x 1) (step.gives ∙ ap (λ (y : Move). slice_set s y.component y.target) (sym e)) ∙ other_stays s 1 ∙ h
stays_open s s2 k h step (suc zero, lt, e) =
    ap (λ (x : List ℕ). slice_get x 1) (step.gives ∙ ap (λ (y : Move). slice_set s y.component y.target) (sym e)) ∙ other_stays s 0 ∙ h
stays_open s s2 k h step (suc (suc zero), lt, e) =
    let at : slice_get s 1 ≡ Some 0 = subst (λ (y : Move). slice_get s y.component ≡ Some y.source) (sym e) step.source in
    absurd (omega (arith, apart 0 1 (slice_get s 1) at h))
stays_open s s2 k h step (suc (suc (suc zero)), lt, e) =
    let at : slice_get s 1 ≡ Some 2 = subst (λ (y : Move). slice_get s y.component ≡ Some y.source) (sym e) step.source in
    absurd (omega (arith, apart 2 1 (slice_get s 1) at h))
stays_open s s2 k h step (suc (suc (suc (suc i))), lt, e) = absurd (omega arith)

-- and after each run
runs_stay_open : (s ks s2 : List ℕ) → slice_get s 1 ≡ Some 1 → Run no_way_back s ks s2 → slice_get s2 1 ≡ Some 1
runs_stay_open s [] s2 h e = ap (λ (x : List ℕ). slice_get x 1) e ∙ h
runs_stay_open s (k ∷ ks) s2 h (mid, step, rest) = runs_stay_open mid ks s2 (stays_open s mid k h step step.of_model) rest

no_mending : (s2 : List ℕ) → slice_get s2 1 ≡ Some 1 → Mending no_way_back (1 ∷ 0 ∷ []) s2 → ⊥
no_mending s2 h mending = along (mending.each 1 (omega arith))
  where
    along : IsInChain no_way_back.moves 1 0 (slice_index s2 1) → ⊥
    along (zero, same) = omega (arith, value_at s2 1 1 h, same)
    along (suc n, p) = false≢true (next_broken no_way_back.moves 1 0 p.0 p.1)

not_allowed : (s : List ℕ) → Allowed no_way_back (1 ∷ 0 ∷ []) 2 s → ⊥
not_allowed s allowed =
    let step : Step no_way_back (1 ∷ 0 ∷ []) 2 s = allowed.step in
    let e : open_move ≡ step.move = the_one no_way_back.moves refl open_move 2 refl step.move step.command step.of_model in
    let result : s ≡ 1 ∷ 1 ∷ [] = step.gives ∙ ap (λ (y : Move). slice_set (1 ∷ 0 ∷ []) y.component y.target) (sym e) in
    elim allowed.back [
      | inl repair ↦ false≢true (ap (λ (y : Move). y.repair) e ∙ repair)
      | inr back ↦ no_mending back.1 (runs_stay_open s back.0 back.1 (ap (λ (x : List ℕ). slice_get x 1) result) back.2) back.3
    ]

pub opening_for_good : OpeningForGood
opening_for_good = (opening, not_allowed)

-- ---- with a way back

opening_step : Step valve_model (1 ∷ 0 ∷ []) 2 (1 ∷ 1 ∷ [])
opening_step = driven_step valve_model (1 ∷ 0 ∷ []) 1 0 1 2 false (2, omega arith, refl) refl (1, omega arith, refl)

closing_step : Step valve_model (1 ∷ 1 ∷ []) 3 (1 ∷ 0 ∷ [])
closing_step = driven_step valve_model (1 ∷ 1 ∷ []) 1 1 0 3 false (3, omega arith, refl) refl (1, omega arith, refl)

pub opening_is_allowed : OpeningIsAllowed
opening_is_allowed = record { step = opening_step; back = inr (3 ∷ [], 1 ∷ 0 ∷ [], (1 ∷ 0 ∷ [], closing_step, refl), mends_itself valve_model (1 ∷ 0 ∷ [])) }
