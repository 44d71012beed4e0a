-- What is no excuse, and right estimates.
use Rattle.std.proofs.Common.{◌≡◌, ℕ, inl, inr, List, [], ◌∷◌, All, Some, refl, arith}
use Rattle.std.specs.Prelude.{slice_get, slice_index, IsTrue}
use Rattle.std.proofs.lemmas.List.Elements.{All-nil}
use Rattle.cca_base.specs.declared.cube.Pair.{Pair}
use Rattle.cca_base.specs.declared.events.Event.TheVariants as event
use Rattle.cca_base.specs.Cube.{IsRising}
use Rattle.cca_base.specs.Formula.{truth}
use Rattle.cca_base.specs.State.{IsWorld, HasValue, Extends}
use Rattle.cca_base.specs.Runs.{CanBeSeen, LeavesPlantAlone}
use Rattle.list_laws.proofs.Few.{one_at, below_one}
use Rattle.cca_laws.proofs.ValveExamples.{rule_is, start_world}
use Rattle.cca_laws.proofs.RightExamples.{observed, one_rises}
use Rattle.cca_laws.specs.ValveExamples.{valve_model, flow_rule}
use Rattle.cca_laws.specs.MirrorExamples.{some_flow}
use Rattle.cca_laws.specs.MoreExamples.{right_moment}
use Rattle.cca_laws.specs.CauseExamples.{open_wanted}
use Rattle.cca_laws.specs.ExcuseExamples.{wrong_with_goal, wrong_behind_reset, wrong_second, driver_moment, driver_started, dear_moment, wrong_when_cleared, second_moment, stuck_moment, NewGoalIsNoExcuse, GoalBehindResetIsNoExcuse, GoalBetweenIsNoExcuse, ClearIsNoExcuse, RightIsFree, LastEstimateIsWrong, PlantIsSeen}

nothing_rises : IsRising []
nothing_rises i j d lt h = absurd (omega arith)

pub agrees_with_none : (w : List ℕ) → Extends w []
agrees_with_none w = All-nil (λ (p : Pair). slice_get w p.item ≡ Some p.value)

closed_world : IsWorld valve_model (1 ∷ 0 ∷ []) (0 ∷ [])
closed_world = record {
  full = refl;
  values = below_one (λ v. HasValue valve_model v (slice_index (0 ∷ []) v)) (omega arith);
  rules = one_at (λ rule. IsTrue (truth (1 ∷ 0 ∷ []) (0 ∷ []) rule)) flow_rule (rule_is (1 ∷ 0 ∷ []) (0 ∷ []));
}

open_world : IsWorld valve_model (1 ∷ 1 ∷ []) (1 ∷ [])
open_world = record {
  full = refl;
  values = below_one (λ v. HasValue valve_model v (slice_index (1 ∷ []) v)) (omega arith);
  rules = one_at (λ rule. IsTrue (truth (1 ∷ 1 ∷ []) (1 ∷ []) rule)) flow_rule (rule_is (1 ∷ 1 ∷ []) (1 ∷ []));
}

quiet : All LeavesPlantAlone []
quiet = All-nil LeavesPlantAlone

not_stuck : (a : ℕ) → ◌≡◌ {A = List ℕ} (a ∷ 2 ∷ []) (a ∷ 0 ∷ []) → ⊥
not_stuck a e = absurd cc

pub new_goal_is_no_excuse : NewGoalIsNoExcuse
new_goal_is_no_excuse ways order bounds h =
    not_stuck 0
    (h 0 wrong_with_goal refl (inl (inl (refl, one_at LeavesPlantAlone (event.Goal _) tt)))
    ([], 0 ∷ [], observed wrong_with_goal.before refl nothing_rises, start_world, agrees_with_none (0 ∷ []))).0

pub goal_behind_reset_is_no_excuse : GoalBehindResetIsNoExcuse
goal_behind_reset_is_no_excuse ways order bounds h =
    not_stuck 0
    (h 0 wrong_behind_reset refl (inl (inr ([], event.Goal _ ∷ [], refl, one_at LeavesPlantAlone (event.Goal _) tt)))
    ([], 0 ∷ [], observed wrong_behind_reset.before refl nothing_rises, start_world, agrees_with_none (0 ∷ []))).0

pub goal_between_is_no_excuse : GoalBetweenIsNoExcuse
goal_between_is_no_excuse ways order bounds h =
    not_stuck 0
    (h 1 wrong_second refl (inr (0, right_moment, refl, refl, refl, one_at LeavesPlantAlone (event.Goal _) tt))
    ([], 0 ∷ [], observed wrong_second.before refl nothing_rises, start_world, agrees_with_none (0 ∷ []))).0

pub clear_is_no_excuse : ClearIsNoExcuse
clear_is_no_excuse ways order bounds h =
    not_stuck 1
    (h 1 wrong_when_cleared refl (inr (0, driver_moment, refl, refl, refl, one_at LeavesPlantAlone event.Clear tt))
    ([], 0 ∷ [], observed wrong_when_cleared.before refl nothing_rises, closed_world, agrees_with_none (0 ∷ []))).0

pub right_is_free : RightIsFree
right_is_free ways order bounds h =
    let seen : CanBeSeen valve_model dear_moment =
    ([], 0 ∷ [], observed dear_moment.before refl nothing_rises, start_world, agrees_with_none (0 ∷ [])) in
    let cost : 4 ≡ 0 = (h 0 dear_moment refl (inl (inl (refl, quiet))) seen).1 in
    absurd (omega (arith, cost))

not_off : ◌≡◌ {A = List ℕ} (0 ∷ 0 ∷ []) (1 ∷ 0 ∷ []) → ⊥
not_off e = absurd cc

pub last_estimate_is_wrong : LastEstimateIsWrong
last_estimate_is_wrong ways order bounds h =
    not_off
    (h 1 (second_moment (0 ∷ 0 ∷ []) 0) refl (inr (0, driver_moment, refl, refl, refl, quiet))
    ([], 0 ∷ [], observed (driver_started open_wanted) refl nothing_rises, closed_world, agrees_with_none (0 ∷ []))).0

not_open : ◌≡◌ {A = List ℕ} (1 ∷ 2 ∷ []) (1 ∷ 1 ∷ []) → ⊥
not_open e = absurd cc

pub plant_is_seen : PlantIsSeen
plant_is_seen ways order bounds h =
    let p : Pair = record { item = 0; value = 1 } in
    let agrees = one_at (λ (q : Pair). slice_get (1 ∷ []) q.item ≡ Some q.value) p refl in
    let seen : CanBeSeen valve_model stuck_moment =
    (some_flow, 1 ∷ [], observed stuck_moment.before refl (one_rises p), open_world, agrees) in
    let since = one_at LeavesPlantAlone (event.Observe some_flow) tt in
    not_open (h 2 stuck_moment refl (inr (1, second_moment (1 ∷ 0 ∷ []) 2, refl, refl, refl, since)) seen).0
