-- The least solution of a window's question is its best trajectory.
use Rattle.std.proofs.Common.{◌≡◌, ℕ, zero, suc, ◌*◌, ◌<◌, ◌≤◌, List, length, sum, take, slice_index, None, sym, subst, ◌∙◌, arith}
use Rattle.std.specs.Ordering.{nat_cmp}
use Rattle.std.specs.Cmp.Lexicographic.{slice_cmp}
use Rattle.std.specs.declared.cmp.Ordering.TheVariants.{Less}
use Rattle.cca_base.specs.Model.{WellFormed}
use Rattle.cca_base.specs.State.{IsState}
use Rattle.cca_base.specs.declared.limits.TheConstants.{MAX_COST}
use Rattle.group_search.specs.Answers.{IsAnswer, IsFirstLeast}
use Rattle.group_search.specs.Floors.{every}
use Rattle.group_search.specs.Questions.{IsSolution, cost_in}
use Rattle.group_search.specs.declared.columns.Chosen.{Chosen}
use Rattle.group_search.specs.declared.columns.TheConstants.{MAX_PATH}
use Rattle.trajectory_estimator.specs.Asked.{Asked}
use Rattle.trajectory_estimator.specs.Queries.{IsAsked}
use Rattle.trajectory_estimator.specs.Walks.{gate_place, mode_before, mode_place, sum_below}
use Rattle.trajectory_estimator.specs.WalkLaws.{step_cheap}
use Rattle.trajectory_estimator.specs.Windows.{AreFirstMasks, IsWindow, states_of, window_of}
use Rattle.trajectory_estimator.specs.declared.record.TheConstants.{MAX_WINDOW}
use Rattle.trajectory_estimator.proofs.RecordLaws.{wide_states}
use Rattle.trajectory_estimator.proofs.Solutions.{solution_is_trajectory}
use Rattle.trajectory_estimator.proofs.TrajectoryValues.{IsSolved, trajectory_is_solution}
use Rattle.trajectory_estimator.proofs.WindowRows.{cost_of_all, joined, joined-order, joined_rows, not_behind}
use Rattle.window_laws.specs.Trajectories.{Best, NoTrajectory, Trajectory}
use Rattle.window_laws.proofs.Paths.{length-trajectory}

-- ---- what walks cost

few_below : (n most : ℕ) (f : ℕ → ℕ) → ((at : ℕ) → at < n → f at ≤ most) → sum_below n f ≤ n * most
few_below zero most f h = omega arith
few_below (suc n) most f h = omega (arith, h n (omega arith), few_below n most f (λ at within. h at (omega arith)))

-- a walk isn't dear
pub cheap_walk : (q : Asked) (values costs : List ℕ) → IsAsked q → IsWindow q values costs → (c : ℕ) → c < length q.model.components → slice_index costs c ≤ MAX_PATH
cheap_walk q values costs asked h c inside =
    let walk = h.walks c inside in
    let few : length q.records ≤ MAX_WINDOW = asked.few in
    let below : sum_below (length q.records) walk.own ≤ length q.records * MAX_COST =
    few_below (length q.records) MAX_COST walk.own (λ at within. step_cheap q c at (slice_index values (gate_place q c at)) (mode_before q c values at)
    (slice_index values (mode_place q c at)) (walk.own at) asked.model (walk.steps.each at within)) in
    let total : slice_index costs c ≡ sum_below (length q.records) walk.own = walk.total in
    omega (arith, few, below, total)

-- ---- the least solution

module _ (q : Asked) (masks : List ℕ) (good : WellFormed q.model) (state : IsState q.model q.anchor) (first : AreFirstMasks q masks) where
  abbrev width : ℕ
  width = length q.model.components

  -- a trajectory's values are a solution inside
  solved : (states : List (List ℕ)) (cost : ℕ) → (s : IsSolved q states cost) → IsSolution (window_of q) every masks s.values s.costs
  solved states cost s = record { solves = s.window; inside = s.inside masks first }

  -- without a solution there is no trajectory
  pub none_best : (count : ℕ) → IsAnswer (window_of q) masks count None → NoTrajectory q.model q.anchor q.records
  none_best count none states cost t =
      let s = trajectory_is_solution q states cost good state t in
      none (record { values = s.values; costs = s.costs }) (solved states cost s)

  -- the least solution's states are the best trajectory
  pub first_best : (x : Chosen) → IsFirstLeast (window_of q) masks (length q.records * width) x
      → Best q.model q.anchor q.records (states_of q x.values) (cost_in width every x.costs)
  first_best x answer =
      let window : IsWindow q x.values x.costs = answer.solution.solves in
      let own : cost_in width every x.costs ≡ sum x.costs = cost_of_all width x.costs window.full in
      let path : Trajectory q.model q.anchor q.records (states_of q x.values) (sum x.costs) = solution_is_trajectory q x.values x.costs window good state in
      let rows : joined (states_of q x.values) ≡ take (length q.records * width) x.values = joined_rows width (length q.records) x.values in
      record {
        trajectory = subst (Trajectory q.model q.anchor q.records (states_of q x.values)) (sym own) path;
        least = λ other more t.
            let s = trajectory_is_solution q other more good state t in
            let same : cost_in width every s.costs ≡ sum s.costs = cost_of_all width s.costs s.window.full in
            let total = s.total in
            let le = answer.least (record { values = s.values; costs = s.costs }) (solved other more s) in
            omega (arith, le, same, total);
        first = λ other t earlier.
            let cost : ℕ = cost_in width every x.costs in
            let s = trajectory_is_solution q other cost good state t in
            let same : cost_in width every s.costs ≡ sum s.costs = cost_of_all width s.costs s.window.full in
            let others : take (length q.records * width) s.values ≡ joined other = s.first in
            let cases = answer.first (record { values = s.values; costs = s.costs }) (record { solution = solved other cost s; costs_this = same ∙ s.total }) in
            let long : length other ≡ length (states_of q x.values) =
            length-trajectory q.model q.anchor q.records other cost t ∙ sym (length-trajectory q.model q.anchor q.records (states_of q x.values) (sum x.costs) path) in
            let order = joined-order width other (states_of q x.values) long (wide_states q.model q.anchor q.records other cost t)
            (wide_states q.model q.anchor q.records (states_of q x.values) (sum x.costs) path) in
            let less : slice_cmp nat_cmp (joined other) (joined (states_of q x.values)) ≡ Less = order ∙ earlier in
            not_behind (take (length q.records * width) s.values) (take (length q.records * width) x.values) cases
            (subst (λ l. slice_cmp nat_cmp l (take (length q.records * width) x.values) ≡ Less) (sym others)
            (subst (λ l. slice_cmp nat_cmp (joined other) l ≡ Less) rows less));
      }
