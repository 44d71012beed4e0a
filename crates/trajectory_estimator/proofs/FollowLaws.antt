-- A component's least steps, one behind the other.
use Rattle.std.proofs.Common.{◌≡◌, ◌≢◌, ◌==◌, ℕ, zero, suc, ◌<◌, ◌≤◌, ◌+◌, ◌*◌, true, cond, List, length, map, set, Option, None, Some, slice_index, slice_index_or, add-one, refl, sym, ap, subst, ◌∙◌, inl, inr, arith}
use Rattle.std.proofs.lemmas.Bool.{cases_lt, cond-false, cond-true, eq-eqb, eqb-true, ne_eqb}
use Rattle.std.proofs.lemmas.List.{get_or-set_other, get_or-set_same, length-map, length-set}
use Rattle.std.proofs.lemmas.Option.{same_Some}
use Rattle.cca_base.specs.Model.{HasMode, WellFormed}
use Rattle.cca_base.specs.Sets.{has}
use Rattle.cca_base.specs.State.{IsState}
use Rattle.cca_base.specs.declared.limits.TheConstants.{MAX_COST}
use Rattle.group_search.specs.Columns.{AreColumns, itself}
use Rattle.group_search.specs.Questions.{IsInside}
use Rattle.group_search.specs.declared.columns.Columns.{Columns}
use Rattle.trajectory_estimator.specs.Asked.{Asked, entry_of}
use Rattle.trajectory_estimator.specs.PlaceLaws.{IsOwnPlace, gate_own, gates_apart, length-places, mode_own, modes_apart, modes_before_gates, own_places}
use Rattle.trajectory_estimator.specs.Rests.{AreRests, IsFollowed, IsLeastFrom, KeepsValues, MayStand, NoWalk, row_at, total_of}
use Rattle.trajectory_estimator.specs.Steps.{IsLeastOf, IsStep}
use Rattle.trajectory_estimator.specs.WalkLaws.{step_cheap, step_mode}
use Rattle.trajectory_estimator.specs.Walks.{StepAt, StepBy, gate_place, mode_before, mode_place, places, sum_below}
use Rattle.trajectory_estimator.specs.Windows.{window_of}
use Rattle.trajectory_estimator.specs.declared.component_query.ComponentQuery.{ComponentQuery}
use Rattle.trajectory_estimator.specs.declared.record.Record.{Record}
use Rattle.trajectory_estimator.specs.declared.step.Step.{Step}
use Rattle.trajectory_estimator.proofs.RestLaws.{ahead_at, is_ahead, rests_least}

-- ---- sums

same_sum : (n : ℕ) (f g : ℕ → ℕ) → ((k : ℕ) → k < n → f k ≡ g k) → sum_below n f ≡ sum_below n g
same_sum zero f g same = refl
same_sum (suc n) f g same =
    let here = same n (omega arith) in
    let behind = same_sum n f g (λ k below. same k (omega (arith, below))) in
    omega (arith, here, behind)

-- a function with one value anew
abbrev pub with_at : (ℕ → ℕ) → ℕ → ℕ → ℕ → ℕ
with_at f at n k = cond (k == at) n (f k)

with_same : (f : ℕ → ℕ) (at n : ℕ) → with_at f at n at ≡ n
with_same f at n = cond-true (at == at) n (f at) (eq-eqb at at refl)

with_other : (f : ℕ → ℕ) (at n k : ℕ) → k ≢ at → with_at f at n k ≡ f k
with_other f at n k differs = cond-false (k == at) n (f k) (ne_eqb k at differs)

-- ---- values with a step anew

step_same : (q : Asked) (c at value other from before to mode own cost : ℕ) → value ≡ other → from ≡ before → to ≡ mode → own ≡ cost → StepBy q c at value from to own
    → StepBy q c at other before mode cost
step_same q c at value other from before to mode own cost e f g h step =
    subst (StepBy q c at other before mode) h
    (subst (λ m. StepBy q c at other before m own) g (subst (λ b. StepBy q c at other b to own) f (subst (λ v. StepBy q c at v from to own) e step)))

module _ (x : ComponentQuery) (at : ℕ) (within : at < length x.query.now.records) (values : List ℕ) (full : length values ≡ places x.query.now) (to gate : ℕ) where
  abbrev q : Asked
  q = x.query.now

  abbrev pub noted : List ℕ
  noted = set (set values (mode_place q x.component at) to) (gate_place q x.component at) gate

  noted_mode : slice_index noted (mode_place q x.component at) ≡ to
  noted_mode =
      let before = modes_before_gates q x.component x.component at at x.within within in
      let own = mode_own q x.component at x.within within in
      get_or-set_other (set values (mode_place q x.component at) to) (gate_place q x.component at) (mode_place q x.component at) gate 0 (omega (arith, before))
      ∙ get_or-set_same values (mode_place q x.component at) to 0 (omega (arith, own.within, full))

  noted_gate : slice_index noted (gate_place q x.component at) ≡ gate
  noted_gate =
      let own = gate_own q x.component at x.within within in
      get_or-set_same (set values (mode_place q x.component at) to) (gate_place q x.component at) gate 0
      (omega (arith, own.within, full, length-set values (mode_place q x.component at) to))

  -- places that are neither have the values from before
  noted_other : (place : ℕ) → place ≢ mode_place q x.component at → place ≢ gate_place q x.component at → slice_index noted place ≡ slice_index values place
  noted_other place not_mode not_gate =
      get_or-set_other (set values (mode_place q x.component at) to) (gate_place q x.component at) place gate 0 not_gate
      ∙ get_or-set_other values (mode_place q x.component at) place to 0 not_mode

  noted_modes : (k : ℕ) → k < at → slice_index noted (mode_place q x.component k) ≡ slice_index values (mode_place q x.component k)
  noted_modes k less =
      let before = modes_before_gates q x.component x.component k at x.within (omega (arith, less, within)) in
      noted_other (mode_place q x.component k)
      (λ e. let same = modes_apart q x.component x.component k at x.within x.within e in absurd (omega (arith, same.1, less)))
      (omega (arith, before))

  noted_gates : (k : ℕ) → k < at → slice_index noted (gate_place q x.component k) ≡ slice_index values (gate_place q x.component k)
  noted_gates k less =
      let before = modes_before_gates q x.component x.component at k x.within within in
      noted_other (gate_place q x.component k) (omega (arith, before))
      (λ e. let same = gates_apart q x.component x.component k at x.within x.within e in absurd (omega (arith, same.1, less)))

  noted_before : (k : ℕ) → k ≤ at → mode_before q x.component noted k ≡ mode_before q x.component values k
  noted_before zero upto = refl
  noted_before (suc k) upto = noted_modes k (omega (arith, upto))

  noted_foreign : (place : ℕ) → slice_index (window_of q).of place ≢ x.component → slice_index noted place ≡ slice_index values place
  noted_foreign place foreign =
      let mode = mode_own q x.component at x.within within in
      let gate = gate_own q x.component at x.within within in
      noted_other place (λ e. foreign (ap (slice_index (window_of q).of) e ∙ mode.own)) (λ e. foreign (ap (slice_index (window_of q).of) e ∙ gate.own))

  length-noted : length noted ≡ length values
  length-noted = length-set (set values (mode_place q x.component at) to) (gate_place q x.component at) gate ∙ length-set values (mode_place q x.component at) to

-- ---- behind the first records

-- the steps behind the first records are inside the sets, and with what comes behind them they cost no more than what stands for the anchor
pub record IsFollowing (x : ComponentQuery) (bound mode cost : ℕ) (old new : Columns) : Type 0 where
  pub kept : KeepsValues x old new
  pub own : ℕ → ℕ
  pub steps : (at : ℕ) → at < bound → StepAt x.query.now x.component new.values at (own at)
  pub modes : (at : ℕ) → at < bound
      → has (slice_index x.masks.now (mode_place x.query.now x.component at)) (slice_index new.values (mode_place x.query.now x.component at)) ≡ true
  pub gates : (at : ℕ) → at < bound
      → has (slice_index x.masks.now (gate_place x.query.now x.component at)) (slice_index new.values (gate_place x.query.now x.component at)) ≡ true
  pub here : mode ≡ mode_before x.query.now x.component new.values bound
  pub has_mode : HasMode x.query.now.model x.component mode
  pub may : MayStand x bound mode
  pub total : cost ≡ sum_below bound own
  pub cheap : cost ≤ bound * MAX_COST
  pub least : (first : ℕ) → slice_index_or (row_at old.behind 0) (slice_index x.query.now.anchor x.component) None ≡ Some first
      → (rest : ℕ) × (slice_index_or (row_at old.behind bound) mode None ≡ Some rest) × (cost + rest ≤ first)

pub kept_itself : (x : ComponentQuery) (columns : Columns) → KeepsValues x columns columns
kept_itself x columns = record {
  values_full = refl;
  costs_full = refl;
  prices = refl;
  behind = refl;
  before = refl;
  values = λ place within foreign. refl;
  costs = λ d foreign. refl;
}

pub kept_shape : (x : ComponentQuery) (old new : Columns) → KeepsValues x old new → AreColumns (window_of x.query.now) old → AreColumns (window_of x.query.now) new
kept_shape x old new kept shape = record {
  values = kept.values_full ∙ shape.values;
  prices = ap length kept.prices ∙ shape.prices;
  costs = kept.costs_full ∙ shape.costs;
  behind = ap length kept.behind ∙ shape.behind;
  before = ap length kept.before ∙ shape.before;
}

pub following_none : (x : ComponentQuery) (mode : ℕ) (columns : Columns) → mode ≡ slice_index x.query.now.anchor x.component → HasMode x.query.now.model x.component mode
    → IsFollowing x 0 mode 0 columns columns
following_none x mode columns e own = record {
  kept = kept_itself x columns;
  own = λ at. 0;
  steps = λ at below. absurd (omega (arith, below));
  modes = λ at below. absurd (omega (arith, below));
  gates = λ at below. absurd (omega (arith, below));
  here = e;
  has_mode = own;
  may = e;
  total = refl;
  cheap = omega arith;
  least = λ first stands. (first, subst (λ k. slice_index_or (row_at columns.behind 0) k None ≡ Some first) (sym e) stands, omega arith);
}

-- the rows are those from before
pub row_behind : (x : ComponentQuery) (at mode cost : ℕ) (old now : Columns) (row : List (Option ℕ)) → IsFollowing x at mode cost old now → row ≡ row_at now.behind (at + 1)
    → row ≡ row_at old.behind (at + 1)
row_behind x at mode cost old now row h e = e ∙ ap (λ room. row_at room (at + 1)) h.kept.behind

pub many_records : (q : Asked) (items : List Record) → map entry_of items ≡ q.records → length items ≡ length q.records
many_records q items e = sym (length-map items entry_of) ∙ ap length e

-- where something stands there is a step
some_step : (Steps : Step → Type 0) (step : Option Step) (o : Option ℕ) (rest : ℕ) → IsLeastOf Steps step → o ≡ total_of step → o ≡ Some rest
    → (s : Step) × Steps s × (s.total ≡ rest)
some_step Steps None o rest least e stands = absurd cc
some_step Steps (Some s) o rest least e stands = (s, least.0, same_Some s.total rest (sym e ∙ stands))

module _ (x : ComponentQuery) (at mode cost : ℕ) (old now : Columns) (rests : AreRests x old.behind) (within : at < length x.query.now.records) (h : IsFollowing x at mode cost old now) where
  -- the step behind what stands for the mode
  there : (first : ℕ) → slice_index_or (row_at old.behind 0) (slice_index x.query.now.anchor x.component) None ≡ Some first
      → (s : Step) × IsStep x.query.now x.component at mode (ahead_at x at (row_at old.behind (at + 1))) s × (cost + s.total ≤ first)
  there first stands =
      let (rest, row, upto) = h.least first stands in
      let totals = rests.each at (omega arith) within mode h.has_mode h.may in
      let behind : List (Option ℕ) = row_at old.behind (at + 1) in
      let (s, is, total) = some_step (IsStep x.query.now x.component at mode (ahead_at x at behind)) totals.0 (slice_index_or (row_at old.behind at) mode None) rest
      (totals.1 (ahead_at x at behind) (is_ahead x at behind)) totals.2 row in
      (s, is, omega (arith, total, upto))

  pub no_walk : WellFormed x.query.now.model → IsState x.query.now.model x.query.now.anchor → IsLeastFrom x at (row_at old.behind (at + 1)) mode None → NoWalk x
  no_walk good state none values own inside =
      let (first, stands, upto) = rests_least x old.behind good state rests values own inside 0 (omega arith) in
      let (s, is, less) = there first stands in
      none (ahead_at x at (row_at old.behind (at + 1))) (is_ahead x at (row_at old.behind (at + 1))) s is

  module _ (s : Step) (good : WellFormed x.query.now.model) (shape : AreColumns (window_of x.query.now) old) (least : IsLeastFrom x at (row_at old.behind (at + 1)) mode (Some s)) where
    pub full : length now.values ≡ places x.query.now
    full = h.kept.values_full ∙ shape.values ∙ length-places x.query.now

    abbrev values : List ℕ
    values = noted x at within now.values full s.to s.gate

    both : IsLeastOf (IsStep x.query.now x.component at mode (ahead_at x at (row_at old.behind (at + 1)))) (Some s)
    both = least (ahead_at x at (row_at old.behind (at + 1))) (is_ahead x at (row_at old.behind (at + 1)))

    pub own_cheap : s.own ≤ MAX_COST
    own_cheap = step_cheap x.query.now x.component at s.gate mode s.to s.own good both.0.costs

    abbrev next : Columns
    next = record now { values = values }

    next_kept : KeepsValues x old next
    next_kept = record {
      values_full = length-noted x at within now.values full s.to s.gate ∙ h.kept.values_full;
      costs_full = h.kept.costs_full;
      prices = h.kept.prices;
      behind = h.kept.behind;
      before = h.kept.before;
      values = λ place inside foreign. noted_foreign x at within now.values full s.to s.gate place foreign ∙ h.kept.values place inside foreign;
      costs = h.kept.costs;
    }

    abbrev own : ℕ → ℕ
    own = with_at h.own at s.own

    next_steps : (k : ℕ) → k < suc at → StepAt x.query.now x.component values k (own k)
    next_steps k below = elim (cases_lt k at) [
      | inl less ↦
          step_same x.query.now x.component k (slice_index now.values (gate_place x.query.now x.component k)) (slice_index values (gate_place x.query.now x.component k))
          (mode_before x.query.now x.component now.values k) (mode_before x.query.now x.component values k)
          (slice_index now.values (mode_place x.query.now x.component k)) (slice_index values (mode_place x.query.now x.component k)) (h.own k) (own k)
          (sym (noted_gates x at within now.values full s.to s.gate k less)) (sym (noted_before x at within now.values full s.to s.gate k (omega (arith, less))))
          (sym (noted_modes x at within now.values full s.to s.gate k less)) (sym (with_other h.own at s.own k (omega (arith, less)))) (h.steps k less)
      | inr more ↦
          let same : at ≡ k = omega (arith, below, more) in
          subst (λ n. StepAt x.query.now x.component values n (own n)) same
          (step_same x.query.now x.component at s.gate (slice_index values (gate_place x.query.now x.component at)) mode (mode_before x.query.now x.component values at)
          s.to (slice_index values (mode_place x.query.now x.component at)) s.own (own at)
          (sym (noted_gate x at within now.values full s.to s.gate)) (h.here ∙ sym (noted_before x at within now.values full s.to s.gate at (omega arith)))
          (sym (noted_mode x at within now.values full s.to s.gate)) (sym (with_same h.own at s.own)) both.0.costs)
    ]

    next_modes : (k : ℕ) → k < suc at → has (slice_index x.masks.now (mode_place x.query.now x.component k)) (slice_index values (mode_place x.query.now x.component k)) ≡ true
    next_modes k below = elim (cases_lt k at) [
      | inl less ↦ ap (has (slice_index x.masks.now (mode_place x.query.now x.component k))) (noted_modes x at within now.values full s.to s.gate k less) ∙ h.modes k less
      | inr more ↦
          let same : at ≡ k = omega (arith, below, more) in
          subst (λ n. has (slice_index x.masks.now (mode_place x.query.now x.component n)) (slice_index values (mode_place x.query.now x.component n)) ≡ true) same
          (ap (has (slice_index x.masks.now (mode_place x.query.now x.component at))) (noted_mode x at within now.values full s.to s.gate) ∙ both.0.to)
    ]

    next_gates : (k : ℕ) → k < suc at → has (slice_index x.masks.now (gate_place x.query.now x.component k)) (slice_index values (gate_place x.query.now x.component k)) ≡ true
    next_gates k below = elim (cases_lt k at) [
      | inl less ↦ ap (has (slice_index x.masks.now (gate_place x.query.now x.component k))) (noted_gates x at within now.values full s.to s.gate k less) ∙ h.gates k less
      | inr more ↦
          let same : at ≡ k = omega (arith, below, more) in
          subst (λ n. has (slice_index x.masks.now (gate_place x.query.now x.component n)) (slice_index values (gate_place x.query.now x.component n)) ≡ true) same
          (ap (has (slice_index x.masks.now (gate_place x.query.now x.component at))) (noted_gate x at within now.values full s.to s.gate) ∙ both.0.gate)
    ]

    next_least : (first : ℕ) → slice_index_or (row_at old.behind 0) (slice_index x.query.now.anchor x.component) None ≡ Some first
        → (rest : ℕ) × (slice_index_or (row_at old.behind (suc at)) s.to None ≡ Some rest) × (cost + s.own + rest ≤ first)
    next_least first stands =
        let (t, is, upto) = there first stands in (
          both.0.rest,
          ap (λ k. slice_index_or (row_at old.behind k) s.to None) (sym (add-one at)) ∙ both.0.behind,
          omega (arith, both.0.total, both.1 t is, upto),
        )

    pub following_more : IsFollowing x (at + 1) s.to (cost + s.own) old next
    following_more =
        let sum : cost + s.own ≡ sum_below (suc at) own =
        omega (arith, h.total, with_same h.own at s.own, same_sum at own h.own (λ k less. with_other h.own at s.own k (omega (arith, less)))) in
        subst (λ n. IsFollowing x n s.to (cost + s.own) old next) (sym (add-one at)) (record {
          kept = next_kept;
          own = own;
          steps = next_steps;
          modes = next_modes;
          gates = next_gates;
          here = sym (noted_mode x at within now.values full s.to s.gate);
          has_mode = step_mode x.query.now x.component at s.gate mode s.to s.own good h.has_mode both.0.costs;
          may = both.0.to;
          total = sum;
          cheap = omega (arith, h.cheap, own_cheap);
          least = next_least;
        })

-- ---- behind all records

module _ (x : ComponentQuery) (bound mode cost : ℕ) (old now : Columns) (rests : AreRests x old.behind) (shape : AreColumns (window_of x.query.now) old)
    (following : IsFollowing x bound mode cost old now) (all : bound ≡ length x.query.now.records) where
  h : IsFollowing x (length x.query.now.records) mode cost old now
  h = subst (λ n. IsFollowing x n mode cost old now) all following

  abbrev paid : Columns
  paid = record now { costs = set now.costs x.component cost }

  pub paid_kept : KeepsValues x old paid
  paid_kept = record {
    values_full = h.kept.values_full;
    costs_full = length-set now.costs x.component cost ∙ h.kept.costs_full;
    prices = h.kept.prices;
    behind = h.kept.behind;
    before = h.kept.before;
    values = h.kept.values;
    costs = λ d foreign. get_or-set_other now.costs x.component d cost 0 foreign ∙ h.kept.costs d foreign;
  }

  paid_cost : slice_index paid.costs x.component ≡ cost
  paid_cost = get_or-set_same now.costs x.component cost 0 (omega (arith, h.kept.costs_full, shape.costs, x.within))

  paid_inside : IsInside (window_of x.query.now) (itself x.component) x.masks.now now.values
  paid_inside place there at_c =
      let own : IsOwnPlace x.query.now x.component place =
      record { within = omega (arith, there, length-places x.query.now); own = eqb-true (slice_index (window_of x.query.now).of place) x.component at_c } in
      let (at, below, cases) = own_places x.query.now x.component place own in
      elim cases [
        | inl e ↦ subst (λ k. has (slice_index x.masks.now k) (slice_index now.values k) ≡ true) (sym e) (h.modes at below)
        | inr e ↦ subst (λ k. has (slice_index x.masks.now k) (slice_index now.values k) ≡ true) (sym e) (h.gates at below)
      ]

  pub followed : WellFormed x.query.now.model → IsState x.query.now.model x.query.now.anchor → IsFollowed x old paid
  followed good state = record {
    inside = paid_inside;
    walk = record { own = h.own; steps = record { component = x.within; each = h.steps }; total = paid_cost ∙ h.total };
    cheap = omega (arith, paid_cost, h.cheap);
    least = λ values own inside.
        let (first, stands, upto) = rests_least x old.behind good state rests values own inside 0 (omega arith) in
        let (rest, row, less) = h.least first stands in
        omega (arith, paid_cost, less, upto);
  }
