-- What it costs more at least to leave the values of a component's walk.
use Rattle.std.proofs.Common.{◌≡◌, ◌≢◌, ◌⊎◌, ℕ, zero, suc, true, ◌<◌, ◌≤◌, ◌+◌, ◌*◌, List, length, set, get_or, slice_index, slice_index_or, Option, None, Some, refl, sym, ap, subst, ◌∙◌, inl, inr, add-one, arith}
use Rattle.std.proofs.lemmas.List.{get_or-set_same, get_or-set_other, length-set}
use Rattle.list_laws.proofs.Orders.{below_next}
use Rattle.cca_base.specs.Model.{HasMode, WellFormed}
use Rattle.cca_base.specs.Sets.{has}
use Rattle.cca_base.specs.State.{IsState}
use Rattle.cca_base.specs.declared.limits.TheConstants.{MAX_COST}
use Rattle.group_search.specs.Columns.{AreColumns, CostsMore}
use Rattle.group_search.specs.declared.columns.Columns.{Columns}
use Rattle.trajectory_estimator.specs.Asked.{Asked}
use Rattle.trajectory_estimator.specs.PlaceLaws.{gate_own, gates_apart, length-places, mode_own, modes_apart, modes_before_gates}
use Rattle.trajectory_estimator.specs.Rests.{AreHeads, AreInside, ArePricedTo, AreRests, AtMost, IsAhead, KeepsPrices, KeepsTaken, TakesIn, TakesSteps, modes_of, row_at, whole_cost}
use Rattle.trajectory_estimator.specs.Steps.{AreCheap, IsLeaving, IsStep, IsStepTo}
use Rattle.trajectory_estimator.specs.WalkLaws.{step_mode, walk_modes}
use Rattle.trajectory_estimator.specs.Walks.{gate_place, mode_before, mode_place, places, sum_below}
use Rattle.trajectory_estimator.specs.Windows.{window_of}
use Rattle.trajectory_estimator.specs.declared.component_query.ComponentQuery.{ComponentQuery}
use Rattle.trajectory_estimator.specs.declared.leaving.Leaving.{Leaving}
use Rattle.trajectory_estimator.specs.declared.prices.Passed.{Passed}
use Rattle.trajectory_estimator.specs.declared.record.TheConstants.{MAX_WINDOW}
use Rattle.trajectory_estimator.specs.declared.step.Ahead.{Ahead}
use Rattle.trajectory_estimator.specs.declared.step.Step.{Step}
use Rattle.trajectory_estimator.proofs.RestLaws.{rests_least}

-- ---- what is taken in

at_most_more : (o : Option ℕ) (less more : ℕ) → AtMost o less → less ≤ more → AtMost o more
at_most_more None less more h upto = h
at_most_more (Some cost) less more h upto = omega (arith, h, upto)

at_most_some : (o : Option ℕ) (most : ℕ) → AtMost o most → (cost : ℕ) × (o ≡ Some cost) × (cost ≤ most)
at_most_some None most h = absurd h
at_most_some (Some cost) most h = (cost, refl, h)

-- with a step, those are taken in that lead to the same mode by the same gate and cost no less
pub takes_dearer : (head : ℕ) (s t : Step) (p : Passed) → s.to ≡ t.to → s.gate ≡ t.gate → s.total ≤ t.total → TakesIn head s p → TakesIn head t p
takes_dearer head s t p to gate less h = record {
  other_mode = λ differs. at_most_more p.other_mode (head + s.total) (head + t.total) (h.other_mode (λ e. differs (sym to ∙ e))) (omega (arith, less));
  other_gate = λ differs. at_most_more p.other_gate (head + s.total) (head + t.total) (h.other_gate (λ e. differs (sym gate ∙ e))) (omega (arith, less));
}

pub keeps_all : (p : Passed) → KeepsTaken p p
keeps_all p = record { own_mode = refl; own_gate = refl; taken = λ head s h. h }

pub keeps_both : (a b c : Passed) → KeepsTaken a b → KeepsTaken b c → KeepsTaken a c
keeps_both a b c h g = record { own_mode = g.own_mode ∙ h.own_mode; own_gate = g.own_gate ∙ h.own_gate; taken = λ head s t. g.taken head s (h.taken head s t) }

-- a gate is one of three
pub three_gates : (n : ℕ) → n < 3 → (n ≡ 2) ⊎ ((n ≡ 1) ⊎ (n ≡ 0))
three_gates zero h = inr (inr refl)
three_gates (suc zero) h = inr (inl refl)
three_gates (suc (suc zero)) h = inl refl
three_gates (suc (suc (suc n))) h = absurd (omega (arith, h))

-- ---- steps from one mode

-- each step to a mode below the bound is taken in
pub record TakesBelow (head : ℕ) (leaving : Leaving) (ahead : Ahead) (bound : ℕ) (old new : Passed) : Type 0 where
  pub taken : (q : Asked) (c at : ℕ) → IsLeaving q c at leaving → (s : Step) → IsStep q c at leaving.from ahead s → s.to < bound → TakesIn head s new
  pub kept : KeepsTaken old new

pub takes_none : (head : ℕ) (leaving : Leaving) (ahead : Ahead) (p : Passed) → TakesBelow head leaving ahead 0 p p
takes_none head leaving ahead p = record { taken = λ q c at is s step below. absurd (omega (arith, below)); kept = keeps_all p }

pub takes_more : (head : ℕ) (leaving : Leaving) (ahead : Ahead) (to : ℕ) (old mid new : Passed) → TakesBelow head leaving ahead to old mid → KeepsTaken mid new
    → ((q : Asked) (c at : ℕ) → IsLeaving q c at leaving → (s : Step) → IsStepTo q c at leaving.from ahead to s → TakesIn head s new)
    → TakesBelow head leaving ahead (to + 1) old new
takes_more head leaving ahead to old mid new h kept here = record {
  taken = λ q c at is s step below. elim (below_next s.to to below) [
    | inl less ↦ kept.taken head s (h.taken q c at is s step less)
    | inr e ↦ here q c at is s (step, e)
  ];
  kept = keeps_both old mid new h.kept kept;
}

pub takes_all : (head : ℕ) (leaving : Leaving) (ahead : Ahead) (bound : ℕ) (old new : Passed) → TakesBelow head leaving ahead bound old new → length leaving.failures.now ≤ bound
    → (q : Asked) (c at : ℕ) → IsLeaving q c at leaving → (s : Step) → IsStep q c at leaving.from ahead s → TakesIn head s new
takes_all head leaving ahead bound old new h past q c at is s step =
    h.taken q c at is s step (omega (arith, past, is.full, step_mode q c at s.gate leaving.from s.to s.own is.model is.mode step.costs))

-- ---- steps at one record

-- each step from a mode below the bound that has a head is taken in
pub record TakesFrom (x : ComponentQuery) (at : ℕ) (heads : List (Option ℕ)) (ahead : Ahead) (mode gate bound : ℕ) (p : Passed) : Type 0 where
  pub taken : (from head : ℕ) (s : Step) → from < bound → slice_index_or heads from None ≡ Some head → IsStep x.query.now x.component at from ahead s → TakesIn head s p
  pub own_mode : p.own_mode ≡ mode
  pub own_gate : p.own_gate ≡ gate

pub from_none : (x : ComponentQuery) (at : ℕ) (heads : List (Option ℕ)) (ahead : Ahead) (mode gate : ℕ) (p : Passed) → p.own_mode ≡ mode → p.own_gate ≡ gate
    → TakesFrom x at heads ahead mode gate 0 p
from_none x at heads ahead mode gate p m g = record { taken = λ from head s below is step. absurd (omega (arith, below)); own_mode = m; own_gate = g }

pub from_more : (x : ComponentQuery) (at : ℕ) (heads : List (Option ℕ)) (ahead : Ahead) (mode gate from : ℕ) (old new : Passed) → TakesFrom x at heads ahead mode gate from old → KeepsTaken old new
    → ((head : ℕ) (s : Step) → slice_index_or heads from None ≡ Some head → IsStep x.query.now x.component at from ahead s → TakesIn head s new)
    → TakesFrom x at heads ahead mode gate (from + 1) new
from_more x at heads ahead mode gate from old new h kept here = record {
  taken = λ other head s below is step. elim (below_next other from below) [
    | inl less ↦ kept.taken head s (h.taken other head s less is step)
    | inr e ↦ here head s (ap (λ k. slice_index_or heads k None) (sym e) ∙ is) (subst (λ k. IsStep x.query.now x.component at k ahead s) e step)
  ];
  own_mode = kept.own_mode ∙ h.own_mode;
  own_gate = kept.own_gate ∙ h.own_gate;
}

-- what a step may be is read of the sets and of what stands behind it
pub same_ahead : (x : ComponentQuery) (at : ℕ) (behind : List (Option ℕ)) (a b : Ahead) (from : ℕ) (s : Step) → IsAhead x at behind a → IsAhead x at behind b
    → IsStep x.query.now x.component at from a s → IsStep x.query.now x.component at from b s
same_ahead x at behind a b from s first second h = record {
  to = subst (λ set. has set s.to ≡ true) (first.modes ∙ sym second.modes) h.to;
  gate = subst (λ set. has set s.gate ≡ true) (first.gates ∙ sym second.gates) h.gate;
  costs = h.costs;
  rest = h.rest;
  behind = ap (λ l. slice_index_or l s.to None) (second.rests ∙ sym first.rests) ∙ h.behind;
  total = h.total;
}

pub takes_steps : (x : ComponentQuery) (at : ℕ) (heads behind : List (Option ℕ)) (ahead : Ahead) (mode gate bound : ℕ) (p : Passed) → IsAhead x at behind ahead
    → TakesFrom x at heads ahead mode gate bound p → ((from : ℕ) → HasMode x.query.now.model x.component from → from < bound) → TakesSteps x at heads behind p
takes_steps x at heads behind ahead mode gate bound p first h all other from head s second has_mode is step =
    h.taken from head s (all from has_mode) is (same_ahead x at behind other ahead from s second first step)

-- ---- walks

-- what stands behind a record isn't dear
pub cheap_behind : (x : ComponentQuery) (behind : List (Option ℕ)) → AreRests x behind → length x.query.now.records ≤ MAX_WINDOW → (at : ℕ) → at < length x.query.now.records
    → (row : List (Option ℕ)) → row ≡ row_at behind (at + 1) → AreCheap (modes_of x) (MAX_WINDOW * MAX_COST) row
cheap_behind x behind rests few at below row is mode rest inside there =
    let h = rests.cheap (at + 1) (omega arith) (omega (arith, below)) mode rest inside (ap (λ l. slice_index_or l mode None) (sym is) ∙ there) in
    omega (arith, h, few)

module _ (x : ComponentQuery) (good : WellFormed x.query.now.model) (state : IsState x.query.now.model x.query.now.anchor) (behind before : List (Option ℕ)) (rests : AreRests x behind)
    (heads : AreHeads x (length x.query.now.records) before) where
  -- a walk's step at a record is taken in, and so the walk
  walk_taken : (at : ℕ) (ahead : Ahead) (p : Passed) → at < length x.query.now.records → IsAhead x at (row_at behind (at + 1)) ahead
      → TakesSteps x at (row_at before at) (row_at behind (at + 1)) p → (values : List ℕ) (own : ℕ → ℕ) → AreInside x values own
      → (head total : ℕ) × (head + total ≤ whole_cost x own)
      × TakesIn head (record { to = slice_index values (mode_place x.query.now x.component at); gate = slice_index values (gate_place x.query.now x.component at); own = own at; total = total }) p
  walk_taken at ahead p below is takes values own inside =
      let q : Asked = x.query.now in
      let c : ℕ = x.component in
      let from : ℕ = mode_before q c values at in
      let head = at_most_some (slice_index_or (row_at before at) from None) (sum_below at own) (heads.each at (omega (arith, below)) values own inside) in
      let rest = rests_least x behind good state rests values own inside (suc at) (omega (arith, below)) in
      let s : Step = record { to = slice_index values (mode_place q c at); gate = slice_index values (gate_place q c at); own = own at; total = own at + rest.0 } in
      let step : IsStep q c at from ahead s = record {
        to = subst (λ set. has set s.to ≡ true) (sym is.modes) (inside.modes at below);
        gate = subst (λ set. has set s.gate ≡ true) (sym is.gates) (inside.gates at below);
        costs = inside.steps.each at below;
        rest = rest.0;
        behind = ap (λ l. slice_index_or l s.to None) (is.rests ∙ ap (row_at behind) (add-one at)) ∙ rest.1;
        total = refl;
      } in
      let mode = walk_modes q c values own good state inside.steps at (omega (arith, below)) in
      (head.0, own at + rest.0, omega (arith, head.2, rest.2), takes ahead from head.0 s is mode head.1 step)

  -- the walk costs at least what stands for other modes, where its mode is another
  pub other_mode_costs : (at : ℕ) (ahead : Ahead) (p : Passed) → at < length x.query.now.records → IsAhead x at (row_at behind (at + 1)) ahead
      → TakesSteps x at (row_at before at) (row_at behind (at + 1)) p → (values : List ℕ) (own : ℕ → ℕ) → AreInside x values own
      → slice_index values (mode_place x.query.now x.component at) ≢ p.own_mode → AtMost p.other_mode (whole_cost x own)
  other_mode_costs at ahead p below is takes values own inside differs =
      let taken = walk_taken at ahead p below is takes values own inside in
      at_most_more p.other_mode (taken.0 + taken.1) (whole_cost x own) (taken.3.other_mode differs) taken.2

  pub other_gate_costs : (at : ℕ) (ahead : Ahead) (p : Passed) → at < length x.query.now.records → IsAhead x at (row_at behind (at + 1)) ahead
      → TakesSteps x at (row_at before at) (row_at behind (at + 1)) p → (values : List ℕ) (own : ℕ → ℕ) → AreInside x values own
      → slice_index values (gate_place x.query.now x.component at) ≢ p.own_gate → AtMost p.other_gate (whole_cost x own)
  other_gate_costs at ahead p below is takes values own inside differs =
      let taken = walk_taken at ahead p below is takes values own inside in
      at_most_more p.other_gate (taken.0 + taken.1) (whole_cost x own) (taken.3.other_gate differs) taken.2

-- ---- prices

-- prices up to a record are written, and nothing else
pub record ArePrices (x : ComponentQuery) (bound : ℕ) (old new : Columns) : Type 0 where
  pub kept : KeepsPrices x old new
  pub priced : ArePricedTo x bound new

pub no_prices : (x : ComponentQuery) (columns : Columns) → ArePrices x 0 columns columns
no_prices x columns = record {
  kept = record { values = refl; costs = refl; full = refl; behind = refl; before = refl; others = λ place within other. refl };
  priced = λ values own inside at below. absurd (omega (arith, below));
}

-- the columns with other prices
abbrev pub with_prices : Columns → List (Option ℕ) → Columns
with_prices columns prices = record { values = columns.values; prices = prices; costs = columns.costs; behind = columns.behind; before = columns.before }

-- a walk inside that has another value at the place costs this more
abbrev pub PaysAt : ComponentQuery → Columns → Option ℕ → ℕ → Type 0
PaysAt x columns price place = (values : List ℕ) (own : ℕ → ℕ) → AreInside x values own → slice_index values place ≢ slice_index columns.values place
    → CostsMore price (slice_index columns.costs x.component) (whole_cost x own)

module _ (x : ComponentQuery) (first old : Columns) (at : ℕ) (mode_price gate_price : Option ℕ) (prices : List (Option ℕ)) (below : at < length x.query.now.records)
    (shape : AreColumns (window_of x.query.now) first) (h : ArePrices x at first old)
    (put : prices ≡ set (set old.prices (mode_place x.query.now x.component at) mode_price) (gate_place x.query.now x.component at) gate_price) where
  abbrev q : Asked
  q = x.query.now

  abbrev c : ℕ
  c = x.component

  abbrev mode_at : ℕ → ℕ
  mode_at bt = mode_place q c bt

  abbrev gate_at : ℕ → ℕ
  gate_at bt = gate_place q c bt

  abbrev modes_written : List (Option ℕ)
  modes_written = set old.prices (mode_at at) mode_price

  as_many : length old.prices ≡ places q
  as_many = h.kept.full ∙ shape.prices ∙ length-places q

  mode_within : mode_at at < length old.prices
  mode_within = omega (arith, as_many, (mode_own q c at x.within below).within)

  gate_within : gate_at at < length modes_written
  gate_within = omega (arith, as_many, (gate_own q c at x.within below).within, length-set old.prices (mode_at at) mode_price)

  -- other places keep their prices
  kept_price : (place : ℕ) → place ≢ mode_at at → place ≢ gate_at at → slice_index_or prices place None ≡ slice_index_or old.prices place None
  kept_price place mode gate =
      ap (λ l. get_or l place None) put ∙ get_or-set_other modes_written (gate_at at) place gate_price None gate ∙ get_or-set_other old.prices (mode_at at) place mode_price None mode

  mode_is_priced : slice_index_or prices (mode_at at) None ≡ mode_price
  mode_is_priced =
      let before : mode_at at < gate_at at = modes_before_gates q c c at at x.within below in
      ap (λ l. get_or l (mode_at at) None) put ∙ get_or-set_other modes_written (gate_at at) (mode_at at) gate_price None (λ e. absurd (omega (arith, before, e)))
      ∙ get_or-set_same old.prices (mode_at at) mode_price None mode_within

  gate_is_priced : slice_index_or prices (gate_at at) None ≡ gate_price
  gate_is_priced = ap (λ l. get_or l (gate_at at) None) put ∙ get_or-set_same modes_written (gate_at at) gate_price None gate_within

  -- the prices of earlier records are kept
  mode_kept : (bt : ℕ) → bt < at → slice_index_or prices (mode_at bt) None ≡ slice_index_or old.prices (mode_at bt) None
  mode_kept bt less =
      let before : mode_at bt < gate_at at = modes_before_gates q c c bt at x.within (omega (arith, less, below)) in
      kept_price (mode_at bt) (λ e. absurd (omega (arith, less, (modes_apart q c c bt at x.within x.within e).1))) (λ e. absurd (omega (arith, before, e)))

  gate_kept : (bt : ℕ) → bt < at → slice_index_or prices (gate_at bt) None ≡ slice_index_or old.prices (gate_at bt) None
  gate_kept bt less =
      let before : mode_at at < gate_at bt = modes_before_gates q c c at bt x.within below in
      kept_price (gate_at bt) (λ e. absurd (omega (arith, before, e))) (λ e. absurd (omega (arith, less, (gates_apart q c c bt at x.within x.within e).1)))

  kept_columns : KeepsPrices x first (with_prices old prices)
  kept_columns = record {
    values = h.kept.values;
    costs = h.kept.costs;
    full = ap length put ∙ length-set modes_written (gate_at at) gate_price ∙ length-set old.prices (mode_at at) mode_price ∙ h.kept.full;
    behind = h.kept.behind;
    before = h.kept.before;
    others = λ place within other.
        kept_price place (λ e. other (ap (slice_index (window_of q).of) e ∙ (mode_own q c at x.within below).own)) (λ e. other (ap (slice_index (window_of q).of) e ∙ (gate_own q c at x.within below).own))
        ∙ h.kept.others place within other;
  }

  module _ (mode_pays : PaysAt x old mode_price (mode_at at)) (gate_pays : PaysAt x old gate_price (gate_at at)) where
    abbrev Pays : List ℕ → (ℕ → ℕ) → ℕ → Type 0
    Pays values own bt = (slice_index values (mode_at bt) ≢ slice_index old.values (mode_at bt)
        → CostsMore (slice_index_or prices (mode_at bt) None) (slice_index old.costs c) (whole_cost x own))
        × (slice_index values (gate_at bt) ≢ slice_index old.values (gate_at bt)
        → CostsMore (slice_index_or prices (gate_at bt) None) (slice_index old.costs c) (whole_cost x own))

    pays_here : (values : List ℕ) (own : ℕ → ℕ) → AreInside x values own → Pays values own at
    pays_here values own inside = (
      λ differs. subst (λ o. CostsMore o (slice_index old.costs c) (whole_cost x own)) (sym mode_is_priced) (mode_pays values own inside differs),
      λ differs. subst (λ o. CostsMore o (slice_index old.costs c) (whole_cost x own)) (sym gate_is_priced) (gate_pays values own inside differs),
    )

    pays_before : (values : List ℕ) (own : ℕ → ℕ) → AreInside x values own → (bt : ℕ) → bt < at → Pays values own bt
    pays_before values own inside bt less = (
      λ differs. subst (λ o. CostsMore o (slice_index old.costs c) (whole_cost x own)) (sym (mode_kept bt less)) ((h.priced values own inside bt less).0 differs),
      λ differs. subst (λ o. CostsMore o (slice_index old.costs c) (whole_cost x own)) (sym (gate_kept bt less)) ((h.priced values own inside bt less).1 differs),
    )

    pub more_prices : ArePrices x (at + 1) first (with_prices old prices)
    more_prices = record {
      kept = kept_columns;
      priced = λ values own inside bt upto. elim (below_next bt at upto) [
        | inl less ↦ pays_before values own inside bt less
        | inr e ↦ subst (Pays values own) (sym e) (pays_here values own inside)
      ];
    }
