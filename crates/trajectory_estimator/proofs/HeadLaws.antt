-- What stands before a record is what walks cost at least to there.
use Rattle.std.proofs.Common.{◌≡◌, ℕ, suc, true, ◌<◌, ◌≤◌, ◌+◌, ◌*◌, List, length, Bor, Option, None, Some, slice_index, slice_index_or, refl, sym, ap, subst, ◌∙◌, inl, inr, add-one, arith}
use Rattle.std.proofs.lemmas.Option.{same_Some}
use Rattle.list_laws.proofs.Orders.{below_next}
use Rattle.cca_base.specs.Model.{HasMode, WellFormed}
use Rattle.cca_base.specs.Sets.{has}
use Rattle.cca_base.specs.declared.limits.TheConstants.{MAX_COST}
use Rattle.cca_base.specs.State.{IsState}
use Rattle.trajectory_estimator.specs.Asked.{Asked}
use Rattle.trajectory_estimator.specs.Rests.{AreHeads, AreHeadsAt, AreRests, AtMost, IsAhead, IsNoMore, IsTaken, KeepsRows, modes_of, row_at}
use Rattle.trajectory_estimator.specs.Steps.{AreCheap, IsLeastOf, IsLeaving, IsStep, IsStepTo}
use Rattle.trajectory_estimator.specs.WalkLaws.{step_mode, walk_modes}
use Rattle.trajectory_estimator.specs.Walks.{gate_place, mode_before, mode_place, sum_below}
use Rattle.trajectory_estimator.specs.declared.component_query.ComponentQuery.{ComponentQuery}
use Rattle.trajectory_estimator.specs.declared.leaving.Leaving.{Leaving}
use Rattle.trajectory_estimator.specs.declared.record.TheConstants.{MAX_WINDOW}
use Rattle.trajectory_estimator.specs.declared.step.Ahead.{Ahead}
use Rattle.trajectory_estimator.specs.declared.step.Step.{Step}
use Rattle.trajectory_estimator.proofs.RestLaws.{rests_least}

-- ---- what stands

at_most_up : (o : Option ℕ) (less more : ℕ) → AtMost o less → less ≤ more → AtMost o more
at_most_up None less more h le = h
at_most_up (Some x) less more h le = omega (arith, h, le)

-- something stands
some_stands : (o : Option ℕ) (most : ℕ) → AtMost o most → (cost : ℕ) × (o ≡ Some cost) × (cost ≤ most)
some_stands None most h = absurd h
some_stands (Some cost) most h = (cost, refl, h)

-- ---- rows

pub keeps_both : (at : ℕ) (first old new : List (Option ℕ)) → KeepsRows at first old → KeepsRows at old new → KeepsRows at first new
keeps_both at first old new (full, others) (same, also) = (same ∙ full, λ other ne. also other ne ∙ others other ne)

-- ---- the steps from one mode

-- the steps to modes below a number are taken
abbrev pub TakesBelow : Leaving → Ahead → List (Option ℕ) → ℕ → ℕ → Type 0
TakesBelow leaving ahead row head bound = (q : Asked) (c tick : ℕ) → IsLeaving q c tick leaving → (s : Step) → s.to < bound → IsStep q c tick leaving.from ahead s → IsTaken row head s

-- a step that costs no more, with the same behind it
own_least : (q : Asked) (c tick from : ℕ) (ahead : Ahead) (less more : Step) → IsStep q c tick from ahead less → IsStep q c tick from ahead more → less.to ≡ more.to → less.total ≤ more.total
    → less.own ≤ more.own
own_least q c tick from ahead less more is also same le =
    omega (arith, le, is.total, also.total, same_Some is.rest also.rest (sym is.behind ∙ ap (λ to. slice_index_or ahead.rests.now to None) same ∙ also.behind))

module _ (leaving : Leaving) (ahead : Ahead) (head bound : ℕ) (old new : List (Option ℕ)) (less : IsNoMore old new) (taken : TakesBelow leaving ahead old head bound) where
  still_below : TakesBelow leaving ahead new head bound
  still_below q c tick is s below step = less s.to (head + s.own) (taken q c tick is s below step)

  -- there is no step to the mode
  pub none_more : ((q : Asked) (c tick : ℕ) → IsLeaving q c tick leaving → IsLeastOf (IsStepTo q c tick leaving.from ahead bound) None) → TakesBelow leaving ahead new head (bound + 1)
  none_more none q c tick is s below step = elim (below_next s.to bound below) [
    | inl fewer ↦ still_below q c tick is s fewer step
    | inr own ↦ absurd (none q c tick is s (step, own))
  ]

  -- the least step there is taken
  pub least_more : (least : Step) → ((q : Asked) (c tick : ℕ) → IsLeaving q c tick leaving → IsLeastOf (IsStepTo q c tick leaving.from ahead bound) (Some least))
      → AtMost (slice_index_or new bound None) (head + least.own) → TakesBelow leaving ahead new head (bound + 1)
  least_more least is_least here q c tick is s below step = elim (below_next s.to bound below) [
    | inl fewer ↦ still_below q c tick is s fewer step
    | inr own ↦
        let of_all = is_least q c tick is in
        let le : least.own ≤ s.own = own_least q c tick leaving.from ahead least s of_all.0.0 step (of_all.0.1 ∙ sym own) (of_all.1 s (step, own)) in
        at_most_up (slice_index_or new s.to None) (head + least.own) (head + s.own) (subst (λ to. AtMost (slice_index_or new to None) (head + least.own)) (sym own) here) (omega (arith, le))
  ]

-- each step leads to one of the modes
pub takes_all : (leaving : Leaving) (ahead : Ahead) (row : List (Option ℕ)) (head bound : ℕ) → length leaving.failures.now ≤ bound → TakesBelow leaving ahead row head bound
    → (q : Asked) (c tick : ℕ) → IsLeaving q c tick leaving → (s : Step) → IsStep q c tick leaving.from ahead s → IsTaken row head s
takes_all leaving ahead row head bound upto taken q c tick is s step =
    taken q c tick is s (omega (arith, upto, is.full, step_mode q c tick s.gate leaving.from s.to s.own is.model is.mode step.costs)) step

-- the row with the steps to modes below a number
pub record TakesTo (at head : ℕ) (leaving : Leaving) (ahead : Ahead) (first : List (Option ℕ)) (bound : ℕ) (room : List (Option ℕ)) : Type 0 where
  pub kept : KeepsRows at first room
  pub less : IsNoMore (row_at first at) (row_at room at)
  pub taken : TakesBelow leaving ahead (row_at room at) head bound

module _ (at head : ℕ) (leaving : Leaving) (ahead : Ahead) (first old : List (Option ℕ)) (bound : ℕ) (takes : TakesTo at head leaving ahead first bound old) where
  pub nothing_to : ((q : Asked) (c tick : ℕ) → IsLeaving q c tick leaving → IsLeastOf (IsStepTo q c tick leaving.from ahead bound) None) → TakesTo at head leaving ahead first (bound + 1) old
  nothing_to none = record {
    kept = takes.kept;
    less = takes.less;
    taken = none_more leaving ahead head bound (row_at old at) (row_at old at) (λ mode most h. h) takes.taken none;
  }

  pub least_to : (new : List (Option ℕ)) (least : Step) → ((q : Asked) (c tick : ℕ) → IsLeaving q c tick leaving → IsLeastOf (IsStepTo q c tick leaving.from ahead bound) (Some least))
      → KeepsRows at old new → IsNoMore (row_at old at) (row_at new at) → AtMost (slice_index_or (row_at new at) bound None) (head + least.own)
      → TakesTo at head leaving ahead first (bound + 1) new
  least_to new least is_least kept less here = record {
    kept = keeps_both at first old new takes.kept kept;
    less = λ mode most h. less mode most (takes.less mode most h);
    taken = least_more leaving ahead head bound (row_at old at) (row_at new at) less takes.taken least is_least here;
  }

-- ---- the steps from all modes

-- a step goes by the sets and by what stands behind
same_step : (q : Asked) (c at from : ℕ) (a b : Ahead) (s : Step) → a.modes ≡ b.modes → a.gates ≡ b.gates → a.rests.now ≡ b.rests.now → IsStep q c at from a s → IsStep q c at from b s
same_step q c at from a b s modes gates rests step = record {
  to = subst (λ mask. has mask s.to ≡ true) modes step.to;
  gate = subst (λ mask. has mask s.gate ≡ true) gates step.gate;
  costs = step.costs;
  rest = step.rest;
  behind = subst (λ (row : List (Option ℕ)). slice_index_or row s.to None ≡ Some step.rest) rests step.behind;
  total = step.total;
}

module _ (x : ComponentQuery) (at : ℕ) (behind : List (Option ℕ)) where
  -- the steps from modes below a number that have heads are taken
  abbrev pub TakesFrom : List (Option ℕ) → List (Option ℕ) → ℕ → Type 0
  TakesFrom heads row bound = (ahead : Ahead) (from head : ℕ) (s : Step) → IsAhead x at behind ahead → from < bound → slice_index_or heads from None ≡ Some head
      → IsStep x.query.now x.component at from ahead s → IsTaken row head s

  pub from_none : (heads row : List (Option ℕ)) (bound : ℕ) → slice_index_or heads bound None ≡ None → TakesFrom heads row bound → TakesFrom heads row (bound + 1)
  from_none heads row bound none taken ahead from head s is below stands step = elim (below_next from bound below) [
    | inl fewer ↦ taken ahead from head s is fewer stands step
    | inr own ↦ let both : None ≡ Some head = sym none ∙ ap (λ i. slice_index_or heads i None) (sym own) ∙ stands in absurd cc
  ]

  pub from_more : (heads old new : List (Option ℕ)) (bound cost : ℕ) (made : Ahead) → IsNoMore old new → IsAhead x at behind made → slice_index_or heads bound None ≡ Some cost
      → ((s : Step) → IsStep x.query.now x.component at bound made s → IsTaken new cost s) → TakesFrom heads old bound → TakesFrom heads new (bound + 1)
  from_more heads old new bound cost made less its is_cost own_taken taken ahead from head s is below stands step = elim (below_next from bound below) [
    | inl fewer ↦ less s.to (head + s.own) (taken ahead from head s is fewer stands step)
    | inr own ↦
        let same : cost ≡ head = same_Some cost head (sym is_cost ∙ ap (λ i. slice_index_or heads i None) (sym own) ∙ stands) in
        let here = subst (λ i. IsStep x.query.now x.component at i ahead s) own step in
        subst (λ n. IsTaken new n s) same
        (own_taken s (same_step x.query.now x.component at bound ahead made s (is.modes ∙ sym its.modes) (is.gates ∙ sym its.gates) (is.rests ∙ sym its.rests) here))
  ]

  -- the row behind the record with those steps
  pub record FillsFrom (first : List (Option ℕ)) (bound : ℕ) (room : List (Option ℕ)) : Type 0 where
    pub kept : KeepsRows (at + 1) first room
    pub taken : TakesFrom (row_at first at) (row_at room (at + 1)) bound

  module _ (first old : List (Option ℕ)) (bound : ℕ) (fills : FillsFrom first bound old) where
    -- the row before the record is as it was
    before_kept : row_at old at ≡ row_at first at
    before_kept = fills.kept.1 at (omega arith)

    pub fills_none : slice_index_or (row_at old at) bound None ≡ None → FillsFrom first (bound + 1) old
    fills_none none = record {
      kept = fills.kept;
      taken = from_none (row_at first at) (row_at old (at + 1)) bound (ap (λ (row : List (Option ℕ)). slice_index_or row bound None) (sym before_kept) ∙ none) fills.taken;
    }

    pub fills_more : (new : List (Option ℕ)) (cost : ℕ) (made : Ahead) → IsAhead x at behind made → slice_index_or (row_at old at) bound None ≡ Some cost → KeepsRows (at + 1) old new
        → IsNoMore (row_at old (at + 1)) (row_at new (at + 1)) → ((s : Step) → IsStep x.query.now x.component at bound made s → IsTaken (row_at new (at + 1)) cost s)
        → FillsFrom first (bound + 1) new
    fills_more new cost made its is_cost kept less own_taken = record {
      kept = keeps_both (at + 1) first old new fills.kept kept;
      taken = from_more (row_at first at) (row_at old (at + 1)) (row_at new (at + 1)) bound cost made less its
          (ap (λ (row : List (Option ℕ)). slice_index_or row bound None) (sym before_kept) ∙ is_cost) own_taken fills.taken;
    }

-- ---- from record to record

-- what stands behind a record is small
pub rests_cheap : (x : ComponentQuery) (rests row : List (Option ℕ)) (at : ℕ) → AreRests x rests → length x.query.now.records ≤ MAX_WINDOW → at ≤ length x.query.now.records → row ≡ row_at rests at
    → AreCheap (modes_of x) (MAX_WINDOW * MAX_COST) row
rests_cheap x rests row at are few within here mode rest below stands =
    omega (arith, few, are.cheap at (omega arith) within mode rest below (ap (λ (r : List (Option ℕ)). slice_index_or r mode None) (sym here) ∙ stands))

-- what walks cost at least to the mode behind a record, where each step from a head is taken
pub heads_behind : (x : ComponentQuery) (rests old new : List (Option ℕ)) (at : ℕ) (behind : Bor (List (Option ℕ))) → WellFormed x.query.now.model → IsState x.query.now.model x.query.now.anchor
    → AreRests x rests → at < length x.query.now.records → behind.now ≡ row_at rests (at + 1)
    → ((ahead : Ahead) (from head : ℕ) (s : Step) → IsAhead x at behind.now ahead → HasMode x.query.now.model x.component from → slice_index_or old from None ≡ Some head
    → IsStep x.query.now x.component at from ahead s → IsTaken new head s)
    → AreHeadsAt x at old → AreHeadsAt x (at + 1) new
heads_behind x rests old new at behind good state are within here takes heads = subst (λ n. AreHeadsAt x n new) (sym (add-one at)) (λ values own inside.
    let q = x.query.now in
    let c = x.component in
    let to = slice_index values (mode_place q c at) in
    let gate = slice_index values (gate_place q c at) in
    let made : Ahead = record { modes = slice_index x.masks.now (mode_place q c at); gates = slice_index x.masks.now (gate_place q c at); rests = behind } in
    let (head, stands, le) = some_stands (slice_index_or old (mode_before q c values at) None) (sum_below at own) (heads values own inside) in
    let (rest, there, upto) = rests_least x rests good state are values own inside (suc at) (omega (arith, within)) in
    let s : Step = record { to = to; gate = gate; own = own at; total = own at + rest } in
    let step : IsStep q c at (mode_before q c values at) made s = record {
      to = inside.modes at within;
      gate = inside.gates at within;
      costs = inside.steps.each at within;
      rest = rest;
      behind = ap (λ (row : List (Option ℕ)). slice_index_or row to None) (here ∙ ap (row_at rests) (add-one at)) ∙ there;
      total = refl;
    } in
    at_most_up (slice_index_or new to None) (head + own at) (own at + sum_below at own)
    (takes made (mode_before q c values at) head s (record { modes = refl; gates = refl; rests = refl }) (walk_modes q c values own good state inside.steps at (omega (arith, within))) stands step)
    (omega (arith, le)))

-- one record further
pub heads_more : (x : ComponentQuery) (bound : ℕ) (old new : List (Option ℕ)) → AreHeads x bound old → KeepsRows (bound + 1) old new → AreHeadsAt x (bound + 1) (row_at new (bound + 1))
    → AreHeads x (bound + 1) new
heads_more x bound old new heads (full, others) here = record {
  full = full ∙ heads.full;
  each = λ at upto. elim (below_next at (bound + 1) (omega (arith, upto))) [
    | inl less ↦ subst (AreHeadsAt x at) (sym (others at (omega (arith, less)))) (heads.each at (omega (arith, less)))
    | inr own ↦ subst (λ i. AreHeadsAt x i (row_at new i)) (sym own) here
  ];
}
