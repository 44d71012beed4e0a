-- The first choice of a row whose mode is in a set, as the column of its component.
use Rattle.std.proofs.Common.{◌≡◌, ◌≢◌, ℕ, ◌+◌, ◌-◌, ◌<◌, ◌≤◌, true, false, inl, inr, List, [], length, get_or, set, slice_index, slice_index_or, Contains, Option, None, Some, sym, ap, subst, ◌∙◌, arith}
use Rattle.std.specs.Ordering.{nat_cmp}
use Rattle.std.specs.declared.cmp.Ordering.TheVariants.{Less}
use Rattle.std.proofs.lemmas.Bool.{eq-eqb, eqb-true}
use Rattle.std.proofs.lemmas.List.{get_or_default, get_or-set_same, get_or-set_other, length-set}
use Rattle.std.proofs.lemmas.List.Elements.{All-contains, Contains-get_or}
use Rattle.std.proofs.lemmas.Map.Lookups.{exact_unsigned}
use Rattle.list_laws.proofs.Orders.{cmp_less, then_cases, three_ways}
use Rattle.cca_base.specs.Choices.{IsRow, choice_cmp}
use Rattle.cca_base.specs.declared.choice.Choice.{Choice}
use Rattle.cca_base.specs.declared.limits.TheConstants.{MAX_COST}
use Rattle.cca_base.specs.Relations.{numbers_below}
use Rattle.cca_base.specs.Sets.{has}
use Rattle.cca_base.proofs.PathLaws.{length-numbers}
use Rattle.group_search.specs.Columns.{AreColumns, CostsMore, IsColumn, KeepsOthers, NoColumn, itself}
use Rattle.group_search.specs.Questions.{Question, IsSolution}
use Rattle.group_search.specs.declared.columns.Columns.{Columns}
use Rattle.mode_estimator.specs.TickLaws.{asked, number_at}
use Rattle.mode_estimator.specs.Ticks.{IsChoice, IsNextIn}
use Rattle.mode_estimator.specs.declared.tick.Tick.{Tick}

abbrev pub nothing : Choice
nothing = record { mode = 0; cost = 0 }

-- ---- places of a row

cost_rises : (x y : Choice) → choice_cmp x y ≡ Less → x.cost ≤ y.cost
cost_rises x y e = elim (then_cases (nat_cmp x.cost y.cost) (nat_cmp x.mode y.mode) e) [
  | inl less ↦ omega (arith, cmp_less x.cost y.cost less)
  | inr tied ↦ omega (arith, exact_unsigned x.cost y.cost tied.0)
]

-- a choice costs no more than those after it
no_dearer : (row : List Choice) (i j : ℕ) → IsRow row → i ≤ j → j < length row → (get_or row i nothing).cost ≤ (get_or row j nothing).cost
no_dearer row i j is upto within = elim (three_ways i j) [
  | inl less ↦ cost_rises (get_or row i nothing) (get_or row j nothing) (is.rising i j nothing less within)
  | inr (inl same) ↦ omega (arith, ap (λ k. (get_or row k nothing).cost) same)
  | inr (inr more) ↦ absurd (omega (arith, upto, more))
]

-- no choice from the one place on and before the other has its mode in the set
abbrev pub LacksBetween : List Choice → ℕ → ℕ → ℕ → Type 0
LacksBetween row mask from to = (k : ℕ) (d : Choice) → from ≤ k → k < to → has mask (slice_index_or row k d).mode ≡ false

-- one with its mode in the set stands behind
stands_behind : (row : List Choice) (mask from to k : ℕ) (y : Choice) → LacksBetween row mask from to → has mask y.mode ≡ true → from ≤ k → get_or row k y ≡ y → to ≤ k
stands_behind row mask from to k y lacks fits after at = elim (three_ways k to) [
  | inl less ↦
      let both : true ≡ false = sym fits ∙ ap (λ (z : Choice). has mask z.mode) (sym at) ∙ lacks k y after less in
      absurd cc
  | inr (inl same) ↦ omega (arith, same)
  | inr (inr more) ↦ omega (arith, more)
]

-- a choice with another mode than the first costs this more
abbrev pub PaysOther : List Choice → ℕ → ℕ → Option ℕ → Type 0
PaysOther row mask first price = (y : Choice) → Contains row y → has mask y.mode ≡ true → y.mode ≢ (get_or row first nothing).mode
    → CostsMore price (get_or row first nothing).cost y.cost

module _ (row : List Choice) (mask first : ℕ) (is : IsRow row) (before : LacksBetween row mask 0 first) where
  pub first_least : (y : Choice) → Contains row y → has mask y.mode ≡ true → (get_or row first nothing).cost ≤ y.cost
  first_least y (k, within, at) fits =
      let behind = stands_behind row mask 0 first k y before fits (omega arith) at in
      omega (arith, no_dearer row first k is behind within, ap (λ (z : Choice). z.cost) (get_or_default row k nothing y within ∙ at))

  -- another mode stands behind the first
  other_behind : (k : ℕ) (y : Choice) → k < length row → get_or row k y ≡ y → has mask y.mode ≡ true → y.mode ≢ (get_or row first nothing).mode → first + 1 ≤ k
  other_behind k y within at fits other = elim (three_ways first k) [
    | inl less ↦ omega (arith, less)
    | inr (inl same) ↦ absurd (other (ap (λ (z : Choice). z.mode) (sym at ∙ get_or_default row k y nothing within ∙ ap (λ j. get_or row j nothing) (sym same))))
    | inr (inr more) ↦ absurd (omega (arith, more, stands_behind row mask 0 first k y before fits (omega arith) at))
  ]

  pub none_other : LacksBetween row mask (first + 1) (length row) → PaysOther row mask first None
  none_other lacks y (k, within, at) fits other =
      absurd (omega (arith, within, stands_behind row mask (first + 1) (length row) k y lacks fits (other_behind k y within at fits other) at))

  pub other_pays : (next : ℕ) → LacksBetween row mask (first + 1) next → first + 1 ≤ next → next < length row
      → PaysOther row mask first (Some ((get_or row next nothing).cost - (get_or row first nothing).cost))
  other_pays next lacks after inside y (k, within, at) fits other =
      let behind = stands_behind row mask (first + 1) next k y lacks fits (other_behind k y within at fits other) at in
      omega (arith, no_dearer row next k is behind within, no_dearer row first next is (omega (arith, after)) inside, ap (λ (z : Choice). z.cost) (get_or_default row k nothing y within ∙ at))

-- ---- the column

-- what stands of the component is written anew
pub record IsWritten (c mode cost : ℕ) (price : Option ℕ) (old new : Columns) : Type 0 where
  pub values : new.values ≡ set old.values c mode
  pub prices : new.prices ≡ set old.prices c price
  pub costs : new.costs ≡ set old.costs c cost
  pub behind : new.behind ≡ old.behind
  pub before : new.before ≡ old.before

module _ (t : Tick) (c : ℕ) (within : c < length t.rows.now.rows) where
  abbrev q : Question
  q = asked t

  abbrev rows : List (List Choice)
  rows = t.rows.now.rows

  -- the component's place is itself
  own_place : (place : ℕ) → place < length (numbers_below (length rows)) → slice_index (numbers_below (length rows)) place ≡ c → place ≡ c
  own_place place inside at = sym (number_at (length rows) place (omega (arith, inside, length-numbers (length rows)))) ∙ at

  other_place : (place : ℕ) → slice_index (numbers_below (length rows)) place ≢ c → place ≢ c
  other_place place other same = other (ap (slice_index (numbers_below (length rows))) same ∙ number_at (length rows) c within)

  pub keeps_others : (mode cost : ℕ) (price : Option ℕ) (old new : Columns) → AreColumns q old → IsWritten c mode cost price old new → KeepsOthers q c old new
  keeps_others mode cost price old new shape put = record {
    shape = record {
      values = ap length put.values ∙ length-set old.values c mode ∙ shape.values;
      prices = ap length put.prices ∙ length-set old.prices c price ∙ shape.prices;
      costs = ap length put.costs ∙ length-set old.costs c cost ∙ shape.costs;
      behind = ap length put.behind ∙ shape.behind;
      before = ap length put.before ∙ shape.before;
    };
    values = λ place inside other. ap (λ l. get_or l place 0) put.values ∙ get_or-set_other old.values c place mode 0 (other_place place other);
    prices = λ place inside other. ap (λ l. get_or l place None) put.prices ∙ get_or-set_other old.prices c place price None (other_place place other);
    costs = λ d inside other. ap (λ l. get_or l d 0) put.costs ∙ get_or-set_other old.costs c d cost 0 other;
  }

  module _ (masks : List ℕ) (d row : List Choice) (at_place : row ≡ get_or rows c d) where
    here : get_or rows c [] ≡ row
    here = sym (at_place ∙ get_or_default rows c d [] within)

    is_row : IsRow row
    is_row = subst (λ r. IsRow r) here (t.of_rows.rows_fit.each c [] within)

    abbrev chosen : List ℕ → List ℕ → Choice
    chosen values costs = record { mode = slice_index values c; cost = slice_index costs c }

    -- what a solution inside has there
    in_row : (values costs : List ℕ) → IsSolution q (itself c) masks values costs → Contains row (chosen values costs)
    in_row values costs h = subst (λ r. Contains r (chosen values costs)) here (h.solves.each c within)

    has_mode : (values costs : List ℕ) → IsSolution q (itself c) masks values costs → has (slice_index masks c) (slice_index values c) ≡ true
    has_mode values costs h =
        h.inside c (omega (arith, within, length-numbers (length rows))) (eq-eqb (slice_index (numbers_below (length rows)) c) c (number_at (length rows) c within))

    pub no_column : LacksBetween row (slice_index masks c) 0 (length row) → NoColumn q masks c
    no_column lacks values costs h =
        let own = in_row values costs h in
        absurd (omega (arith, own.1, stands_behind row (slice_index masks c) 0 (length row) own.0 (chosen values costs) lacks (has_mode values costs h) (omega arith) own.2))

    pub is_column : (first : ℕ) (price : Option ℕ) (old new : Columns) → AreColumns q old
        → IsWritten c (get_or row first nothing).mode (get_or row first nothing).cost price old new
        → IsNextIn row (slice_index masks c) 0 (Some first) → (IsRow row → PaysOther row (slice_index masks c) first price) → IsColumn q masks c new
    is_column first price old new shape put found pays =
        let x : Choice = get_or row first nothing in
        let own : Contains row x = Contains-get_or row first nothing found.1 in
        let value : slice_index new.values c ≡ x.mode =
        ap (λ l. get_or l c 0) put.values ∙ get_or-set_same old.values c x.mode 0 (omega (arith, within, shape.values, length-numbers (length rows))) in
        let costs : slice_index new.costs c ≡ x.cost = ap (λ l. get_or l c 0) put.costs ∙ get_or-set_same old.costs c x.cost 0 (omega (arith, within, shape.costs)) in
        let priced : slice_index_or new.prices c None ≡ price =
        ap (λ l. get_or l c None) put.prices ∙ get_or-set_same old.prices c price None (omega (arith, within, shape.prices, length-numbers (length rows))) in
        record {
          inside = λ place there at.
              ap (λ k. has (slice_index masks k) (slice_index new.values k)) (own_place place there (eqb-true (slice_index (numbers_below (length rows)) place) c at))
              ∙ ap (has (slice_index masks c)) value ∙ found.2 nothing;
          cost = subst (λ n. IsChoice rows c n (slice_index new.costs c)) (sym value) (subst (IsChoice rows c x.mode) (sym costs) (subst (λ r. Contains r x) (sym here) own));
          cheap = omega (arith, costs, All-contains (λ (y : Choice). y.cost ≤ MAX_COST) row x is_row.cheap own);
          least = λ others paid h. omega (arith, costs, first_least row (slice_index masks c) first is_row found.3 (chosen others paid) (in_row others paid h) (has_mode others paid h));
          more = λ place others paid there at h differs.
              let same : place ≡ c = own_place place there at in
              subst (λ o. CostsMore o (slice_index new.costs c) (slice_index paid c)) (sym (ap (λ k. slice_index_or new.prices k None) same ∙ priced))
              (subst (λ n. CostsMore price n (slice_index paid c)) (sym costs)
              (pays is_row (chosen others paid) (in_row others paid h) (has_mode others paid h)
              (λ e. differs (ap (slice_index others) same ∙ e ∙ sym value ∙ ap (slice_index new.values) (sym same)))));
        }
