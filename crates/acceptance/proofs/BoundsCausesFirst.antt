-- Bounds, one component after the other, causes first.
use Rattle.std.proofs.Common.{◌≡◌, ◌<◌, ◌≤◌, ◌+◌, ◌-◌, ◌*◌, ℕ, zero, suc, List, [], ◌∷◌, ◌++◌, length, map, slice_get, Some, slice_index, get_or, set, take, drop, All, AllPairs, Contains, sum, sum_by, replicate, inl, inr, refl, sym, ap, subst, ◌∙◌, arith}
use Rattle.std.proofs.lemmas.Bool.{cases_lt}
use Rattle.std.proofs.lemmas.List.{get_or-set_same, get_or-set_other, length-set, length-replicate, get_or_past, drop_more, drop_all, take-append-drop}
use Rattle.std.proofs.lemmas.List.Elements.{All-contains}
use Rattle.std.proofs.lemmas.List.Sums.{sum_by-cons, sum_by-append}
use Rattle.std.proofs.lemmas.Option.{slice_get_within, get_or_from_slice_get, same_Some, none-some}
use Rattle.list_laws.proofs.Members.{all_from, contains_cases, contains_here, contains_there, contains_none, at_member}
use Rattle.cca_base.specs.declared.model.Component.{Component}
use Rattle.cca_base.specs.declared.limits.TheConstants.{MAX_BOUND, MAX_CHOICES}
use Rattle.cca_base.specs.Accepted.{SumFits}
use Rattle.cca_base.specs.PlantModel.{PlantModel}
use Rattle.cca_base.specs.Bounds.{AreBounds}
use Rattle.cca_base.specs.Implicants.{Needs}
use Rattle.cca_base.specs.Model.{WellFormed, IsComponent, mode_counts}
use Rattle.cca_base.specs.Orders.{IsEffectsFirst}
use Rattle.cca_base.specs.Relations.{numbers_below}
use Rattle.cca_base.proofs.PathLaws.{all_taken, below_contains, numbers_within, numbers_rise}
use Rattle.causal_graph.specs.Laws.{AreNeedsOf}
use Rattle.causal_graph.specs.Needs.{RowNeeds}
use Rattle.causal_graph.proofs.ModelNeeds.{same_needs, models_have_rows}
use Rattle.causal_graph.proofs.EffectsFirst.{needed_within}
use Rattle.cca_laws.proofs.OneCompiled.{one_bounds}
use Rattle.acceptance.specs.Refusals.{IsTooDeep}
use Rattle.cca_laws.proofs.CausesFirstOrders.{IsLaidOut, laid_out, laid_closed, laid_later, taken, sum_taken, sum_numbers, rising_few}

module _ (sizes : List ℕ) (rows : List (List ℕ)) where
  -- one less than the modes of c, times one more than the bounds in its row
  abbrev pub bound_at : List ℕ → ℕ → ℕ
  bound_at bounds c = (slice_index sizes c - 1) * (1 + sum_by (slice_index bounds) (get_or rows c []))

  -- the bound of each of these components is what it should be
  pub record AreBoundsOn (order bounds : List ℕ) : Type 0 where
    pub each : (d : ℕ) → Contains order d → slice_index bounds d ≡ bound_at bounds d

  abbrev LaidOut : List ℕ → Type 0
  LaidOut = IsLaidOut (RowNeeds rows)

  -- a bound that isn't asked for doesn't count
  sum_other : (bounds : List ℕ) (c v : ℕ) (us : List ℕ) → (Contains us c → ⊥) → sum_by (slice_index (set bounds c v)) us ≡ sum_by (slice_index bounds) us
  sum_other bounds c v [] other = refl
  sum_other bounds c v (u ∷ us) other =
      let here : slice_index (set bounds c v) u ≡ slice_index bounds u = get_or-set_other bounds c u v 0 (λ e. other (contains_here u c us e)) in
      omega (arith, here, sum_other bounds c v us (λ among. other (contains_there u c us among)), sum_by-cons (slice_index (set bounds c v)) u us, sum_by-cons (slice_index bounds) u us)

  at_other : (bounds : List ℕ) (c v d : ℕ) → (RowNeeds rows d c → ⊥) → bound_at (set bounds c v) d ≡ bound_at bounds d
  at_other bounds c v d other = ap (λ n. (slice_index sizes d - 1) * (1 + n)) (sum_other bounds c v (get_or rows d []) other)

  -- the next component's bound
  bound_more : (c : ℕ) (order bounds : List ℕ) → LaidOut (c ∷ order) → c < length bounds → AreBoundsOn order bounds → AreBoundsOn (c ∷ order) (set bounds c (bound_at bounds c))
  bound_more c order bounds laid within h = record {
    each = λ d among. elim (contains_cases c d order among) [
      | inl e ↦ subst (λ z. slice_index new z ≡ bound_at new z) e (get_or-set_same bounds c v 0 within ∙ sym (at_other bounds c v c (λ needs. laid.0 (laid.1 c needs))))
      | inr there ↦
          get_or-set_other bounds c d v 0 (λ e. laid.0 (subst (Contains order) e there))
          ∙ h.each d there
          ∙ sym (at_other bounds c v d (λ needs. laid.0 (laid_closed (RowNeeds rows) order laid.2 d c there needs)))
    ];
  } where
    v : ℕ
    v = bound_at bounds c

    new : List ℕ
    new = set bounds c v

  sum_more : (c v : ℕ) (order bounds : List ℕ) → (Contains order c → ⊥) → c < length bounds → sum_by (slice_index (set bounds c v)) (c ∷ order) ≡ sum_by (slice_index bounds) order + v
  sum_more c v order bounds other within =
      let here : slice_index (set bounds c v) c ≡ v = get_or-set_same bounds c v 0 within in
      omega (arith, here, sum_by-cons (slice_index (set bounds c v)) c order, sum_other bounds c v order other)

  -- the bounds go on along the rest of the order
  pub record Extends (order back bounds : List ℕ) : Type 0 where
    pub all : List ℕ
    pub full : length all ≡ length bounds
    pub are : AreBoundsOn order all
    pub same : (d : ℕ) → Contains back d → slice_index all d ≡ slice_index bounds d

  behind : (front back : List ℕ) (d : ℕ) → Contains back d → Contains (front ++ back) d
  behind [] back d h = h
  behind (c ∷ front) back d h = contains_there c d (front ++ back) (behind front back d h)

  extended : (front back bounds : List ℕ) → LaidOut (front ++ back) → All (λ c. c < length bounds) (front ++ back) → AreBoundsOn back bounds → Extends (front ++ back) back bounds
  extended [] back bounds laid within h = record { all = bounds; full = refl; are = h; same = λ d among. refl }
  extended (c ∷ front) back bounds laid within h =
      let rest = extended front back bounds laid.2 (λ k d lt. within (suc k) d (omega arith)) h in
      let here : c < length bounds = within 0 0 (omega arith) in
      let v : ℕ = bound_at rest.all c in
      record {
        all = set rest.all c v;
        full = length-set rest.all c v ∙ rest.full;
        are = bound_more c (front ++ back) rest.all laid (omega (arith, here, rest.full)) rest.are;
        same = λ d among. get_or-set_other rest.all c d v 0 (λ e. laid.0 (subst (Contains (front ++ back)) e (behind front back d among))) ∙ rest.same d among;
      }

  sum_along : (xs ys us : List ℕ) → ((u : ℕ) → Contains us u → slice_index xs u ≡ slice_index ys u) → sum_by (slice_index xs) us ≡ sum_by (slice_index ys) us
  sum_along xs ys [] same = refl
  sum_along xs ys (u ∷ us) same =
      omega (arith, same u (contains_here u u us refl), sum_along xs ys us (λ v among. same v (contains_there u v us among)), sum_by-cons (slice_index xs) u us, sum_by-cons (slice_index ys) u us)

  sum_extended : (order back bounds : List ℕ) (h : Extends order back bounds) → sum_by (slice_index h.all) back ≡ sum_by (slice_index bounds) back
  sum_extended order back bounds h = sum_along h.all bounds back h.same

-- ---- the bounds of a model

-- how many modes a component has
count_at : (xs : List Component) (c : ℕ) (x : Component) → slice_get xs c ≡ Some x → slice_index (map (λ (y : Component). length y.modes) xs) c ≡ length x.modes
count_at [] c x h = absurd (none-some x h)
count_at (y ∷ xs) zero x h = ap (λ (z : Component). length z.modes) (same_Some y x h)
count_at (y ∷ xs) (suc c) x h = count_at xs c x h

-- a component's modes are some, and not too many
pub modes_fit : (m : PlantModel) → WellFormed m → (c : ℕ) (x : Component) → slice_get m.components c ≡ Some x → (1 ≤ length x.modes) × (length x.modes ≤ MAX_CHOICES)
modes_fit m good c x h =
    let is : IsComponent x = All-contains IsComponent m.components x good.components (at_member m.components c x h) in
    (omega (arith, is.modes.some), is.modes.few)

-- what is computed is the bound
bound_is : (sizes : List ℕ) (rows : List (List ℕ)) (bounds seen row : List ℕ) (c modes b : ℕ) → modes ≡ slice_index sizes c → row ≡ get_or rows c [] → seen ≡ bounds
    → b ≡ (modes - 1) * (1 + sum_by (slice_index seen) row) → b ≡ bound_at sizes rows bounds c
bound_is sizes rows bounds seen row c modes b of_modes of_row same e =
    e
    ∙ ap (λ k. (k - 1) * (1 + sum_by (slice_index seen) row)) of_modes
    ∙ ap (λ r. (slice_index sizes c - 1) * (1 + sum_by (slice_index seen) r)) of_row
    ∙ ap (λ z. (slice_index sizes c - 1) * (1 + sum_by (slice_index z) (get_or rows c []))) same

-- the same of a component and a row as they are read
pub bound_found : (m : PlantModel) (rows : List (List ℕ)) (bounds seen row here : List ℕ) (all : List Component) (x : Component) (c modes b : ℕ)
    → all ≡ m.components → slice_get all c ≡ Some x → modes ≡ length x.modes → slice_get rows c ≡ Some here → row ≡ here → seen ≡ bounds
    → b ≡ (modes - 1) * (1 + sum_by (slice_index seen) row) → b ≡ bound_at (mode_counts m) rows bounds c
bound_found m rows bounds seen row here all x c modes b whole at counted row_at same also e =
    bound_is (mode_counts m) rows bounds seen row c modes b (counted ∙ sym (count_at m.components c x (subst (λ l. slice_get l c ≡ Some x) whole at)))
    (same ∙ sym (get_or_from_slice_get rows c here [] row_at)) also e

-- the bounds from place i of the order on, and their sum
pub record AreAdded (m : PlantModel) (rows : List (List ℕ)) (order bounds : List ℕ) (so_far i : ℕ) : Type 0 where
  pub full : length bounds ≡ length m.components
  pub are : AreBoundsOn (mode_counts m) rows (drop i order) bounds
  pub sum_is : so_far ≡ sum_by (slice_index bounds) (drop i order)
  pub fits : so_far ≤ MAX_BOUND

module _ (m : PlantModel) (rows : List (List ℕ)) (order : List ℕ) (good : WellFormed m) (are_rows : AreNeedsOf m rows) (first : IsEffectsFirst m order) where
  abbrev sizes : List ℕ
  sizes = mode_counts m

  abbrev all : List ℕ
  all = numbers_below (length m.components)

  row_closed : (d u : ℕ) → Contains all d → Needs m d u → Contains all u
  row_closed d u among needs =
      below_contains (length m.components) u
      (let lt : u < length rows = needed_within rows (models_have_rows m rows are_rows) d u ((same_needs m rows good are_rows d u).1 needs) in omega (arith, lt, are_rows.full))

  laid_needs : (xs : List ℕ) → IsLaidOut (Needs m) xs → IsLaidOut (RowNeeds rows) xs
  laid_needs [] h = tt
  laid_needs (c ∷ xs) h = (h.0, λ u needs. h.1 u ((same_needs m rows good are_rows c u).0 needs), laid_needs xs h.2)

  order_laid : IsLaidOut (RowNeeds rows) order
  order_laid = laid_needs order (laid_out (Needs m) all order first row_closed)

  order_within : All (λ c. c < length m.components) order
  order_within = all_from (λ c. c < length m.components) order (λ c among. numbers_within (length m.components) c (taken (Needs m) all order first c among))

  order_whole : (c : ℕ) → c < length m.components → Contains order c
  order_whole c lt = all_taken (Needs m) all order first c (below_contains (length m.components) c lt)

  -- bounds along the whole order are the model's
  whole_bounds : (bounds : List ℕ) → length bounds ≡ length m.components → AreBoundsOn sizes rows order bounds → AreBounds m bounds
  whole_bounds bounds full h = record {
    full = full;
    each = λ c lt. record { needs = get_or rows c []; are_needs = are_rows.each c (omega (arith, lt, are_rows.full)); equation = h.each c (order_whole c lt) };
  }

  whole_sum : (bounds : List ℕ) → length bounds ≡ length m.components → sum_by (slice_index bounds) order ≡ sum bounds
  whole_sum bounds full = sum_taken (Needs m) (slice_index bounds) all order first (numbers_rise (length m.components)) ∙ sum_numbers bounds (length m.components) full

  -- each number in a row is a component
  pub row_below : (c : ℕ) → All (λ u. u < length m.components) (get_or rows c [])
  row_below c = all_from (λ u. u < length m.components) (get_or rows c []) (λ u among.
      let lt : u < length rows = needed_within rows (models_have_rows m rows are_rows) c u among in omega (arith, lt, are_rows.full))

  row_rises : (c : ℕ) → AllPairs (λ a b. a < b) (get_or rows c [])
  row_rises c = elim (cases_lt c (length rows)) [
    | inl within ↦ (are_rows.each c within).rising
    | inr past ↦ subst (AllPairs (λ a b. a < b)) (sym (get_or_past rows c [] past)) (λ i j d lt within. absurd (omega arith))
  ]

  -- no row is longer than there are components
  pub row_short : (c : ℕ) → length (get_or rows c []) ≤ length m.components
  row_short c = rising_few (length m.components) (get_or rows c []) (row_rises c) (row_below c)

  pub added_none : (i : ℕ) → i ≡ length order → AreAdded m rows order (replicate (length m.components) 0) 0 i
  added_none i whole = record {
    full = length-replicate (length m.components) 0;
    are = record { each = λ d among. absurd (contains_none d (subst (λ l. Contains l d) none among)) };
    sum_is = sym (ap (sum_by (slice_index (replicate (length m.components) 0))) none);
    fits = omega arith;
  } where
    none : drop i order ≡ []
    none = drop_all i order (omega (arith, whole))

  pub entry_within : (i c : ℕ) → slice_get order i ≡ Some c → c < length m.components
  entry_within i c h = subst (λ d. d < length m.components) (get_or_from_slice_get order i c 0 h) (order_within i 0 (slice_get_within order i c h))

  split_at : (i : ℕ) → order ≡ take i order ++ drop i order
  split_at i = sym (take-append-drop i order)

  module _ (bounds : List ℕ) (so_far i c : ℕ) (h : AreAdded m rows order bounds so_far (i + 1)) (within : i < length order) (here : slice_index order i ≡ c) where
    abbrev v : ℕ
    v = bound_at sizes rows bounds c

    next : drop i order ≡ c ∷ drop (i + 1) order
    next = drop_more order i 0 within ∙ ap (λ d. d ∷ drop (i + 1) order) here

    laid : IsLaidOut (RowNeeds rows) (c ∷ drop (i + 1) order)
    laid = subst (IsLaidOut (RowNeeds rows)) next (laid_later (RowNeeds rows) (take i order) (drop i order) (subst (IsLaidOut (RowNeeds rows)) (split_at i) order_laid))

    c_within : c < length m.components
    c_within = subst (λ d. d < length m.components) here (order_within i 0 within)

    pub added_more : so_far + v ≤ MAX_BOUND → AreAdded m rows order (set bounds c v) (so_far + v) i
    added_more fits = record {
      full = length-set bounds c v ∙ h.full;
      are = subst (λ l. AreBoundsOn sizes rows l (set bounds c v)) (sym next) (bound_more sizes rows c (drop (i + 1) order) bounds laid (omega (arith, c_within, h.full)) h.are);
      sum_is = ap (λ n. n + v) h.sum_is ∙ sym (sum_more sizes rows c v (drop (i + 1) order) bounds laid.0 (omega (arith, c_within, h.full))) ∙ ap (sum_by (slice_index (set bounds c v))) (sym next);
      fits = fits;
    }

    pub too_deep : MAX_BOUND < so_far + v → IsTooDeep m c
    too_deep passes =
        let back : List ℕ = c ∷ drop (i + 1) order in
        let new : List ℕ = set bounds c v in
        let full : length new ≡ length m.components = length-set bounds c v ∙ h.full in
        let whole : order ≡ take i order ++ back = split_at i ∙ ap (λ l. take i order ++ l) next in
        let on = bound_more sizes rows c (drop (i + 1) order) bounds laid (omega (arith, c_within, h.full)) h.are in
        let far = extended sizes rows (take i order) back new (subst (IsLaidOut (RowNeeds rows)) whole order_laid)
        (subst (All (λ d. d < length new)) whole (subst (λ n. All (λ d. d < n) order) (sym full) order_within)) on
        in
        let sums : sum_by (slice_index far.all) back ≡ so_far + v =
        sum_extended sizes rows (take i order ++ back) back new far ∙ sum_more sizes rows c v (drop (i + 1) order) bounds laid.0 (omega (arith, c_within, h.full)) ∙ ap (λ n. n + v) (sym h.sum_is)
        in
        let own : slice_index far.all c ≡ v = far.same c (contains_here c c (drop (i + 1) order) refl) ∙ get_or-set_same bounds c v 0 (omega (arith, c_within, h.full)) in
        record {
          order = order;
          is_order = first;
          bounds = far.all;
          are_bounds = whole_bounds far.all (far.full ∙ full) (subst (λ l. AreBoundsOn sizes rows l far.all) (sym whole) far.are);
          effects = take i order;
          causes = drop (i + 1) order;
          split = whole;
          fits = omega (arith, sums, own, sum_by-cons (slice_index far.all) c (drop (i + 1) order), h.fits);
          passes = omega (arith, sums, own, sum_by-cons (slice_index far.all) c (drop (i + 1) order), passes);
        }

  pub added_all : (bounds : List ℕ) (so_far : ℕ) → AreAdded m rows order bounds so_far 0 → AreBounds m bounds × SumFits bounds
  added_all bounds so_far h = (whole_bounds bounds h.full h.are, omega (arith, h.sum_is, whole_sum bounds h.full, h.fits))

-- bounds that are too large are not small enough
pub not_deep : (m : PlantModel) (c : ℕ) (bounds : List ℕ) → IsTooDeep m c → AreBounds m bounds → SumFits bounds → ⊥
not_deep m c bounds h are fits =
    let same : h.bounds ≡ bounds = one_bounds m h.bounds bounds h.are_bounds are h.order h.is_order in
    let f : ℕ → ℕ = slice_index h.bounds in
    let whole : sum_by f h.order ≡ sum h.bounds =
    sum_taken (Needs m) f (numbers_below (length m.components)) h.order h.is_order (numbers_rise (length m.components)) ∙ sum_numbers h.bounds (length m.components) h.are_bounds.full
    in
    omega (arith, whole, ap sum same, ap (sum_by f) h.split, sum_by-append f h.effects (c ∷ h.causes), sum_by-cons f c h.causes, h.passes, fits)
