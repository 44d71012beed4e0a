-- A search of a group from turn to turn.
use Rattle.std.proofs.Common.{◌≡◌, ◌⊎◌, inl, inr, ℕ, zero, suc, ◌-◌, ◌*◌, ◌^◌, ◌<◌, ◌≤◌, Bool, true, false, cond, List, [], ◌∷◌, length, get_or, set, slice_index, Option, None, Some, refl, sym, ap, subst, ◌∙◌, arith, get_or-set_same, get_or-set_other}
use Rattle.std.specs.Prelude.{Contains}
use Rattle.std.proofs.lemmas.Bool.{cases_lt, false≢true}
use Rattle.std.proofs.lemmas.List.Elements.{All-cons, All-nil, All-contains, Contains-get_or}
use Rattle.std.proofs.lemmas.List.Sums.{sum_by-cons}
use Rattle.cca_base.specs.Sets.{has}
use Rattle.cca_base.specs.declared.cube.Pair.{Pair}
use Rattle.group_search.specs.Bounds.{IsOpen}
use Rattle.group_search.specs.Columns.{ArePaths}
use Rattle.group_search.specs.Questions.{Question, CostsAtLeast, IsInside, IsWhole, cost_in, in_group}
use Rattle.group_search.specs.Halves.{AreAhead, AreFewer, AreHalves, IsBack, IsSplit, SplitOwn, left_of, size, undone, weight}
use Rattle.group_search.specs.Searches.{best_found, IsJudged, IsKnown, IsSought, IsTurned}
use Rattle.group_search.specs.declared.columns.Chosen.{Chosen}
use Rattle.group_search.specs.declared.best.Best.{Best}
use Rattle.group_search.specs.declared.halves.Half.{Half}
use Rattle.group_search.specs.declared.judge.Verdict.TheVariants.{Found}
use Rattle.group_search.proofs.BoxLaws.{same_or_other}
use Rattle.group_search.proofs.HalfLaws.{inside_before, one_has, rest_some, size_some, split_fewer, split_halved, split_left, split_undone, split_weight}

-- the place has one set more of values that it may have
pub inside_put : (q : Question) (test : ℕ → Bool) (masks values : List ℕ) (i mask : ℕ) → i < length masks → has mask (slice_index values i) ≡ true → IsInside q test masks values → IsInside q test (set masks i mask) values
inside_put q test masks values i mask within held inside place under own = elim (same_or_other place i) [
  | inl e ↦
      let here : slice_index (set masks i mask) place ≡ mask = ap (λ k. get_or (set masks i mask) k 0) e ∙ get_or-set_same masks i mask 0 within in
      ap (λ s. has s (slice_index values place)) here ∙ ap (λ k. has mask (slice_index values k)) e ∙ held
  | inr other ↦ ap (λ s. has s (slice_index values place)) (get_or-set_other masks i place mask 0 other) ∙ inside place under own
]

-- one of the first two, or of the others
among_cases : {X : Type 0} (x y : X) (xs : List X) → Contains (y ∷ xs) x → (y ≡ x) ⊎ Contains xs x
among_cases x y xs (zero, under, is) = inl is
among_cases x y xs (suc k, under, is) = inr (k, omega (arith, under), is)

among_rest : {X : Type 0} (x y : X) (xs : List X) → Contains xs x → Contains (y ∷ xs) x
among_rest x y xs (k, under, is) = (suc k, omega (arith, under), is)

among_first : {X : Type 0} (x : X) (xs : List X) → Contains (x ∷ xs) x
among_first x xs = (zero, omega arith, refl)

pub never_among : {X : Type 0} (x : X) → Contains {X = X} [] x → ⊥
never_among x among = absurd (omega (arith, among.1))

module _ (q : Question) (names : List ℕ) (group : Option ℕ) (base : List ℕ) (start : ℕ) where
  abbrev test : ℕ → Bool
  test = in_group names group

  abbrev Sought : List ℕ → List Half → Best → Type 0
  Sought masks halves best = IsSought q names group base start masks halves best

  -- a box is split
  module _ (p : Pair) (old new : List ℕ) (before after : List Half) (best : Best) (long : length old ≡ length q.of) (open_at : IsOpen q test old p) (is : IsSplit p old new before after)
      (sought : Sought old before best) where
    inside : p.item < length old
    inside = omega (arith, long, open_at.place)

    in_half : (values : List ℕ) → IsInside q test old values → (b : List ℕ) × Contains (new ∷ left_of after new) b × IsInside q test b values
    in_half values at = elim (same_or_other (slice_index values p.item) p.value) [
      | inl e ↦
          let alone = set old p.item (2 ^ p.value) in (
            alone,
            among_rest alone new (left_of after new) (subst (λ l. Contains l alone) (sym (split_left p old new before after is)) (among_first alone (left_of before old))),
            inside_put q test old values p.item (2 ^ p.value) inside (ap (has (2 ^ p.value)) e ∙ one_has p.value) at,
          )
      | inr other ↦
          let held = is.others (slice_index values p.item) (at p.item open_at.place open_at.own) other in
          (new, among_first new (left_of after new), subst (λ m. IsInside q test m values) (sym is.kept) (inside_put q test old values p.item is.rest inside held at))
    ]

    pub split_sought : Sought new after best
    split_sought = record {
      before = split_undone p old new before after is ∙ sought.before;
      halved = split_halved p old new before after is inside open_at.value sought.halved;
      fewer = split_fewer p old new before after is inside (rest_some q test p old new before after is open_at) sought.fewer;
      own = subst (SplitOwn q test) (sym is.put) (All-cons (λ (half : Half). (half.item < length q.of) × (test (slice_index q.of half.item) ≡ true)) is.half before
          (subst (λ i. (i < length q.of) × (test (slice_index q.of i) ≡ true)) (sym is.item) (open_at.place, open_at.own)) sought.own);
      ahead = λ values costs sol less.
          let (b, among, at) = sought.ahead values costs sol less in
          elim (among_cases b old (left_of before old) among) [
            | inl e ↦ in_half values (subst (λ m. IsInside q test m values) (sym e) at)
            | inr rest ↦ (b, among_rest b new (left_of after new) (subst (λ l. Contains l b) (sym (split_left p old new before after is)) (among_rest b (set old p.item (2 ^ p.value)) (left_of before old) rest)), at)
          ];
      known = sought.known;
    }

    pub split_lighter : weight (new ∷ left_of after new) < weight (old ∷ left_of before old)
    split_lighter = split_weight p old new before after is inside (rest_some q test p old new before after is open_at)

  -- the box at hand is done with: what is ahead is in the halves that are left
  abbrev pub Ahead : List ℕ → List Half → ℕ → Type 0
  Ahead old before limit = AreAhead q test base limit (left_of before old)

  pub dropped_ahead : (old : List ℕ) (before : List Half) (was : Best) (limit : ℕ) → limit ≤ was.limit → CostsAtLeast q test old limit → Sought old before was → Ahead old before limit
  dropped_ahead old before was limit low least sought values costs sol less =
      let (b, among, at) = sought.ahead values costs sol (omega (arith, low, less)) in
      elim (among_cases b old (left_of before old) among) [
        | inl e ↦
            let dear = least values costs (record { solves = sol.solves; inside = subst (λ m. IsInside q test m values) (sym e) at }) in
            absurd (omega (arith, dear, less))
        | inr rest ↦ (b, rest, at)
      ]

  known_less : (found : Option Chosen) (limit cost : ℕ) → IsKnown q names group base start found limit → cost < limit → cost < start
  known_less None limit cost known less = omega (arith, known, less)
  known_less (Some x) limit cost known less = omega (arith, known.2, less)

  -- paths that cost less than what was known
  pub found_known : (old : List ℕ) (before : List Half) (was : Best) (x : Chosen) → ArePaths q test x.values x.costs → IsInside q test old x.values → (IsWhole q names group → q.solves x.values x.costs)
      → cost_in q.count test x.costs < was.limit → Sought old before was → IsKnown q names group base start (Some x) (cost_in q.count test x.costs)
  found_known old before was x paths at whole less sought = (
    record { paths = paths; inside = subst (λ m. IsInside q test m x.values) sought.before (inside_before q test before old x.values sought.halved at); whole = whole },
    refl,
    known_less (best_found was) was.limit (cost_in q.count test x.costs) sought.known less,
  )

  -- from such a box back to a half
  module _ (old new : List ℕ) (before after : List Half) (was best : Best) (sought : Sought old before was) (ahead : Ahead old before best.limit)
      (known : IsKnown q names group base start (best_found best) best.limit) where
    own_back : (halves : List Half) → ((half : Half) → Contains halves half → (other : Half) × Contains before other × (other.item ≡ half.item)) → SplitOwn q test halves
    own_back halves items k d under =
        let half = get_or halves k d in
        let (other, among, e) = items half (Contains-get_or halves k d under) in
        subst (λ i. (i < length q.of) × (test (slice_index q.of i) ≡ true)) e
        (All-contains (λ (h : Half). (h.item < length q.of) × (test (slice_index q.of h.item) ≡ true)) before other sought.own among)

    pub back_sought : IsBack old new before after → Sought new after best
    back_sought is = record {
      before = is.undone ∙ sought.before;
      halved = is.halved sought.halved;
      fewer = is.fewer sought.fewer;
      own = own_back after (λ half among. is.items half among);
      ahead = subst (AreAhead q test base best.limit) is.same ahead;
      known = known;
    }

    pub back_lighter : IsBack old new before after → weight (new ∷ left_of after new) < weight (old ∷ left_of before old)
    back_lighter is =
        let f = λ (b : List ℕ). 2 * size b - 1 in
        let same : weight (new ∷ left_of after new) ≡ weight (left_of before old) = ap weight (sym is.same) in
        let whole = sum_by-cons f old (left_of before old) in
        omega (arith, same, whole, size_some old)

    -- or to the end
    pub end_least : left_of before old ≡ [] → CostsAtLeast q test base best.limit
    end_least none values costs sol = elim (cases_lt (cost_in q.count test costs) best.limit) [
      | inl less ↦ let (b, among, at) = ahead values costs sol less in absurd (never_among b (subst (λ l. Contains l b) none among))
      | inr least ↦ least
    ]

    pub end_sought : left_of before old ≡ [] → after ≡ [] → new ≡ undone before old → Sought new after best
    end_sought none empty back = record {
      before = ap (λ l. undone l new) empty ∙ back ∙ sought.before;
      halved = subst (λ l. AreHalves l new) (sym empty) tt;
      fewer = subst (λ l. AreFewer l new) (sym empty) tt;
      own = subst (SplitOwn q test) (sym empty) (All-nil (λ (h : Half). (h.item < length q.of) × (test (slice_index q.of h.item) ≡ true)));
      ahead = λ values costs sol less. absurd (omega (arith, less, end_least none values costs sol));
      known = known;
    }

-- before the first turn
pub sought_begun : (q : Question) (names : List ℕ) (group : Option ℕ) (base : List ℕ) (start : ℕ) (halves : List Half) (best : Best) → halves ≡ [] → best.is_found ≡ false → best.limit ≡ start
    → IsSought q names group base start base halves best
sought_begun q names group base start halves best empty none limit = record {
  before = ap (λ l. undone l base) empty;
  halved = subst (λ l. AreHalves l base) (sym empty) tt;
  fewer = subst (λ l. AreFewer l base) (sym empty) tt;
  own = subst (SplitOwn q (in_group names group)) (sym empty) (All-nil (λ (h : Half). (h.item < length q.of) × (in_group names group (slice_index q.of h.item) ≡ true)));
  ahead = λ values costs sol less. (base, among_first base (left_of halves base), sol.inside);
  known = subst (λ found. IsKnown q names group base start (cond found (Some best.found) None) best.limit) (sym none) limit;
}

-- the places of splits of a group are places
pub own_places : (q : Question) (test : ℕ → Bool) (halves : List Half) → SplitOwn q test halves → SplitOwn q (λ c. true) halves
own_places q test halves own k d under = ((own k d under).0, refl)

-- a box that is done with: what it leaves ahead, and what is known then
abbrev pub Leads : Question → List ℕ → Option ℕ → List ℕ → List Half → Best → Best → Type 0
Leads q names group old before was best = (base : List ℕ) (start : ℕ) → IsSought q names group base start old before was
    → Ahead q names group base start old before best.limit × IsKnown q names group base start (best_found best) best.limit

pub dropped_leads : (q : Question) (names : List ℕ) (group : Option ℕ) (old : List ℕ) (before : List Half) (was best : Best) → best ≡ was → CostsAtLeast q (in_group names group) old was.limit → Leads q names group old before was best
dropped_leads q names group old before was best same least base start sought =
    subst (λ (b : Best). Ahead q names group base start old before b.limit × IsKnown q names group base start (best_found b) b.limit) (sym same)
    (dropped_ahead q names group base start old before was was.limit (omega arith) least sought, sought.known)

pub found_leads : (q : Question) (names : List ℕ) (group : Option ℕ) (old : List ℕ) (before : List Half) (was best : Best) (values costs : List ℕ) (cost : ℕ) → IsJudged q names group was.limit old values costs Found
    → best.is_found ≡ true → best.found.values ≡ values → best.found.costs ≡ costs → best.limit ≡ cost → cost ≡ cost_in q.count (in_group names group) costs → Leads q names group old before was best
found_leads q names group old before was best values costs cost judged is_found is_values is_costs is_limit is_cost base start sought =
    let test = in_group names group in let x = best.found in
    let sum : best.limit ≡ cost_in q.count test x.costs = is_limit ∙ is_cost ∙ ap (cost_in q.count test) (sym is_costs) in
    let paths : ArePaths q test x.values x.costs = subst (λ v. ArePaths q test v x.costs) (sym is_values) (subst (ArePaths q test values) (sym is_costs) judged.1) in
    let at : IsInside q test old x.values = subst (IsInside q test old) (sym is_values) judged.2 in
    let whole : IsWhole q names group → q.solves x.values x.costs = λ all. subst (λ v. q.solves v x.costs) (sym is_values) (subst (q.solves values) (sym is_costs) (judged.3 all)) in
    let known = found_known q names group base start old before was x paths at whole (omega (arith, judged.0, sum, is_limit, is_cost)) sought in
    let ahead = dropped_ahead q names group base start old before was best.limit (omega (arith, judged.0, is_limit, is_cost)) (subst (CostsAtLeast q test old) (sym (is_limit ∙ is_cost)) judged.4) sought in
    (ahead, subst (λ found. IsKnown q names group base start (cond found (Some x) None) best.limit) (sym is_found) (subst (IsKnown q names group base start (Some x)) (sym sum) known))

-- a turn that goes back from such a box
module _ (q : Question) (names : List ℕ) (group : Option ℕ) (old new : List ℕ) (before after : List Half) (was best : Best) (leads : Leads q names group old before was best) where
  turned_to : (goes : Bool) → (goes ≡ true → IsBack old new before after) → (goes ≡ false → left_of before old ≡ []) → (goes ≡ false → (after ≡ []) × (new ≡ undone before old))
      → IsTurned q names group old new before after was best goes
  turned_to true back none end base start sought =
      let (ahead, known) = leads base start sought in (
        back_sought q names group base start old new before after was best sought ahead known (back refl),
        (λ _. back_lighter q names group base start old new before after was best sought ahead known (back refl)),
        (λ e. absurd (false≢true (sym e))),
      )
  turned_to false back none end base start sought =
      let (ahead, known) = leads base start sought in (
        end_sought q names group base start old new before after was best sought ahead known (none refl) (end refl).0 (end refl).1,
        (λ e. absurd (false≢true e)),
        (λ _. ((end refl).1 ∙ sought.before, end_least q names group base start old new before after was best sought ahead known (none refl))),
      )

  pub turned_back : (goes : Bool) (mid : List ℕ) (halves : List Half) → mid ≡ old → halves ≡ before → (goes ≡ true → IsBack mid new halves after) → (goes ≡ false → left_of halves mid ≡ [])
      → (goes ≡ false → (after ≡ []) × (new ≡ undone halves mid)) → IsTurned q names group old new before after was best goes
  turned_back goes mid halves same kept back none end = turned_to goes
      (λ e. subst (λ h. IsBack old new h after) kept (subst (λ m. IsBack m new halves after) same (back e)))
      (λ e. subst (λ h. left_of h old ≡ []) kept (subst (λ m. left_of halves m ≡ []) same (none e)))
      (λ e. subst (λ h. (after ≡ []) × (new ≡ undone h old)) kept (subst (λ m. (after ≡ []) × (new ≡ undone halves m)) same (end e)))

-- a turn that splits
pub turned_split : (q : Question) (names : List ℕ) (group : Option ℕ) (p : Pair) (old new : List ℕ) (before after : List Half) (best : Best) → length old ≡ length q.of → IsOpen q (in_group names group) old p → IsSplit p old new before after
    → IsTurned q names group old new before after best best true
turned_split q names group p old new before after best long open_at is base start sought = (
  split_sought q names group base start p old new before after best long open_at is sought,
  (λ _. split_lighter q names group base start p old new before after best long open_at is sought),
  (λ e. absurd (false≢true (sym e))),
)
