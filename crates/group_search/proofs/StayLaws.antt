-- What solutions cost that leave a value of a group's least paths, where other groups have floors.
use Rattle.std.proofs.Common.{◌≡◌, ◌≢◌, ℕ, ◌+◌, ◌-◌, ◌<◌, ◌≤◌, ◌==◌, true, false, not, All, List, length, get_or, slice_index, slice_index_or, None, Some, sym, ap, subst, ◌∙◌, arith}
use Rattle.std.proofs.lemmas.Bool.{eq-eqb}
use Rattle.std.proofs.lemmas.List.{get_or_default}
use Rattle.cca_base.specs.declared.cube.Pair.{Pair}
use Rattle.group_search.specs.Answers.{NoneLower}
use Rattle.group_search.specs.Bounds.{Leaves}
use Rattle.group_search.specs.Columns.{IsBox}
use Rattle.group_search.specs.Floors.{Floors, every}
use Rattle.group_search.specs.Questions.{Question, IsSolution, cost_in, in_group}
use Rattle.group_search.specs.declared.columns.Chosen.{Chosen}
use Rattle.group_search.specs.declared.path_box.PathBox.{PathBox}
use Rattle.group_search.proofs.FloorLaws.{cost_said, parts, solution_there}
use Rattle.group_search.proofs.PriceLaws.{alone}
use Rattle.group_search.proofs.Sums.{sum_more}

module _ (q : Question) (b : PathBox) (ready : IsBox q b) (names : List ℕ) (g : ℕ) (x : Chosen) (floors : Floors q b.masks names x.costs)
    (stand : (c : ℕ) → c < q.count → in_group names (Some g) c ≡ true → slice_index_or b.stands c false ≡ true) (p : Pair) (inside : slice_index q.of p.item < q.count)
    (own : in_group names (Some g) (slice_index q.of p.item) ≡ true) where
  -- what the others cost in the paths at hand
  abbrev beside : ℕ
  beside = cost_in q.count (λ c. not (slice_index names c == g)) x.costs

  -- one that leaves the pair pays the price beside
  leaves_pays : (price : ℕ) → Leaves q b (Some price) p → (y : Chosen) → IsSolution q every b.masks y.values y.costs → slice_index y.values p.item ≢ p.value
      → beside + (cost_in q.count (in_group names (Some g)) b.columns.costs + price) ≤ cost_in q.count every y.costs
  leaves_pays price leaves y s other =
      let test : ℕ → _ = in_group names (Some g) in
      let here = solution_there q test b.masks y.values y.costs s in
      let more = leaves y.values y.costs (alone q test (slice_index q.of p.item) b.masks y.values y.costs own here) other in
      let each : (d : ℕ) → d < q.count → test d ≡ true → slice_index b.columns.costs d ≤ slice_index y.costs d = λ d less its.
      ((ready.each d less).stands (stand d less its)).least y.values y.costs (alone q test d b.masks y.values y.costs its here) in
      let grown = sum_more q.count test (λ c. slice_index b.columns.costs c) (λ c. slice_index y.costs c) (slice_index q.of p.item) price inside own more each in
      omega (arith, grown, floors y.values y.costs s (λ h. not (h == g)), parts q.count names g y.costs)

  -- so no solution below the limit has a lower value there
  pub none_lower : (least total floor price limit : ℕ) → least ≤ cost_in q.count (in_group names (Some g)) b.columns.costs → total ≡ cost_in q.count every x.costs
      → floor ≡ cost_in q.count (in_group names (Some g)) x.costs → Leaves q b (Some price) p → limit ≤ total - floor + least + price → NoneLower q b.masks limit p.item p.value
  none_lower least total floor price limit under all some leaves reached y s below lower =
      let paid = leaves_pays price leaves y s (λ e. omega (arith, lower, e)) in
      absurd (omega (arith, paid, under, all, some, reached, below, parts q.count names g x.costs))

  pub never_lower : (limit : ℕ) → Leaves q b None p → NoneLower q b.masks limit p.item p.value
  never_lower limit leaves y s below lower =
      leaves y.values y.costs (alone q (in_group names (Some g)) (slice_index q.of p.item) b.masks y.values y.costs own (solution_there q (in_group names (Some g)) b.masks y.values y.costs s))
      (λ e. omega (arith, lower, e))

-- the same by what a call reads
module _ (q : Question) (owned : All (λ c. c < q.count) q.of) (b : PathBox) (ready : IsBox q b) (names : List ℕ) (x : Chosen) (floors : Floors q b.masks names x.costs) (long : length names ≡ q.count)
    (seen components : List ℕ) (same : seen ≡ names) (all : components ≡ q.of) (p : Pair) (at : p.item < length q.of) where
  abbrev group : ℕ
  group = get_or seen (get_or components p.item 0) 0

  group_is : group ≡ slice_index names (slice_index q.of p.item)
  group_is = ap (λ l. get_or l (get_or components p.item 0) 0) same ∙ ap (λ l. get_or names (get_or l p.item 0) 0) all

  own_group : in_group names (Some group) (slice_index q.of p.item) ≡ true
  own_group = eq-eqb (slice_index names (slice_index q.of p.item)) group (sym group_is)

  module _ (stand : (c : ℕ) → c < length seen → in_group seen (Some group) c ≡ true → slice_index_or b.stands c false ≡ true) where
    all_stand : (c : ℕ) → c < q.count → in_group names (Some group) c ≡ true → slice_index_or b.stands c false ≡ true
    all_stand c less its = stand c (omega (arith, less, long, ap length same)) (ap (λ l. slice_index l c == group) same ∙ its)

    pub keeps_some : (costs : List ℕ) (least total floor price limit : ℕ) → costs ≡ x.costs → least ≤ cost_in (length seen) (in_group seen (Some group)) b.columns.costs
        → total ≡ cost_in (length seen) (in_group seen None) costs → floor ≡ cost_in (length seen) (in_group seen (Some group)) costs
        → Leaves q b (Some price) p → limit ≤ total - floor + least + price → NoneLower q b.masks limit p.item p.value
    keeps_some costs least total floor price limit read under every_cost own_cost leaves reached =
        none_lower q b ready names group x floors all_stand p (owned p.item 0 at) own_group least total floor price limit
        (subst (λ z. least ≤ cost_in z (in_group names (Some group)) b.columns.costs) (ap length same ∙ long) (subst (λ l. least ≤ cost_in (length seen) (in_group l (Some group)) b.columns.costs) same under))
        (cost_said total q.count names x.costs seen costs None every_cost same read long)
        (cost_said floor q.count names x.costs seen costs (Some group) own_cost same read long)
        leaves reached

    pub keeps_never : (limit : ℕ) → Leaves q b None p → NoneLower q b.masks limit p.item p.value
    keeps_never limit leaves = never_lower q b ready names group x floors all_stand p (owned p.item 0 at) own_group limit leaves

-- what holds of a value that is read holds of what stands in the list
pub value_read : (values : List ℕ) (place value : ℕ) (P : ℕ → Type 0) → place < length values → value ≡ get_or values place value → P value → P (slice_index values place)
value_read values place value P within is = subst P (is ∙ get_or_default values place value 0 within)
