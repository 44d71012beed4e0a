-- Pairs of the least paths, and what solutions cost that leave them.
use Rattle.std.proofs.Common.{◌≡◌, ◌≢◌, ◌⊎◌, inl, inr, ℕ, ◌+◌, ◌-◌, ◌<◌, ◌≤◌, Bool, true, false, List, [], ◌∷◌, length, slice_index, slice_index_or, slice_get, Option, Some, None, All, IfSome, IsNone, take, get_or, refl, sym, ap, subst, ◌∙◌, arith}
use Rattle.std.proofs.lemmas.Bool.{eq-eqb, eqb-true}
use Rattle.std.proofs.lemmas.Bool.Decides.{eqb_tells}
use Rattle.std.proofs.lemmas.Option.{get_or_from_slice_get, slice_get-get_or}
use Rattle.std.proofs.lemmas.List.Elements.{All-cons, All-get_or, All-more, All-nil, All-tail, All-weaker}
use Rattle.cca_base.specs.State.{Extends}
use Rattle.cca_base.specs.declared.cube.Pair.{Pair}
use Rattle.group_search.specs.Bounds.{AllStand, EachPays, IsHeld, IsOpen, Leaves, LeavesCostAtLeast}
use Rattle.group_search.specs.Columns.{ArePaths, IsBox, IsColumn, itself}
use Rattle.group_search.specs.Questions.{AreOf, CostsAtLeast, IsCut, IsInside, IsSolution, Question, cost_in}
use Rattle.group_search.specs.declared.choose.Choice.{Choice}
use Rattle.group_search.specs.declared.path_box.PathBox.{PathBox}
use Rattle.group_search.proofs.PayLaws.{pays_all, pays_beside}
use Rattle.group_search.proofs.Sums.{sum_le}

-- values inside at more components are inside at one of them
inside_one : (q : Question) (test : ℕ → Bool) (masks values : List ℕ) (c : ℕ) → test c ≡ true → IsInside q test masks values → IsInside q (itself c) masks values
inside_one q test masks values c own inside place less is = inside place less (ap test (eqb-true (slice_index q.of place) c is) ∙ own)

solution_one : (q : Question) (test : ℕ → Bool) (masks values costs : List ℕ) (c : ℕ) → test c ≡ true → IsSolution q test masks values costs → IsSolution q (itself c) masks values costs
solution_one q test masks values costs c own s = record { solves = s.solves; inside = inside_one q test masks values c own s.inside }

-- one of the pairs is left by values that don't have all of them
one_left : (values : List ℕ) (limit cost : ℕ) (cut : List Pair) → All (λ p. p.item < length values) cut → All (λ p. slice_index values p.item ≢ p.value → limit ≤ cost) cut
    → (Extends values cut → ⊥) → limit ≤ cost
one_left values limit cost [] within each leaves = absurd (leaves (All-nil (λ p. slice_get values p.item ≡ Some p.value)))
one_left values limit cost (p ∷ cut) within each leaves = elim (eqb_tells (slice_index values p.item) p.value) [
  | inl same ↦
      let here : slice_get values p.item ≡ Some p.value = slice_get-get_or values p.item 0 (within 0 p (omega arith)) ∙ ap (λ v. Some v) same.1 in
      one_left values limit cost cut (All-tail (λ r. r.item < length values) p cut within) (All-tail (λ r. slice_index values r.item ≢ r.value → limit ≤ cost) p cut each)
      (λ rest. leaves (All-cons (λ r. slice_get values r.item ≡ Some r.value) p cut here rest))
  | inr other ↦ each 0 p (omega arith) other.1
]

le_or_less : (x y : ℕ) → (x ≤ y) ⊎ (y < x)
le_or_less x y = grind arith

module _ (q : Question) (test : ℕ → Bool) (b : PathBox) (ready : IsBox q b) where
  -- a component without a path in the box has no solution there
  pub none_stands : (c limit : ℕ) → c < q.count → test c ≡ true → slice_index_or b.stands c false ≡ false → CostsAtLeast q test b.masks limit
  none_stands c limit less own stands_not values costs s = absurd ((ready.each c less).none stands_not values costs (solution_one q test b.masks values costs c own s))

-- values of components that a group has are pairs of its least paths
pub cut_held : (q : Question) (test : ℕ → Bool) (b : PathBox) (cut : List Pair) → Extends b.columns.values cut → AreOf q test cut → All (IsHeld q test b) cut
cut_held q test b cut has of k d less =
    let p = get_or cut k d in
    record { place = (of k d less).0; own = (of k d less).1; value = get_or_from_slice_get b.columns.values p.item p.value 0 (has k d less) }

-- ---- the least paths of components that each have one

module _ (q : Question) (test : ℕ → Bool) (b : PathBox) (ready : IsBox q b) (stand : AllStand q test b) where
  column_at : (c : ℕ) → c < q.count → test c ≡ true → IsColumn q b.masks c b.columns
  column_at c less own = (ready.each c less).stands (stand c less own)

  pub least_paths : ArePaths q test b.columns.values b.columns.costs
  least_paths = record {
    places = ready.shape.values;
    components = ready.shape.costs;
    cost = λ c less own. (column_at c less own).cost;
    cheap = λ c less own. (column_at c less own).cheap;
  }

  pub least_inside : All (λ c. c < q.count) q.of → IsInside q test b.masks b.columns.values
  least_inside owned place less own =
      let c = slice_index q.of place in
      (column_at c (All-get_or (λ d. d < q.count) q.of place 0 less owned) own).inside place less (eq-eqb c c refl)

  -- solutions inside cost the least paths at least
  pub least_cost : CostsAtLeast q test b.masks (cost_in q.count test b.columns.costs)
  least_cost values costs s =
      sum_le q.count test (λ c. slice_index b.columns.costs c) (λ c. slice_index costs c)
      (λ c less own. (column_at c less own).least values costs (solution_one q test b.masks values costs c own s))

-- ---- what it costs to leave a pair

module _ (q : Question) (test : ℕ → Bool) (b : PathBox) (p : Pair) (limit : ℕ) (held : IsHeld q test b p) where
  -- where the bound and what is left of the price reach the limit
  pub price_leaves : (spent : List ℕ) (price total : ℕ) → All (λ c. c < q.count) q.of → cost_in q.count test b.columns.costs ≤ total
      → EachPays q test b.masks b.columns.costs spent (total - cost_in q.count test b.columns.costs)
      → Leaves q b (Some price) p → limit ≤ total + (price - slice_index spent (slice_index q.of p.item)) → LeavesCostAtLeast q test b.masks limit p
  price_leaves spent price total owned base pays leaves reached values costs s other =
      let c = slice_index q.of p.item in
      let least = b.columns.costs in
      let more = total - cost_in q.count test least in
      let less : c < q.count = All-get_or (λ d. d < q.count) q.of p.item 0 held.place owned in
      let paid = pays values costs s in
      let costs_price : slice_index least c + price ≤ slice_index costs c = leaves values costs (solution_one q test b.masks values costs c held.own s) other in
      elim (le_or_less price (slice_index spent c)) [
        | inl spent_all ↦ let all = pays_all q test least spent more costs paid in omega (arith, reached, spent_all, base, all)
        | inr rest ↦
            let all = pays_beside q test least spent more costs c (price - slice_index spent c) less held.own (omega (arith, rest, costs_price)) paid in
            omega (arith, reached, rest, base, all)
      ]

-- each solution leaves one of the pairs of a cut
pub cut_costs : (q : Question) (test : ℕ → Bool) (b : PathBox) (cut : List Pair) (limit : ℕ) → IsCut q cut → ((values costs : List ℕ) → q.solves values costs → length values ≡ length q.of)
    → All (IsHeld q test b) cut → All (LeavesCostAtLeast q test b.masks limit) cut → CostsAtLeast q test b.masks limit
cut_costs q test b cut limit is whole held each values costs s =
    let long : length values ≡ length q.of = whole values costs s.solves in
    one_left values limit (cost_in q.count test costs) cut
    (All-weaker (IsHeld q test b) (λ p. p.item < length values) (λ p h. omega (arith, h.place, long)) cut held)
    (All-weaker (LeavesCostAtLeast q test b.masks limit) (λ p. slice_index values p.item ≢ p.value → limit ≤ cost_in q.count test costs) (λ p leaves. leaves values costs s) cut each)
    (is values costs s.solves)

-- ---- the best choice so far

-- what stands in the place of a pair that is not there
abbrev pub no_pair : Pair
no_pair = record { item = 0; value = 0 }

pub is_at : (P : Choice → Type 0) (o : Option Choice) (x : Choice) → o ≡ Some x → IfSome o P → P x
is_at P o x e h = subst (λ z. IfSome z P) e h

pub is_some : (P : Choice → Type 0) (o : Option Choice) (x : Choice) → o ≡ Some x → P x → IfSome o P
is_some P o x e h = subst (λ z. IfSome z P) (sym e) h

some_not_none : (o : Option Choice) (x : Choice) → o ≡ Some x → IsNone o → ⊥
some_not_none o x e none = absurd (cc)

-- it can be made; without one each pair that was looked at costs the limit to leave
pub record IsBestOf (q : Question) (test : ℕ → Bool) (masks : List ℕ) (limit : ℕ) (looked_at : List Pair) (best : Option Choice) : Type 0 where
  pub opens : IfSome best (λ x. IsOpen q test masks x.pair)
  pub none : IsNone best → All (LeavesCostAtLeast q test masks limit) looked_at

module _ (q : Question) (test : ℕ → Bool) (masks : List ℕ) (limit : ℕ) where
  pub best_begins : IsBestOf q test masks limit [] None
  best_begins = record { opens = tt; none = λ _. All-nil (LeavesCostAtLeast q test masks limit) }

  pub best_takes : (looked_at : List Pair) (best : Option Choice) (x : Choice) → best ≡ Some x → IsOpen q test masks x.pair → IsBestOf q test masks limit looked_at best
  best_takes looked_at best x e opens = record {
    opens = is_some (λ y. IsOpen q test masks y.pair) best x e opens;
    none = λ none. absurd (some_not_none best x e none);
  }

  pub best_passes : (cut : List Pair) (k : ℕ) (old best : Option Choice) → best ≡ old → k < length cut → LeavesCostAtLeast q test masks limit (get_or cut k no_pair)
      → IsBestOf q test masks limit (take k cut) old → IsBestOf q test masks limit (take (k + 1) cut) best
  best_passes cut k old best e less leaves was =
      let next : IsBestOf q test masks limit (take (k + 1) cut) old = record {
        opens = was.opens;
        none = λ none. All-more (LeavesCostAtLeast q test masks limit) cut k no_pair less (was.none none) leaves;
      } in
      subst (IsBestOf q test masks limit (take (k + 1) cut)) (sym e) next
