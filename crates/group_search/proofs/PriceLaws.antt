-- What it costs to leave a pair of the least paths.
use Rattle.std.proofs.Common.{◌≡◌, inl, inr, ℕ, ◌+◌, ◌-◌, ◌<◌, ◌≤◌, ◌^◌, Bool, true, false, List, length, take, slice_index, slice_index_or, get_or, min, Option, Some, None, All, refl, sym, ap, subst, ◌∙◌, arith}
use Rattle.std.proofs.lemmas.Bool.{cases_lt, eq-eqb, eqb-true}
use Rattle.std.proofs.lemmas.List.Elements.{All-more, All-weaker}
use Rattle.cca_base.specs.Sets.{has}
use Rattle.cca_base.specs.declared.cube.Pair.{Pair}
use Rattle.group_search.specs.Bounds.{Leaves, LeavesAt, PaysBeside}
use Rattle.group_search.specs.Columns.{IsBox, IsColumn, itself}
use Rattle.group_search.specs.Questions.{Question, IsSolution}
use Rattle.group_search.specs.declared.path_box.PathBox.{PathBox}

-- what stands in the place of a pair that is not there
abbrev pub no_pair : Pair
no_pair = record { item = 0; value = 0 }

-- a test of the component at a place, of the same components
pub own_at : (test : ℕ → Bool) (components of : List ℕ) (at : ℕ) (r : Bool) → components ≡ of → r ≡ test (slice_index components at) → r ≡ true → test (slice_index of at) ≡ true
own_at test components of at r same is own = subst (λ z. test (slice_index z at) ≡ true) same (sym is ∙ own)

-- a solution inside is inside at one component
pub alone : (q : Question) (test : ℕ → Bool) (c : ℕ) (masks values costs : List ℕ) → test c ≡ true → IsSolution q test masks values costs → IsSolution q (itself c) masks values costs
alone q test c masks values costs own x = record {
  solves = x.solves;
  inside = λ place less is. x.inside place less (ap test (eqb-true (slice_index q.of place) c is) ∙ own);
}

-- a pair of a least path
module _ (q : Question) (b : PathBox) (p : Pair) (own : All (λ c. c < q.count) q.of) (ready : IsBox q b) (place : p.item < length q.of) (value : slice_index b.columns.values p.item ≡ p.value)
    (stands : slice_index_or b.stands (slice_index q.of p.item) false ≡ true) where
  column : IsColumn q b.masks (slice_index q.of p.item) b.columns
  column = let either = ready.each (slice_index q.of p.item) (own p.item 0 place) in either.stands stands

  pub held_value : has (slice_index b.masks p.item) p.value ≡ true
  held_value = subst (λ v. has (slice_index b.masks p.item) v ≡ true) value (column.inside p.item place (eq-eqb (slice_index q.of p.item) (slice_index q.of p.item) refl))

  pub held_word : slice_index b.masks p.item < 2 ^ 64
  held_word = ready.words p.item 0 (omega (arith, place, ready.masks))

  pub held_leaves : Leaves q b (slice_index_or b.columns.prices p.item None) p
  held_leaves values costs x other = column.more p.item values costs place refl x (λ same. other (same ∙ value))

-- what is left of a price beside what was spent
module _ (q : Question) (test : ℕ → Bool) (b : PathBox) (spent : List ℕ) where
  beside_less : (more less least paid cost : ℕ) → less ≤ more → PaysBeside (Some more) least paid cost → PaysBeside (Some less) least paid cost
  beside_less more less least paid cost under (inl none) = inl (omega arith)
  beside_less more less least paid cost under (inr some) = inr (omega arith)

  leaves_less : (p : Pair) (more less : ℕ) → less ≤ more → LeavesAt q test b spent (Some more) p → LeavesAt q test b spent (Some less) p
  leaves_less p more less under leaves values costs x other =
      beside_less more less (slice_index b.columns.costs (slice_index q.of p.item)) (slice_index spent (slice_index q.of p.item)) (slice_index costs (slice_index q.of p.item)) under (leaves values costs x other)

  leaves_any : (p : Pair) (less : Option ℕ) → LeavesAt q test b spent None p → LeavesAt q test b spent less p
  leaves_any p less leaves values costs x other = absurd (leaves values costs x other)

  leaves_at : (p : Pair) (price : ℕ) → test (slice_index q.of p.item) ≡ true → Leaves q b (Some price) p → LeavesAt q test b spent (Some (price - slice_index spent (slice_index q.of p.item))) p
  leaves_at p price own leaves values costs x other =
      let c = slice_index q.of p.item in
      let more : slice_index b.columns.costs c + price ≤ slice_index costs c = leaves values costs (alone q test c b.masks values costs own x) other in
      elim (cases_lt (slice_index spent c) price) [
        | inl some ↦ inr (omega (arith, more, some))
        | inr none ↦ inl (omega (arith, none))
      ]

  leaves_never : (p : Pair) (less : Option ℕ) → test (slice_index q.of p.item) ≡ true → Leaves q b None p → LeavesAt q test b spent less p
  leaves_never p less own leaves values costs x other = absurd (leaves values costs (alone q test (slice_index q.of p.item) b.masks values costs own x) other)

  -- the next pair
  module _ (pairs : List Pair) (k : ℕ) (inside : k < length pairs) (own : test (slice_index q.of (get_or pairs k no_pair).item) ≡ true) where
    pub least_first : (price left : ℕ) → left ≡ price - slice_index spent (slice_index q.of (get_or pairs k no_pair).item) → Leaves q b (Some price) (get_or pairs k no_pair)
        → All (LeavesAt q test b spent None) (take k pairs) → All (LeavesAt q test b spent (Some left)) (take (k + 1) pairs)
    least_first price left is leaves before =
        All-more (LeavesAt q test b spent (Some left)) pairs k no_pair inside
        (All-weaker (LeavesAt q test b spent None) (LeavesAt q test b spent (Some left)) (λ p. leaves_any p (Some left)) (take k pairs) before)
        (subst (λ n. LeavesAt q test b spent (Some n) (get_or pairs k no_pair)) (sym is) (leaves_at (get_or pairs k no_pair) price own leaves))

    pub least_next : (price left other less : ℕ) → left ≡ price - slice_index spent (slice_index q.of (get_or pairs k no_pair).item) → less ≡ min left other
        → Leaves q b (Some price) (get_or pairs k no_pair) → All (LeavesAt q test b spent (Some other)) (take k pairs) → All (LeavesAt q test b spent (Some less)) (take (k + 1) pairs)
    least_next price left other less is lesser leaves before =
        All-more (LeavesAt q test b spent (Some less)) pairs k no_pair inside
        (All-weaker (LeavesAt q test b spent (Some other)) (LeavesAt q test b spent (Some less)) (λ p. leaves_less p other less (omega (arith, lesser))) (take k pairs) before)
        (leaves_less (get_or pairs k no_pair) (price - slice_index spent (slice_index q.of (get_or pairs k no_pair).item)) less (omega (arith, is, lesser)) (leaves_at (get_or pairs k no_pair) price own leaves))

    pub least_passed : (least : Option ℕ) → Leaves q b None (get_or pairs k no_pair) → All (LeavesAt q test b spent least) (take k pairs) → All (LeavesAt q test b spent least) (take (k + 1) pairs)
    least_passed least leaves before = All-more (LeavesAt q test b spent least) pairs k no_pair inside before (leaves_never (get_or pairs k no_pair) least own leaves)
