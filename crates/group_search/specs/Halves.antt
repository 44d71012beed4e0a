-- The halves of split boxes that are still to be looked at.
use Rattle.std.specs.Prelude.{◌≡◌, ℕ, ◌<◌, ◌+◌, ◌-◌, ◌*◌, ◌==◌, ◌^◌, ◌≢◌, Bool, true, false, cond, count_ones, List, [], ◌∷◌, ◌++◌, length, max, slice_set, slice_index, All, Contains}
use Rattle.std.specs.List.{sum_by}
use Rattle.cca_base.specs.Sets.{has}
use Rattle.cca_base.specs.declared.cube.Pair.{Pair}
use Rattle.group_search.specs.Questions.{Question, IsInside, IsSolution, IsWithin, cost_in}
use Rattle.group_search.specs.declared.halves.Half.{Half}

-- the product of the sets as numbers, each at least 1: the two halves of a box have as much together as the box
abbrev pub size : List ℕ → ℕ
size [] = 1
size (mask ∷ masks) = max 1 mask * size masks

-- the box before the splits, the newest first
abbrev pub undone : List Half → List ℕ → List ℕ
undone [] masks = masks
undone (half ∷ older) masks = undone older (slice_set masks half.item half.before)

-- the other halves, of the newest split first
abbrev pub left_of : List Half → List ℕ → List (List ℕ)
left_of [] masks = []
left_of (half ∷ older) masks = cond (half.left == 0) [] (slice_set masks half.item half.left ∷ []) ++ left_of older (slice_set masks half.item half.before)

-- both halves of each split are within what was split
abbrev pub AreHalves : List Half → List ℕ → Type 0
AreHalves [] masks = Unit {0}
AreHalves (half ∷ older) masks =
    IsWithin (slice_index masks half.item) half.before × IsWithin half.left half.before × AreHalves older (slice_set masks half.item half.before)

-- both halves of each split have fewer values than what was split
abbrev pub AreFewer : List Half → List ℕ → Type 0
AreFewer [] masks = Unit {0}
AreFewer (half ∷ older) masks =
    (count_ones (slice_index masks half.item) < count_ones half.before) × (count_ones half.left < count_ones half.before) × AreFewer older (slice_set masks half.item half.before)

-- the places are those of components that pass the test
abbrev pub SplitOwn : Question → (ℕ → Bool) → List Half → Type 0
SplitOwn q test halves = All (λ half. (half.item < length q.of) × (test (slice_index q.of half.item) ≡ true)) halves

-- each solution inside the box that costs less than the limit is inside one of these
abbrev pub AreAhead : Question → (ℕ → Bool) → List ℕ → ℕ → List (List ℕ) → Type 0
AreAhead q test masks limit boxes = (values costs : List ℕ) → IsSolution q test masks values costs → cost_in q.count test costs < limit
    → (b : List ℕ) × Contains boxes b × IsInside q test b values

-- what falls at each turn
abbrev pub weight : List (List ℕ) → ℕ
weight boxes = sum_by (λ b. 2 * size b - 1) boxes

-- the box without the pair, with the half that has it on top
pub record IsSplit (p : Pair) (old new : List ℕ) (before after : List Half) : Type 0 where
  pub half : Half
  pub put : after ≡ half ∷ before
  pub item : half.item ≡ p.item
  pub whole : half.before ≡ slice_index old p.item
  pub left : half.left ≡ 2 ^ p.value
  pub rest : ℕ
  pub kept : new ≡ slice_set old p.item rest
  pub sum : rest + 2 ^ p.value ≡ slice_index old p.item
  pub others : (a : ℕ) → has (slice_index old p.item) a ≡ true → a ≢ p.value → has rest a ≡ true
  pub within : IsWithin rest (slice_index old p.item)
  pub gone : has rest p.value ≡ false

-- the newest half that was left is the box at hand
pub record IsBack (old new : List ℕ) (before after : List Half) : Type 0 where
  pub same : left_of before old ≡ new ∷ left_of after new
  pub undone : undone after new ≡ undone before old
  pub halved : AreHalves before old → AreHalves after new
  pub fewer : AreFewer before old → AreFewer after new
  pub items : (half : Half) → Contains after half → (other : Half) × Contains before other × (other.item ≡ half.item)
