-- What a search answers.
use Rattle.std.specs.Prelude.{◌≡◌, ◌⊎◌, ℕ, ◌<◌, ◌≤◌, ◌&&◌, nat_lt, List, take, slice_index, slice_set, Option, None, Some}
use Rattle.cca_base.specs.Estimates.{IsEarlier}
use Rattle.cca_base.specs.Sets.{has}
use Rattle.group_search.specs.Floors.{every}
use Rattle.group_search.specs.Questions.{Question, IsSolution, cost_in}
use Rattle.group_search.specs.declared.columns.Chosen.{Chosen}

-- a solution inside, of this cost
pub record IsOfCost (q : Question) (masks : List ℕ) (cost : ℕ) (x : Chosen) : Type 0 where
  pub solution : IsSolution q every masks x.values x.costs
  pub costs_this : cost_in q.count every x.costs ≡ cost

-- no solution inside below the limit has a lower value at the place
abbrev pub NoneLower : Question → List ℕ → ℕ → ℕ → ℕ → Type 0
NoneLower q masks limit place value = (x : Chosen) → IsSolution q every masks x.values x.costs → cost_in q.count every x.costs < limit → slice_index x.values place < value → ⊥

-- the place has its lower values alone
pub record IsLowerBox (place value : ℕ) (old new : List ℕ) : Type 0 where
  pub lower : ℕ
  pub put : new ≡ slice_set old place lower
  pub has_lower : (a : ℕ) → has lower a ≡ (has (slice_index old place) a && nat_lt a value)

-- a solution of this cost inside; none costs less, and of those of its cost its first values come first
pub record IsFirstLeast (q : Question) (masks : List ℕ) (count : ℕ) (x : Chosen) : Type 0 where
  pub solution : IsSolution q every masks x.values x.costs
  pub least : (y : Chosen) → IsSolution q every masks y.values y.costs → cost_in q.count every x.costs ≤ cost_in q.count every y.costs
  pub first : (y : Chosen) → IsOfCost q masks (cost_in q.count every x.costs) y → (take count y.values ≡ take count x.values) ⊎ IsEarlier (take count x.values) (take count y.values)

-- such a solution, or that there is none
abbrev pub IsAnswer : Question → List ℕ → ℕ → Option Chosen → Type 0
IsAnswer q masks count None = (x : Chosen) → IsSolution q every masks x.values x.costs → ⊥
IsAnswer q masks count (Some x) = IsFirstLeast q masks count x
