-- What each subject of a model may be, where components have given modes and variables given values.
use Rattle.std.specs.Prelude.{◌≡◌, ◌==◌, ℕ, ◌+◌, ◌<◌, ◌≤◌, Bool, not, ◌||◌, ◌&&◌, nat_lt, List, length, slice_index, All}
use Rattle.std.specs.List.{list_all}
use Rattle.cca_base.specs.Sets.{has}
use Rattle.cca_base.specs.declared.cube.Pair.{Pair}
use Rattle.cca_base.specs.declared.limits.TheConstants.{MAX_CHOICES}

-- each pair that is of this subject, counted from the first one's number, has this value
abbrev pub allows : ℕ → List Pair → ℕ → ℕ → Bool
allows first pairs d v = list_all (λ p. not (first + p.item == d) || p.value == v) pairs

-- the pairs are of subjects, counted from the first one's number, and have small values
abbrev pub ArePairs : ℕ → ℕ → List Pair → Type 0
ArePairs subjects first pairs = All (λ p. (first + p.item < subjects) × (p.value < MAX_CHOICES)) pairs

-- the sets have the subjects' values that all pairs allow, and no subject has more than a set can hold
pub record IsBase (sizes : List ℕ) (components : ℕ) (modes seen : List Pair) (base : List ℕ) : Type 0 where
  pub few : All (λ n. n ≤ MAX_CHOICES) sizes
  pub full : length base ≡ length sizes
  pub values : (d v : ℕ) → d < length sizes → has (slice_index base d) v ≡ (nat_lt v (slice_index sizes d) && allows 0 modes d v && allows components seen d v)
