-- A tick as a question of paths: each component is its own place, and its path is a choice of its row.
use Rattle.std.specs.Prelude.{◌≡◌, ◌==◌, ℕ, ◌<◌, ◌≤◌, ◌||◌, Bool, true, false, cond, List, [], length, All, Contains, Option, None, Some, slice_index, slice_index_or}
use Rattle.cca_base.specs.Choices.{AreRows}
use Rattle.cca_base.specs.declared.choice.Choice.{Choice}
use Rattle.cca_base.specs.declared.limits.TheConstants.{MAX_CHOICES}
use Rattle.cca_base.specs.declared.cube.Pair.{Pair}
use Rattle.cca_base.specs.Model.{HasMode}
use Rattle.cca_base.specs.PlantModel.{PlantModel}
use Rattle.cca_base.specs.Relations.{numbers_below}
use Rattle.cca_base.specs.Sets.{has}
use Rattle.cca_base.specs.Shown.{CanShow}
use Rattle.group_search.specs.Questions.{Question, in_group}

-- the row of the component has the mode at this cost
abbrev pub IsChoice : List (List Choice) → ℕ → ℕ → ℕ → Type 0
IsChoice rows c mode cost = Contains (slice_index_or rows c []) (record { mode = mode; cost = cost })

-- a choice of each row; the state of their modes has a world that agrees with what is seen
pub record IsTick (m : PlantModel) (rows : List (List Choice)) (seen : List Pair) (modes costs : List ℕ) : Type 0 where
  pub states : length modes ≡ length rows
  pub full : length costs ≡ length rows
  pub each : (c : ℕ) → c < length rows → IsChoice rows c (slice_index modes c) (slice_index costs c)
  pub shows : CanShow m modes seen

-- what a tick asks
abbrev pub tick_of : PlantModel → List (List Choice) → List Pair → Question
tick_of m rows seen = record {
  of = numbers_below (length rows);
  count = length rows;
  room = 0;
  has_cost = λ c modes cost. IsChoice rows c (slice_index modes c) cost;
  solves = IsTick m rows seen;
}

-- rows of choices, one of each component, whose modes are the component's and fit in a set
pub record AreRowsOf (m : PlantModel) (rows : List (List Choice)) : Type 0 where
  pub rows_fit : AreRows rows
  pub full : length rows ≡ length m.components
  pub modes : (c : ℕ) (x : Choice) → c < length rows → Contains (slice_index_or rows c []) x → HasMode m c x.mode
  pub small : (c : ℕ) (x : Choice) → c < length rows → Contains (slice_index_or rows c []) x → x.mode < MAX_CHOICES

-- each set has the modes of its row
abbrev pub AreMasks : List (List Choice) → List ℕ → Type 0
AreMasks rows masks = (c : ℕ) (x : Choice) → c < length rows → Contains (slice_index_or rows c []) x → x.mode < MAX_CHOICES → has (slice_index masks c) x.mode ≡ true

-- the row's first choice from a place on whose mode is in the set, or that there is none
abbrev pub IsNextIn : List Choice → ℕ → ℕ → Option ℕ → Type 0
IsNextIn row mask from None = (k : ℕ) (d : Choice) → from ≤ k → k < length row → has mask (slice_index_or row k d).mode ≡ false
IsNextIn row mask from (Some at) = (from ≤ at) × (at < length row) × ((d : Choice) → has mask (slice_index_or row at d).mode ≡ true)
    × ((k : ℕ) (d : Choice) → from ≤ k → k < at → has mask (slice_index_or row k d).mode ≡ false)

-- whether the component has one choice
abbrev pub is_fixed : List (List Choice) → ℕ → Bool
is_fixed rows c = length (slice_index_or rows c []) == 1

-- the mode of the component's one choice; of another the mode that stands in the list
abbrev pub own_mode : List (List Choice) → List ℕ → ℕ → ℕ
own_mode rows modes c = cond (is_fixed rows c) (slice_index_or (slice_index_or rows c []) 0 (record { mode = 0; cost = 0 })).mode (slice_index modes c)

-- whether a pair of the component is asked: those of the group's components are, and those of components with one choice
abbrev pub is_asked : List (List Choice) → List ℕ → Option ℕ → ℕ → Bool
is_asked rows names group c = in_group names group c || is_fixed rows c

-- exactly the pairs that are asked, each with its component's mode
pub record ArePairsOf (rows : List (List Choice)) (names : List ℕ) (group : Option ℕ) (modes : List ℕ) (pairs : List Pair) : Type 0 where
  pub own : All (λ p. (p.item < length modes) × (is_asked rows names group p.item ≡ true) × (p.value ≡ own_mode rows modes p.item)) pairs
  pub whole : (c : ℕ) → c < length modes → is_asked rows names group c ≡ true → Contains pairs (record { item = c; value = own_mode rows modes c })
