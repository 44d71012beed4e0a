-- The parts in which a search keeps what is left, as a queue.
use Rattle.std.specs.Prelude.{◌≡◌, ◌⊎◌, ℕ, ◌<◌, List, length, map, All, Contains, Option, slice_index_or}
use Rattle.std.specs.List.{AllZip, sum_by}
use Rattle.std.specs.BinaryHeap.{IsHeap}
use Rattle.cca_base.specs.declared.cube.Pair.{Pair}
use Rattle.cca_base.specs.State.{Extends}
use Rattle.cca_base.specs.declared.choice.Choice.{Choice}
use Rattle.cost_search.specs.declared.costed.Costed.{Costed}
use Rattle.cost_search.specs.declared.part.Part.{Part}
use Rattle.cost_search.specs.Search.{IsAfterLast, IsUncut}
use Rattle.cca_base.specs.Choices.{AreRows}
use Rattle.cost_search.specs.SearchParts.{IsPart, IsIn, box_of, size, size_of, part_cmp}

-- parts of the rows, the greatest first
pub record IsQueue (rows : List (List Choice)) (parts : List Part) : Type 0 where
  pub heap : IsHeap part_cmp parts
  pub each : All (IsPart rows) parts

-- the modes and the cost of choices
abbrev pub modes_of : List Choice → List ℕ
modes_of picks = map (λ x. x.mode) picks

abbrev pub cost_of : List Choice → ℕ
cost_of picks = sum_by (λ x. x.cost) picks

-- a state is still to be given, as far as the last one given and the cubes say
pub record MayBeGiven (last : Option Costed) (cuts : List (List Pair)) (modes : List ℕ) (cost : ℕ) : Type 0 where
  pub after : IsAfterLast last modes cost
  pub uncut : IsUncut cuts modes

-- each such state of the rows is in a part
abbrev pub Covers : List (List Choice) → Option Costed → List (List Pair) → List Part → Type 0
Covers rows last cuts parts = (picks : List Choice) → AllZip Contains rows picks → MayBeGiven last cuts (modes_of picks) (cost_of picks) → IsIn rows parts picks

-- if there is a first part, its first state is still to be given
abbrev pub TopMayBeGiven : Option Costed → List (List Pair) → List Part → Type 0
TopMayBeGiven last cuts parts = (d : Part) → 0 < length parts → MayBeGiven last cuts (slice_index_or parts 0 d).modes (slice_index_or parts 0 d).cost

-- a state that agrees with these modes at these components was given or is cut
abbrev pub IsBlocked : Option Costed → List (List Pair) → List ℕ → ℕ → List ℕ → Type 0
IsBlocked last cuts modes cost components =
    ((IsAfterLast last modes cost → ⊥) × ((c : ℕ) → c < length modes → Contains components c))
    ⊎ ((cube : List Pair) × Contains cuts cube × Extends modes cube × All (λ p. Contains components p.item) cube)

-- pieces that have the first part's states, but for some that are not to be given any more
pub record Replaces (rows : List (List Choice)) (last : Option Costed) (cuts : List (List Pair)) (old pieces : List Part) : Type 0 where
  pub some : 0 < length old
  pub top : Part
  pub is_top : top ≡ slice_index_or old 0 top
  pub each : All (IsPart rows) pieces
  pub covers : (picks : List Choice) → AllZip Contains (box_of rows top) picks → MayBeGiven last cuts (modes_of picks) (cost_of picks) → IsIn rows pieces picks
  pub fewer : size_of rows pieces < size (box_of rows top)

-- what holds of a search's fields
pub record IsSearch (rows : List (List Choice)) (last : Option Costed) (cuts : List (List Pair)) (parts : List Part) : Type 0 where
  pub rows_fit : AreRows rows
  pub queue : IsQueue rows parts
  pub covers : Covers rows last cuts parts
