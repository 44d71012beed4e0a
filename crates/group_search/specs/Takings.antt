-- Paths of a group that are taken over.
use Rattle.std.specs.Prelude.{◌≡◌, ℕ, ◌<◌, cond, List, length, slice_index, Option}
use Rattle.group_search.specs.Questions.{in_group}
use Rattle.group_search.specs.declared.columns.Chosen.{Chosen}

-- the group's values and costs are what was found, and the others are as before
pub record IsTaken (of names : List ℕ) (group : Option ℕ) (found old new : Chosen) : Type 0 where
  pub places : length new.values ≡ length old.values
  pub components : length new.costs ≡ length old.costs
  pub values : (place : ℕ) → place < length of → slice_index new.values place ≡ cond (in_group names group (slice_index of place)) (slice_index found.values place) (slice_index old.values place)
  pub costs : (c : ℕ) → c < length names → slice_index new.costs c ≡ cond (in_group names group c) (slice_index found.costs c) (slice_index old.costs c)
