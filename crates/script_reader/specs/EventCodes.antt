-- What is wrong with an event line whose names are known, and which code it gets.
use Rattle.std.specs.Prelude.{ℕ, Bool, false, not, ◌||◌, ◌==◌, List, [], ◌∷◌, Option, slice_get}
use Rattle.std.specs.List.{list_any}
use Rattle.std.specs.Option.{option_map_or}
use Rattle.cca_base.specs.declared.codes.TheConstants.{NOT_SENSED, BROKEN_GOAL, REPEATED_PAIR, MIRRORED}
use Rattle.cca_base.specs.declared.cube.Pair.{Pair}
use Rattle.cca_base.specs.PlantModel.{PlantModel}
use Rattle.cca_base.specs.Model.{is_broken}
use Rattle.cca_base.specs.Sets.{has}
use Rattle.formula_syntax.specs.Least.{least}

-- one of the pairs is of the item
abbrev pub has_item : List Pair → ℕ → Bool
has_item pairs item = list_any (λ p. p.item == item) pairs

-- two of the pairs are of one item
abbrev pub has_item_twice : List Pair → Bool
has_item_twice [] = false
has_item_twice (p ∷ ps) = has_item ps p.item || has_item_twice ps

-- the variable is sensed
abbrev pub is_sensed : PlantModel → ℕ → Bool
is_sensed m v = option_map_or (λ x. x.sensed) (slice_get m.variables v) false

-- the pair's mode is broken
abbrev pub is_broken_pair : PlantModel → Pair → Bool
is_broken_pair m p = is_broken m.moves p.item p.value

-- the least code of a goal
unfoldable pub goal_code : PlantModel → List Pair → Option ℕ
goal_code m pairs = least ((BROKEN_GOAL, list_any (is_broken_pair m) pairs) ∷ (REPEATED_PAIR, has_item_twice pairs) ∷ [])

-- the least code of observations
unfoldable pub observe_code : PlantModel → List Pair → ℕ → List Pair → Option ℕ
observe_code m pending mirrored pairs = least ((NOT_SENSED, list_any (λ p. not (is_sensed m p.item)) pairs)
    ∷ (REPEATED_PAIR, has_item_twice pairs || list_any (λ p. has_item pending p.item) pairs)
    ∷ (MIRRORED, list_any (λ p. has mirrored p.item) pairs) ∷ [])

-- the least code of a variable that is to be mirrored
unfoldable pub mirror_code : PlantModel → List Pair → ℕ → ℕ → Option ℕ
mirror_code m pending mirrored v = least ((NOT_SENSED, not (is_sensed m v)) ∷ (REPEATED_PAIR, has_item pending v) ∷ (MIRRORED, has mirrored v) ∷ [])
