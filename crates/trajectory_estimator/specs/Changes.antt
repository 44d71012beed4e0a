-- What failures cost from each mode.
use Rattle.std.specs.Prelude.{◌≡◌, ◌<◌, ℕ, List, [], length, map, min, ◌-◌, Option, slice_index, slice_index_or}
use Rattle.cca_base.specs.Model.{HasMode, mode_counts}
use Rattle.cca_base.specs.PlantModel.{PlantModel}
use Rattle.cca_base.specs.declared.model.Component.{Component}
use Rattle.successors.specs.Choices.{AreLeast}

-- each component in the mode of this number, or in its last one where it has fewer
abbrev pub AreNear : List Component → ℕ → List ℕ → Type 0
AreNear components mode modes = modes ≡ map (λ x. min mode (length x.modes - 1)) components

-- what stands at a mode and a component
abbrev pub row_at : List (List (List (Option ℕ))) → ℕ → ℕ → List (Option ℕ)
row_at rows from c = slice_index_or (slice_index_or rows from []) c []

-- the least costs of the failures from a mode of a component stand there, mode by mode
pub record HasChanges (m : PlantModel) (rows : List (List (List (Option ℕ)))) (c from : ℕ) : Type 0 where
  pub mode : from < length rows
  pub component : c < length (slice_index_or rows from [])
  pub full : length (row_at rows from c) ≡ slice_index (mode_counts m) c
  pub least : AreLeast m.failures c from (row_at rows from c)

-- the same of each mode of each component
unfoldable pub AreChangesOf : PlantModel → List (List (List (Option ℕ))) → Type 0
AreChangesOf m rows = (c from : ℕ) → HasMode m c from → HasChanges m rows c from
