-- How many commands are enough for a component, and for a goal.
use Rattle.std.specs.Prelude.{◌≡◌, ℕ, ◌+◌, ◌-◌, ◌*◌, ◌<◌, List, length, slice_index, sum_by}
use Rattle.cca_base.specs.declared.cube.Pair.{Pair}
use Rattle.cca_base.specs.PlantModel.{PlantModel}
use Rattle.cca_base.specs.Model.{mode_counts}
use Rattle.cca_base.specs.Implicants.{Needs}
use Rattle.cca_base.specs.Relations.{AreExactly}

-- exactly the components that c needs, rising
abbrev pub AreNeeds : PlantModel → ℕ → List ℕ → Type 0
AreNeeds m c = AreExactly (Needs m c)

-- the bound of c is one less than its modes, times one more than the bounds of what it needs
pub record IsBound (m : PlantModel) (bounds : List ℕ) (c : ℕ) : Type 0 where
  pub needs : List ℕ
  pub are_needs : AreNeeds m c needs
  pub equation : slice_index bounds c ≡ (slice_index (mode_counts m) c - 1) * (1 + sum_by (slice_index bounds) needs)

-- the bound of each component
pub record AreBounds (m : PlantModel) (bounds : List ℕ) : Type 0 where
  pub full : length bounds ≡ length m.components
  pub each : (c : ℕ) → c < length m.components → IsBound m bounds c

-- the stated number of a goal: the sum of the bounds of its components
abbrev pub stated_number : List ℕ → List Pair → ℕ
stated_number bounds goal = sum_by (λ p. slice_index bounds p.item) goal
