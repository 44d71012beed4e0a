-- What a tick observes.
use Rattle.std.specs.Prelude.{◌≡◌, ℕ, IsTrue, List, length, Contains, IfSome}
use Rattle.cca_base.specs.declared.cube.Pair.{Pair}
use Rattle.cca_base.specs.PlantModel.{PlantModel}
use Rattle.cca_base.specs.Cube.{IsUnion}
use Rattle.cca_base.specs.Sets.{has}
use Rattle.cca_base.specs.Trace.{HasOneValue}
use Rattle.clause_form.specs.declared.clause.Clauses.{Clauses}
use Rattle.consistency.specs.Forced.{AreShown}
use Rattle.consistency.specs.Spaces.{IsForcedSpace}
use Rattle.consistency.specs.declared.mirror.Mirror.{Mirror}

-- what is pending, and the mirrored variables that have one value in all worlds of the plant's state, rising
abbrev pub IsObserved : PlantModel → List ℕ → ℕ → List Pair → List Pair → Type 0
IsObserved m plant mirrored pending seen = IsUnion (Contains pending) (λ p. IsTrue (has mirrored p.item) × HasOneValue m plant p) seen

-- the memory is for these worlds of the model, and what is kept, if there is something, is right of its modes and its variables
pub record IsMirror (m : PlantModel) (worlds : Clauses) (mirror : Mirror) : Type 0 where
  pub space : IsForcedSpace m worlds mirror.space
  pub plant : length mirror.plant.items ≡ length m.components
  pub kept : IfSome mirror.vars (λ vars. AreShown m mirror.plant.items vars mirror.space.pairs.items)
