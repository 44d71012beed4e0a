-- Memory for estimates.
use Rattle.std.specs.Prelude.{◌≡◌, ℕ, length}
use Rattle.cca_base.specs.PlantModel.{PlantModel}
use Rattle.cca_base.specs.Relations.{numbers_below}
use Rattle.clause_form.specs.declared.clause.Clauses.{Clauses}
use Rattle.consistency.specs.Spaces.{IsWorldSpace}
use Rattle.group_search.specs.Rooms.{IsSearchRoomFor}
use Rattle.mode_estimator.specs.declared.space.EstimateSpace.{EstimateSpace}
use Rattle.mode_estimator.specs.declared.space.TickSpace.{TickSpace}
use Rattle.successors.specs.Spaces.{IsChoiceSpace}

-- memory for questions of these worlds and so many components
pub record IsTickSpace (worlds : Clauses) (components : ℕ) (s : TickSpace) : Type 0 where
  pub space : IsWorldSpace worlds s.worlds
  pub asked : s.asked.room ≡ components
  pub blamed : s.blamed.room ≡ components

-- memory for estimates of the model
pub record IsEstimateSpace (m : PlantModel) (worlds : Clauses) (s : EstimateSpace) : Type 0 where
  pub tick : IsTickSpace worlds (length m.components) s.tick
  pub search : IsSearchRoomFor (length m.components) (length m.components) 0 s.search
  pub masks : length s.masks ≡ length m.components
  pub choices : IsChoiceSpace m s.choices
  pub components : s.components.items ≡ numbers_below (length m.components)
  pub found : length s.found.modes ≡ length m.components
