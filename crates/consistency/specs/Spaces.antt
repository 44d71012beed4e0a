-- Memory for questions of a model's worlds.
use Rattle.std.specs.Prelude.{◌≡◌, ◌≤◌, length}
use Rattle.cca_base.specs.PlantModel.{PlantModel}
use Rattle.clause_form.specs.declared.clause.Clauses.{Clauses}
use Rattle.world_search.specs.Spaces.{IsSpace}
use Rattle.consistency.specs.declared.forced_space.ForcedSpace.{ForcedSpace}
use Rattle.consistency.specs.declared.world_space.WorldSpace.{WorldSpace}

-- it is for the subjects of these clauses
pub record IsWorldSpace (clauses : Clauses) (space : WorldSpace) : Type 0 where
  pub search : IsSpace clauses space.search
  pub sets : length space.sets.items ≡ length clauses.sizes
  pub pairs : length space.pairs.items ≡ length clauses.sizes

-- it is for the subjects of these clauses, with room for a pair of each component and of each variable
pub record IsForcedSpace (m : PlantModel) (clauses : Clauses) (space : ForcedSpace) : Type 0 where
  pub worlds : IsWorldSpace clauses space.worlds
  pub modes : length space.modes.items ≡ length m.components
  pub values : length space.values.items ≡ length clauses.sizes
  pub room : length m.variables ≤ space.pairs.room
