-- Memory for questions of a window.
use Rattle.std.specs.Prelude.{◌≡◌, ℕ}
use Rattle.clause_form.specs.declared.clause.Clauses.{Clauses}
use Rattle.consistency.specs.Spaces.{IsWorldSpace}
use Rattle.trajectory_estimator.specs.declared.space.WindowSpace.{WindowSpace}

-- memory for questions of these worlds and so many components
pub record IsWindowSpace (worlds : Clauses) (components : ℕ) (s : WindowSpace) : Type 0 where
  pub space : IsWorldSpace worlds s.worlds
  pub asked : s.asked.room ≡ components
  pub blamed : s.blamed.room ≡ components
