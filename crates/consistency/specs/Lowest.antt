-- The least value that a subject has in the worlds with given pairs.
use Rattle.std.specs.Prelude.{◌≡◌, ℕ, ◌≤◌, [], ◌∷◌, ◌++◌, List, slice_index}
use Rattle.cca_base.specs.declared.cube.Pair.{Pair}
use Rattle.clause_form.specs.declared.clause.Clause.{Clause}
use Rattle.world_search.specs.Worlds.{HasAll, IsSolution}

-- a world with the pairs, no other of which has a lower value at the subject; its pair there is put behind the others
pub record IsLowest (clauses : List Clause) (base : List ℕ) (pairs : List Pair) (subject : ℕ) (xs : List ℕ) (new : List Pair) : Type 0 where
  pub world : IsSolution clauses base xs
  pub has : HasAll pairs xs
  pub lowest : (ys : List ℕ) → IsSolution clauses base ys → HasAll pairs ys → slice_index xs subject ≤ slice_index ys subject
  pub put : new ≡ pairs ++ record { item = subject; value = slice_index xs subject } ∷ []
