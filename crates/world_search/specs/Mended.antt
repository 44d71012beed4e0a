-- Values that are mended.
use Rattle.std.specs.Prelude.{◌≡◌, ℕ, List, length}
use Rattle.cca_base.specs.declared.cube.Pair.{Pair}
use Rattle.world_search.specs.declared.mend.Mending.{Mending}
use Rattle.world_search.specs.declared.words.WordClause.{WordClause}
use Rattle.world_search.specs.Choices.{AllMetBy, AreOf}
use Rattle.world_search.specs.Worlds.{HasAll}

-- there is a mark for each of so many subjects, and room for all of them
pub record HasRoom (n : ℕ) (mending : Mending) : Type 0 where
  pub marks : length mending.fixed.items ≡ n
  pub room : length mending.queue.items ≡ n

-- the values are of the sets, with all clauses true and all pairs
pub record IsFit (clauses : List WordClause) (sets : List ℕ) (pairs : List Pair) (xs : List ℕ) : Type 0 where
  pub left : AreOf sets xs
  pub met : AllMetBy xs clauses
  pub pairs_held : HasAll pairs xs
