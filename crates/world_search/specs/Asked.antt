-- What a search looks at.
use Rattle.std.specs.Prelude.{Bool, ℕ, List}
use Rattle.world_search.specs.declared.store.Slot.{Slot}
use Rattle.world_search.specs.declared.words.WordClause.{WordClause}
use Rattle.world_search.specs.Stores.{AreSlotsMetIn}
use Rattle.world_search.specs.Words.{AreMetIn}

-- the clauses, and those that were learned of them, are true in each list that passes the test
pub record AreAllMetIn (clauses : List WordClause) (slots : List Slot) (want : List ℕ → Bool) : Type 0 where
  pub met : AreMetIn clauses want
  pub learned : AreSlotsMetIn slots want
