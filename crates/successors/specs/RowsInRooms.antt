-- What a contract sees of rows of choices in memory that is made once.
use Rattle.std.specs.Prelude.{ℕ, List}
use Rattle.cca_base.specs.declared.choice.Choice.{Choice}

-- the rows, and for how many choices each has room
pub record RowsInRooms : Type 0 where
  pub rows : List (List Choice)
  pub rooms : List ℕ
