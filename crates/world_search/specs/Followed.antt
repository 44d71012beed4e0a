-- What comes of a look at clauses: entries that follow from them, or a clash.
use Rattle.std.specs.Prelude.{◌≡◌, ℕ, Bool, true, false, List}
use Rattle.cca_base.specs.declared.cube.Pair.{Pair}
use Rattle.world_search.specs.declared.work.Work.{Work}
use Rattle.world_search.specs.Choices.{IsFoundFalse}
use Rattle.world_search.specs.Works.{IsClear, IsMoved, IsReady, IsRight}

-- with tests in whose worlds the clauses are true, the trail stays right; and if a clause is found false of all that is left, it is learned
pub record IsFollowed (holds : (List ℕ → Bool) → Type 0) (old new : Work) (found : Bool) : Type 0 where
  pub ready : IsReady new
  pub moved : IsMoved old new
  pub right : (want : List ℕ → Bool) (pairs : List Pair) → holds want → IsRight want pairs old → IsRight want pairs new
  pub clear : found ≡ false → IsClear new
  pub clash : found ≡ true → IsFoundFalse holds new
