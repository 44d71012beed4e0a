-- What the prime implicants of a move are compiled from, and what is answered.
use Rattle.std.specs.Prelude.{ℕ, ◌≤◌, List, length}
use Rattle.cca_base.specs.declared.cube.Pair.{Pair}
use Rattle.cca_base.specs.declared.limits.TheConstants.{MAX_WAYS}
use Rattle.cca_base.specs.declared.model.Move.{Move}
use Rattle.cca_base.specs.PlantModel.{PlantModel}
use Rattle.cca_base.specs.Accepted.{AreWays}
use Rattle.cca_base.specs.Model.{HasMode}
use Rattle.cca_base.specs.State.{HasWorlds}
use Rattle.guard_compiler.specs.Rules.{AreRulesOf}
use Rattle.guard_compiler.specs.Ways.{AtMove}
use Rattle.guard_compiler.specs.declared.rules.RuleClause.{RuleClause}

-- exactly the prime implicants of the move with that number, which are no more than there may be
pub record AreWaysAt (m : PlantModel) (i : ℕ) (cubes : List (List Pair)) : Type 0 where
  pub ways : AtMove m i (λ move. AreWays m move cubes)
  pub few : length cubes ≤ MAX_WAYS

-- what the prime implicants of a move are compiled from: a model whose states all have a world, the clauses of its rules, and a move from a mode of its component
pub record IsCompilable (m : PlantModel) (rules : List RuleClause) (move : Move) : Type 0 where
  pub worlds : HasWorlds m
  pub clauses : AreRulesOf m rules
  pub source : HasMode m move.component move.source
