-- The prime implicants of all moves.
use Rattle.std.specs.Prelude.{◌≡◌, ℕ, ◌≤◌, List, length, slice_get, Some, All}
use Rattle.cca_base.specs.declared.codes.TheConstants.{WAYS}
use Rattle.cca_base.specs.declared.cube.Pair.{Pair}
use Rattle.cca_base.specs.declared.model.Move.{Move}
use Rattle.cca_base.specs.declared.events.Stop.{Stop}
use Rattle.cca_base.specs.declared.events.Stop.TheVariants.{Refused, Memory}
use Rattle.cca_base.specs.declared.events.Detail.TheVariants.{OfMove}
use Rattle.cca_base.specs.declared.limits.TheConstants.{MAX_WAYS}
use Rattle.cca_base.specs.Accepted.{AreWays}
use Rattle.cca_base.specs.PlantModel.{PlantModel}
use Rattle.acceptance.specs.Refusals.{IsFirstWithMany}

-- for each move exactly its prime implicants, of which there are not too many
pub record AreAllWays (m : PlantModel) (ways : List (List (List Pair))) : Type 0 where
  pub full : length ways ≡ length m.moves
  pub each : (i : ℕ) (move : Move) (cubes : List (List Pair)) → slice_get m.moves i ≡ Some move → slice_get ways i ≡ Some cubes → AreWays m move cubes
  pub few : All (λ cubes. length cubes ≤ MAX_WAYS) ways

-- the first move that has too many prime implicants is refused, or memory ran out
abbrev pub IsFirstStop : PlantModel → Stop → Type 0
IsFirstStop m (Refused refusal) = (i : ℕ) × (refusal ≡ record { code = WAYS; detail = OfMove i }) × IsFirstWithMany m i
IsFirstStop m Memory = Unit {0}
