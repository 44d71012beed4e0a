-- Moves with too many prime implicants.
use Rattle.std.specs.Prelude.{◌≡◌, ℕ, slice_get, Some}
use Rattle.cca_base.specs.declared.codes.TheConstants.{WAYS}
use Rattle.cca_base.specs.declared.model.Move.{Move}
use Rattle.cca_base.specs.declared.events.Stop.{Stop}
use Rattle.cca_base.specs.declared.events.Stop.TheVariants.{Refused, Memory}
use Rattle.cca_base.specs.declared.events.Detail.TheVariants.{OfMove}
use Rattle.cca_base.specs.declared.limits.TheConstants.{MAX_WAYS}
use Rattle.cca_base.specs.PlantModel.{PlantModel}
use Rattle.cca_base.specs.Implicants.{PrimeImplicant}
use Rattle.prime_implicants.specs.Many.{AreMoreCubes}

-- the model's move with this number is so
abbrev pub AtMove : PlantModel → ℕ → (Move → Type 0) → Type 0
AtMove m i P = (move : Move) → slice_get m.moves i ≡ Some move → P move

-- more prime implicants of the move than there may be
abbrev pub HasManyWays : PlantModel → Move → Type 0
HasManyWays m move = AreMoreCubes MAX_WAYS (PrimeImplicant m move)

-- the move with that number is refused, since it has too many prime implicants, or memory ran out
abbrev pub IsStop : PlantModel → ℕ → Stop → Type 0
IsStop m i (Refused refusal) = (refusal ≡ record { code = WAYS; detail = OfMove i }) × AtMove m i (HasManyWays m)
IsStop m i Memory = Unit {0}
