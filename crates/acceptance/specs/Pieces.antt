-- What is compiled from a model, or why it is refused.
use Rattle.cca_base.specs.declared.events.Stop.{Stop}
use Rattle.cca_base.specs.declared.events.Stop.TheVariants.{Refused, Memory}
use Rattle.cca_base.specs.Accepted.{IsCompiled}
use Rattle.cca_base.specs.PlantModel.{PlantModel}
use Rattle.acceptance.specs.declared.accepting.Pieces.{Pieces}
use Rattle.acceptance.specs.Refusals.{Refuses}

-- the parts that are compiled from the model
abbrev pub ArePieces : PlantModel → Pieces → Type 0
ArePieces m parts = IsCompiled (record { model = m; ways = parts.ways; order = parts.order; bounds = parts.bounds })

-- the model is refused, or memory ran out
abbrev pub IsStop : PlantModel → Stop → Type 0
IsStop m (Refused refusal) = Refuses m refusal
IsStop m Memory = Unit {0}
