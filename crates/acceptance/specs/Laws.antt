-- What refusals say together.
use Rattle.std.specs.Prelude.{◌≡◌}
use Rattle.cca_base.specs.declared.events.Refusal.{Refusal}
use Rattle.cca_base.specs.Accepted.{Accepted}
use Rattle.cca_base.specs.PlantModel.{PlantModel}
use Rattle.acceptance.specs.Refusals.{Refuses}

-- a model is refused in one way
abbrev pub ThereIsOneRefusal : Type 0
ThereIsOneRefusal = (m : PlantModel) (a b : Refusal) → Refuses m a → Refuses m b → a ≡ b

-- no accepted model is refused
abbrev pub AcceptedAreNotRefused : Type 0
AcceptedAreNotRefused = (m : PlantModel) (refusal : Refusal) → Refuses m refusal → Accepted m → ⊥
