-- A unit that is power-cycled and then reset: what chains of repairs are, and what they are not.
use Rattle.std.specs.Prelude.{◌≡◌, ◌⊎◌, ◌↔◌, ℕ, List, [], ◌∷◌, codes}
use Rattle.cca_base.specs.declared.model.Move.{Move}
use Rattle.cca_base.specs.PlantModel.{PlantModel}
use Rattle.cca_base.specs.Model.{WellFormed, IsComplete, IsNext, IsMended, IsInChain, RepairsFit}
use Rattle.cca_base.specs.Repairs.{Mending, sound_pairs}
use Rattle.cca_base.specs.Steps.{AllowedPlan}
use Rattle.cca_laws.specs.Examples.{component_of, free_move, free_repair, moving}

-- the repair from hung to latched
abbrev pub power_move : Move
power_move = free_repair 0 2 1 0

-- the repair from latched to ok
abbrev pub reset_move : Move
reset_move = free_repair 0 1 0 1

-- the unit is ok, latched or hung, and starts hung
abbrev pub unit : PlantModel
unit = moving 2 (record (component_of (codes "dev") (codes "ok" ∷ codes "latched" ∷ codes "hung" ∷ [])) { start = 2 } ∷ []) (codes "d_power" ∷ codes "d_reset" ∷ []) (power_move ∷ reset_move ∷ [])

-- it is well formed, and each command is used
abbrev pub UnitIsWellFormed : Type 0
UnitIsWellFormed = WellFormed unit × IsComplete unit

-- and it is so in the second version alone: not in the first, and there is no third
abbrev pub OnlyInSecond : Type 0
OnlyInSecond = (version : ℕ) → WellFormed (record unit { version = version }) → version ≡ 2

-- the next mode of hung is latched
abbrev pub NextIsLatched : Type 0
NextIsLatched = (mode : ℕ) → IsNext unit.moves 0 2 mode ↔ (mode ≡ 1)

-- its mended mode is ok, the sound end of the chain
abbrev pub MendedIsOk : Type 0
MendedIsOk = (mode : ℕ) → IsMended unit.moves 0 2 mode ↔ (mode ≡ 0)

-- ok isn't broken, so it has no mended mode
abbrev pub OkHasNoMended : Type 0
OkHasNoMended = (mode : ℕ) → IsMended unit.moves 0 0 mode → ⊥

-- the chain of hung has all three modes
abbrev pub ChainOfHung : Type 0
ChainOfHung = (mode : ℕ) → IsInChain unit.moves 0 2 mode ↔ ((mode ≡ 0) ⊎ ((mode ≡ 1) ⊎ (mode ≡ 2)))

-- where the unit was hung it may be hung still, stand half-way, or be ok
abbrev pub MendingsOfHung : Type 0
MendingsOfHung = (s : List ℕ) → Mending unit (2 ∷ []) s ↔ ((s ≡ 0 ∷ []) ⊎ ((s ≡ 1 ∷ []) ⊎ (s ≡ 2 ∷ [])))

-- where it was latched it may not be hung
abbrev pub MendingsOfLatched : Type 0
MendingsOfLatched = (s : List ℕ) → Mending unit (1 ∷ []) s ↔ ((s ≡ 0 ∷ []) ⊎ (s ≡ 1 ∷ []))

-- where it was ok it has to be ok
abbrev pub MendingsOfOk : Type 0
MendingsOfOk = (s : List ℕ) → Mending unit (0 ∷ []) s ↔ (s ≡ 0 ∷ [])

-- the middle of a chain is as broken as its beginning: nothing leans on it
abbrev pub LatchedIsNotSound : Type 0
LatchedIsNotSound = sound_pairs unit (1 ∷ []) ≡ []

-- two commands mend it
abbrev pub TwoCommandsMend : Type 0
TwoCommandsMend = AllowedPlan unit (2 ∷ []) (0 ∷ 1 ∷ []) (0 ∷ [])

-- ---- what no version allows

-- no version allows the move beside the unit's two repairs
abbrev pub IsRefused : Move → Type 0
IsRefused move = (version : ℕ) → RepairsFit version (power_move ∷ reset_move ∷ move ∷ []) → ⊥

-- a repair from ok to hung: the chain would go round
abbrev pub NoChainGoesRound : Type 0
NoChainGoesRound = IsRefused (free_repair 0 0 2 2)

-- a repair from hung to hung, alone
abbrev pub NoRepairStays : Type 0
NoRepairStays = (version : ℕ) → RepairsFit version (free_repair 0 2 2 0 ∷ []) → ⊥

-- a repair from hung to ok, beside that to latched
abbrev pub OneNextMode : Type 0
OneNextMode = IsRefused (free_repair 0 2 0 2)

-- an ordinary move from ok into the middle of the chain
abbrev pub OnlyRepairsEnter : Type 0
OnlyRepairsEnter = IsRefused (free_move 0 0 1 2)

-- an ordinary move from the middle of the chain to ok
abbrev pub OnlyRepairsLeave : Type 0
OnlyRepairsLeave = IsRefused (free_move 0 1 0 2)
