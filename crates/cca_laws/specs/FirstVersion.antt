-- The first version: repairs and mendings are what they were before there were chains.
use Rattle.std.specs.Prelude.{◌≡◌, ◌⊎◌, ◌↔◌, ◌<◌, false, IsTrue, ℕ, List, length, slice_index, All}
use Rattle.cca_base.specs.declared.model.Move.{Move}
use Rattle.cca_base.specs.PlantModel.{PlantModel}
use Rattle.cca_base.specs.Model.{WellFormed, RepairsFit, IsNext, is_broken}
use Rattle.cca_base.specs.Repairs.{Mending}

-- all repairs of a mode lead to one mode; nothing leads into a broken mode, and only repairs leave one
pub record MendAtOnce (moves : List Move) : Type 0 where
  pub one_target : (c mode a b : ℕ) → IsNext moves c mode a → IsNext moves c mode b → a ≡ b
  pub none_into : All (λ move. is_broken moves move.component move.target ≡ false) moves
  pub only_repairs_leave : All (λ move. IsTrue (is_broken moves move.component move.source) → IsTrue move.repair) moves

-- these are the rules of repairs in the first version
abbrev pub RulesAsBefore : Type 0
RulesAsBefore = (moves : List Move) → RepairsFit 1 moves ↔ MendAtOnce moves

-- what meets them meets the rules of the second version too
abbrev pub FirstIsSecond : Type 0
FirstIsSecond = (moves : List Move) → RepairsFit 1 moves → RepairsFit 2 moves

-- each component stands as it did, or in the next mode
pub record StandsOrMends (m : PlantModel) (s s2 : List ℕ) : Type 0 where
  pub full : length s2 ≡ length s
  pub each : (c : ℕ) → c < length s → (slice_index s2 c ≡ slice_index s c) ⊎ IsNext m.moves c (slice_index s c) (slice_index s2 c)

-- in the first version these are the mendings
abbrev pub MendingsAsBefore : Type 0
MendingsAsBefore = (m : PlantModel) → WellFormed m → m.version ≡ 1 → (s s2 : List ℕ) → Mending m s s2 ↔ StandsOrMends m s s2
