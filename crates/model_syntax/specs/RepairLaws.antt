-- What the codes of repairs mean.
use Rattle.std.specs.Prelude.{◌≡◌, ◌↔◌, ◌||◌, ◌&&◌, Bool, ℕ, true, false, List, [], ◌∷◌, ◌++◌, map}
use Rattle.std.specs.List.{list_any}
use Rattle.cca_base.specs.declared.model.Move.{Move}
use Rattle.cca_base.specs.PlantModel.{PlantModel}
use Rattle.cca_base.specs.Model.{WellFormed, IsInChain, RepairsFit, is_broken}
use Rattle.model_syntax.specs.Codes.{stands_in_chain, leads_to, is_into_broken, is_unmarked_exit, mends_twice, is_repair_cycle, move_faults}

-- the codes that a move may have rise, so that the first that applies is the least
abbrev pub CodesRise : Type 0
CodesRise = (m : PlantModel) (x : Move) → map (λ f. f.0) (move_faults m x) ≡ 5 ∷ 6 ∷ 7 ∷ 8 ∷ 21 ∷ []

-- in a well-formed model the test of a chain holds exactly of the modes that stand in it
abbrev pub ChainsAreTested : Type 0
ChainsAreTested = (m : PlantModel) → WellFormed m → (c from to : ℕ) → (stands_in_chain m c from to ≡ true) ↔ IsInChain m.moves c from to

-- a move that none of the codes applies to keeps the rules of repairs
abbrev pub CodesKeepRules : Type 0
CodesKeepRules = (m : PlantModel) → WellFormed m → (x : Move)
    → is_into_broken m x ≡ false → is_unmarked_exit m.moves x ≡ false → mends_twice m.moves x ≡ false → is_repair_cycle m x ≡ false
    → RepairsFit m.version (m.moves ++ x ∷ [])

-- where moves keep the rules, no code applies to one of them behind those before it
abbrev pub RulesGiveNoCode : Type 0
RulesGiveNoCode = (m : PlantModel) (x : Move) (rest : List Move) → RepairsFit m.version (m.moves ++ x ∷ rest)
    → (is_into_broken m x ≡ false) × (is_unmarked_exit m.moves x ≡ false) × (mends_twice m.moves x ≡ false) × (is_repair_cycle m x ≡ false)

-- the move leads to a broken mode, or is a repair of a mode to which an earlier move or itself leads
abbrev pub touches_broken : List Move → Move → Bool
touches_broken moves x = is_broken moves x.component x.target || (x.repair && list_any (leads_to x.component x.source) (moves ++ x ∷ []))

-- in the first version exactly such a move leads into a broken mode, and no cycle is named
abbrev pub FirstVersionAsBefore : Type 0
FirstVersionAsBefore = (m : PlantModel) (x : Move) → m.version ≡ 1 → (is_into_broken m x ≡ touches_broken m.moves x) × (is_repair_cycle m x ≡ false)
