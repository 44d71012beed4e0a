-- Which of two unreachable pairs is named, and which of two moves and of two cubes is chosen.
use Rattle.std.specs.Prelude.{ℕ, false, List, [], ◌∷◌, codes}
use Rattle.cca_base.specs.declared.cube.Pair.{Pair}
use Rattle.cca_base.specs.declared.formula.Formula.{Formula}
use Rattle.cca_base.specs.declared.model.Component.{Component}
use Rattle.cca_base.specs.declared.model.Move.{Move}
use Rattle.cca_base.specs.declared.events.Reply.TheVariants.{Unreachable}
use Rattle.cca_base.specs.PlantModel.{PlantModel}
use Rattle.cca_base.specs.Goals.{IsGoodReply}
use Rattle.cca_base.specs.Choice.{IsChosen}
use Rattle.cca_laws.specs.Examples.{component_of, moving, on_move, off_move, lamp}
use Rattle.cca_laws.specs.FormulaExamples.{mode_in, either}
use Rattle.cca_laws.specs.CostExamples.{three}

-- ---- unreachable pairs

-- p is bad
abbrev pub p_is_bad : Pair
p_is_bad = record { item = 0; value = 1 }

-- q is bad
abbrev pub q_is_bad : Pair
q_is_bad = record { item = 1; value = 1 }

-- of two pairs that no command leads to, the first is named, and the second is not
abbrev pub FirstIsNamed : Type 0
FirstIsNamed = IsGoodReply three (0 ∷ 0 ∷ 0 ∷ []) (p_is_bad ∷ q_is_bad ∷ []) (Unreachable 0 1)
    × (IsGoodReply three (0 ∷ 0 ∷ 0 ∷ []) (p_is_bad ∷ q_is_bad ∷ []) (Unreachable 1 1) → ⊥)

-- ---- moves

-- a second move that switches a lamp on, by a command of its own
abbrev pub other_move : Move
other_move = record on_move { command = 1 }

-- the lamp with two commands that switch it on
abbrev pub two_switches : PlantModel
two_switches = record lamp {
  commands = codes "lamp_on" ∷ codes "lamp_on_too" ∷ codes "lamp_off" ∷ [];
  moves = on_move ∷ other_move ∷ record off_move { command = 2 } ∷ [];
}

-- both moves come nearer; the first is chosen, and the second is not
abbrev pub FirstMoveIsChosen : Type 0
FirstMoveIsChosen = IsChosen two_switches (0 ∷ []) 0 1 on_move []
    × (IsChosen two_switches (0 ∷ []) 0 1 other_move [] → ⊥)

-- ---- cubes

-- a or b is on
abbrev pub either_on : Formula
either_on = either (mode_in 0 2) (mode_in 1 2)

-- the move that puts c on while that is so
abbrev pub either_move : Move
either_move = record { component = 2; source = 0; target = 1; command = 0; repair = false; guard = either_on }

-- a component that is off or on
abbrev pub switch : List ℕ → Component
switch name = component_of name (codes "off" ∷ codes "on" ∷ [])

-- a, b and c are each off or on
abbrev pub either_model : PlantModel
either_model = moving 1 (switch (codes "a") ∷ switch (codes "b") ∷ switch (codes "c") ∷ []) (codes "c_on" ∷ []) (either_move ∷ [])

-- a is on
abbrev pub a_is_on : Pair
a_is_on = record { item = 0; value = 1 }

-- b is on
abbrev pub b_is_on : Pair
b_is_on = record { item = 1; value = 1 }

-- where both are on, the cube of a is chosen, which comes first, and that of b is not
abbrev pub FirstCubeIsChosen : Type 0
FirstCubeIsChosen = IsChosen either_model (1 ∷ 1 ∷ 0 ∷ []) 2 1 either_move (a_is_on ∷ [])
    × (IsChosen either_model (1 ∷ 1 ∷ 0 ∷ []) 2 1 either_move (b_is_on ∷ []) → ⊥)
