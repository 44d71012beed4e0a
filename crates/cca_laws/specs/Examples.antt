-- Small models and what they do.
use Rattle.std.specs.Prelude.{ℕ, true, false, List, [], ◌∷◌, codes}
use Rattle.cca_base.specs.declared.cube.Pair.{Pair}
use Rattle.cca_base.specs.declared.formula.Formula.{Formula, roll-Formula}
use Rattle.cca_base.specs.declared.formula.Formula.TheOpen.{Formula-F}
use Rattle.cca_base.specs.declared.model.Component.{Component}
use Rattle.cca_base.specs.declared.model.Variable.{Variable}
use Rattle.cca_base.specs.declared.model.Move.{Move}
use Rattle.cca_base.specs.declared.events.Event.TheVariants as event
use Rattle.cca_base.specs.declared.events.Reply.TheVariants.{Idle, Send, Achieved}
use Rattle.cca_base.specs.declared.events.Shown.TheVariants.{Estimated}
use Rattle.cca_base.specs.PlantModel.{PlantModel, plant_model}
use Rattle.cca_base.specs.Model.{empty_model}
use Rattle.cca_base.specs.Accepted.{CompiledModel, IsCompiled}
use Rattle.cca_base.specs.Choice.{IsChosenReply}
use Rattle.cca_base.specs.Runs.{Trace}

-- the empty model, compiled
abbrev pub nothing_compiled : CompiledModel
nothing_compiled = record { model = empty_model 1; ways = []; order = []; bounds = [] }

-- it is compiled, and a tick estimates the empty state and is idle
abbrev pub EmptyTicks : Type 0
EmptyTicks = IsCompiled nothing_compiled
    × Trace nothing_compiled (IsChosenReply nothing_compiled) (event.Tick ∷ []) (record { tick = 1; shown = Estimated 0 (record { modes = [] }) Idle } ∷ [])

-- the formula that is always true
abbrev pub always_true : Formula
always_true = roll-Formula Formula-F.True

-- the component with this name and these modes, which starts in the first
abbrev pub component_of : List ℕ → List (List ℕ) → Component
component_of name modes = record { name = name; modes = modes; start = 0 }

-- the variable with this name and these values, which may be observed
abbrev pub variable_of : List ℕ → List (List ℕ) → Variable
variable_of name values = record { name = name; values = values; sensed = true }

-- the move of a component from a mode to another by a command, which nothing guards
abbrev pub free_move : ℕ → ℕ → ℕ → ℕ → Move
free_move component source target command = record { component = component; source = source; target = target; command = command; repair = false; guard = always_true }

-- the same as a repair
abbrev pub free_repair : ℕ → ℕ → ℕ → ℕ → Move
free_repair component source target command = record (free_move component source target command) { repair = true }

-- the model of this version with these components, commands and moves, and with nothing else
abbrev pub moving : ℕ → List Component → List (List ℕ) → List Move → PlantModel
moving version components commands moves = plant_model version components [] [] commands moves []

-- the move that switches a lamp on
abbrev pub on_move : Move
on_move = free_move 0 0 1 0

-- its way back
abbrev pub off_move : Move
off_move = free_move 0 1 0 1

-- the lamp
abbrev pub lamp : PlantModel
lamp = moving 1 (component_of (codes "lamp") (codes "off" ∷ codes "on" ∷ []) ∷ []) (codes "lamp_on" ∷ codes "lamp_off" ∷ []) (on_move ∷ off_move ∷ [])

-- the lamp, compiled
abbrev pub lamp_compiled : CompiledModel
lamp_compiled = record { model = lamp; ways = ([] ∷ []) ∷ ([] ∷ []) ∷ []; order = 0 ∷ []; bounds = 1 ∷ [] }

-- the goal that the lamp is on
abbrev pub lit : List Pair
lit = record { item = 0; value = 1 } ∷ []

-- from off the command for on is sent, and from on the goal is achieved
abbrev pub LampIsLit : Type 0
LampIsLit = IsChosenReply lamp_compiled (0 ∷ []) lit (Send 0) × IsChosenReply lamp_compiled (1 ∷ []) lit Achieved
