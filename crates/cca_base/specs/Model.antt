-- Which models are well formed.
use Rattle.std.specs.Prelude.{◌≡◌, ◌≢◌, ◌==◌, ◌&&◌, Bool, ℕ, zero, suc, ◌-◌, ◌<◌, ◌≤◌, true, false, IsTrue, List, [], ◌∷◌, ◌++◌, ◌⊎◌, length, map, take, All, AllPairs, slice_get, slice_index, Some, Contains}
use Rattle.std.specs.List.{list_any}
use Rattle.cca_base.specs.declared.formula.Formula.{Formula}
use Rattle.cca_base.specs.declared.model.Component.{Component}
use Rattle.cca_base.specs.declared.model.Variable.{Variable}
use Rattle.cca_base.specs.declared.model.Move.{Move}
use Rattle.cca_base.specs.declared.model.Failure.{Failure}
use Rattle.cca_base.specs.declared.limits.TheConstants.{MAX_COMPONENTS, MAX_CHOICES, MAX_VARIABLES, MAX_RULES, MAX_MOVES, MAX_FAILURES, MAX_DEPTH, MAX_COST}
use Rattle.cca_base.specs.PlantModel.{PlantModel}
use Rattle.cca_base.specs.Names.{AreNames}
use Rattle.cca_base.specs.Formula.{fits, depth}

-- the modes of a component or the values of a variable: some names, and not too many
pub record AreChoices (choices : List (List ℕ)) : Type 0 where
  pub names : AreNames choices
  pub some : 0 < length choices
  pub few : length choices ≤ MAX_CHOICES

-- the component starts in one of its modes
pub record IsComponent (component : Component) : Type 0 where
  pub modes : AreChoices component.modes
  pub start : component.start < length component.modes

-- how many modes each component has
abbrev pub mode_counts : PlantModel → List ℕ
mode_counts m = map (λ c. length c.modes) m.components

-- how many values each variable has
abbrev pub value_counts : PlantModel → List ℕ
value_counts m = map (λ v. length v.values) m.variables

-- the component has the mode
abbrev pub HasMode : PlantModel → ℕ → ℕ → Type 0
HasMode m c mode = mode < slice_index (mode_counts m) c

-- the formula speaks of the model's modes and values, and its text is not too deep
pub record IsFormula (m : PlantModel) (f : Formula) : Type 0 where
  pub fits : IsTrue (fits (mode_counts m) (value_counts m) f)
  pub shallow : depth f ≤ MAX_DEPTH

-- the move leads from one mode of its component to another, or back to it, by one of the model's commands
pub record IsMove (m : PlantModel) (move : Move) : Type 0 where
  pub source : HasMode m move.component move.source
  pub target : HasMode m move.component move.target
  pub command : move.command < length m.commands
  pub guard : IsFormula m move.guard

-- the failure leads between modes of its component, at a cost
pub record IsFailure (m : PlantModel) (failure : Failure) : Type 0 where
  pub source : HasMode m failure.component failure.source
  pub target : HasMode m failure.component failure.target
  pub costs : 0 < failure.cost
  pub cheap : failure.cost ≤ MAX_COST

-- the move is a repair of the component's mode
abbrev pub is_repair_of : ℕ → ℕ → Move → Bool
is_repair_of c mode move = move.repair && (move.component == c && move.source == mode)

-- a repair leaves the mode
abbrev pub is_broken : List Move → ℕ → ℕ → Bool
is_broken moves c mode = list_any (is_repair_of c mode) moves

-- a repair of the mode leads to the next mode
pub record IsNext (moves : List Move) (c mode next : ℕ) : Type 0 where
  pub repair : Move
  pub of_model : Contains moves repair
  pub mends : IsTrue (is_repair_of c mode repair)
  pub target : repair.target ≡ next

-- n repairs lead from a mode to the next one, and so on
abbrev pub RepairChain : List Move → ℕ → ℕ → ℕ → ℕ → Type 0
RepairChain moves c from to zero = from ≡ to
RepairChain moves c from to (suc n) = (next : ℕ) × IsNext moves c from next × RepairChain moves c next to n

-- the mode stands in the chain of another: it is that mode, or repairs lead on to it
abbrev pub IsInChain : List Move → ℕ → ℕ → ℕ → Type 0
IsInChain moves c from to = (n : ℕ) × RepairChain moves c from to n

-- the mended mode of a broken mode: the first in its chain that is not broken
pub record IsMended (moves : List Move) (c mode mended : ℕ) : Type 0 where
  pub broken : is_broken moves c mode ≡ true
  pub sound : is_broken moves c mended ≡ false
  pub count : ℕ
  pub chain : RepairChain moves c mode mended count

-- no repair leads to a broken mode
abbrev pub MendsAtOnce : List Move → Type 0
MendsAtOnce moves = (c mode next : ℕ) → IsNext moves c mode next → is_broken moves c next ≡ false

-- all repairs of a mode lead to one mode, and no mode stands in its chain twice; in the first version no next mode is broken.
-- Of the moves only repairs lead into a broken mode or leave one; failures may do both
pub record RepairsFit (version : ℕ) (moves : List Move) : Type 0 where
  pub one_target : (c mode a b : ℕ) → IsNext moves c mode a → IsNext moves c mode b → a ≡ b
  pub no_cycle : (c mode n : ℕ) → RepairChain moves c mode mode (suc n) → ⊥
  pub at_once : version ≡ 1 → MendsAtOnce moves
  pub only_repairs_enter : All (λ move. IsTrue (is_broken moves move.component move.target) → IsTrue move.repair) moves
  pub only_repairs_leave : All (λ move. IsTrue (is_broken moves move.component move.source) → IsTrue move.repair) moves

-- moves with one command are of one component, and leave different modes
abbrev pub CommandsFit : List Move → Type 0
CommandsFit moves = AllPairs (λ a b. a.command ≡ b.command → (a.component ≡ b.component) × (a.source ≢ b.source)) moves

-- a move has the command
abbrev pub is_used : List Move → ℕ → Bool
is_used moves command = list_any (λ move. move.command == command) moves

-- where a move has a command, an earlier move has each command that comes before it
abbrev pub AreInOrderOfFirstUse : List Move → Type 0
AreInOrderOfFirstUse moves = (i command : ℕ) (move : Move) → slice_get moves i ≡ Some move → command < move.command
    → (j : ℕ) × (earlier : Move) × (j < i) × (slice_get moves j ≡ Some earlier) × (earlier.command ≡ command)

-- not more of anything than there may be
pub record KeepsLimits (m : PlantModel) : Type 0 where
  pub components : length m.components ≤ MAX_COMPONENTS
  pub variables : length m.variables ≤ MAX_VARIABLES
  pub rules : length m.rules ≤ MAX_RULES
  pub moves : length m.moves ≤ MAX_MOVES
  pub failures : length m.failures ≤ MAX_FAILURES

-- the names of the components and the variables, which share one space
abbrev pub names_of : PlantModel → List (List ℕ)
names_of m = map (λ c. c.name) m.components ++ map (λ v. v.name) m.variables

-- there are two versions of documents, 1 and 2
abbrev pub IsVersion : ℕ → Type 0
IsVersion version = (version ≡ 1) ⊎ (version ≡ 2)

-- the parts of the model fit one another by the rules of its version; it may have commands that no move uses yet
pub record WellFormed (m : PlantModel) : Type 0 where
  pub version : IsVersion m.version
  pub limits : KeepsLimits m
  pub names : AreNames (names_of m)
  pub command_names : AreNames m.commands
  pub components : All IsComponent m.components
  pub variables : All (λ v. AreChoices v.values) m.variables
  pub rules : All (IsFormula m) m.rules
  pub moves : All (IsMove m) m.moves
  pub failures : All (IsFailure m) m.failures
  pub repairs : RepairsFit m.version m.moves
  pub commands : CommandsFit m.moves
  pub first_use : AreInOrderOfFirstUse m.moves

-- each command is used by a move
abbrev pub IsComplete : PlantModel → Type 0
IsComplete m = (command : ℕ) → command < length m.commands → IsTrue (is_used m.moves command)

-- the model without any part
abbrev pub empty_model : ℕ → PlantModel
empty_model version = record { version = version; components = []; variables = []; rules = []; commands = []; moves = []; failures = [] }

-- the same model in the second version
abbrev pub in_second : PlantModel → PlantModel
in_second m = record m { version = 2 }

-- the model with one more component
abbrev pub with_component : PlantModel → Component → PlantModel
with_component m x = record m { components = m.components ++ x ∷ [] }

-- the model with one more variable
abbrev pub with_variable : PlantModel → Variable → PlantModel
with_variable m x = record m { variables = m.variables ++ x ∷ [] }

-- the model with one more rule
abbrev pub with_rule : PlantModel → Formula → PlantModel
with_rule m x = record m { rules = m.rules ++ x ∷ [] }

-- the model with one more command
abbrev pub with_command : PlantModel → List ℕ → PlantModel
with_command m x = record m { commands = m.commands ++ x ∷ [] }

-- the model without its last command
abbrev pub without_last_command : PlantModel → PlantModel
without_last_command m = record m { commands = take (length m.commands - 1) m.commands }

-- the model with one more move
abbrev pub with_move : PlantModel → Move → PlantModel
with_move m x = record m { moves = m.moves ++ x ∷ [] }

-- the model with one more failure
abbrev pub with_failure : PlantModel → Failure → PlantModel
with_failure m x = record m { failures = m.failures ++ x ∷ [] }
