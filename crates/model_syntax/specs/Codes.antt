-- What is wrong with a line that has a form, and which code it gets.
use Rattle.std.specs.Prelude.{ℕ, zero, suc, false, Bool, ◌||◌, ◌&&◌, ◌==◌, not, if◌then◌else◌, nat_lt, nat_le, is_some, unwrap_or, List, [], ◌∷◌, ◌++◌, length, Option, Some, None}
use Rattle.std.specs.Option.{option_map_or}
use Rattle.std.specs.List.{list_any, slice_index}
use Rattle.cca_base.specs.declared.formula.Formula.{Formula}
use Rattle.cca_base.specs.declared.formula.Subject.TheVariants as subjects
use Rattle.cca_base.specs.declared.model.Component.{Component}
use Rattle.cca_base.specs.declared.model.Variable.{Variable}
use Rattle.cca_base.specs.declared.model.Move.{Move}
use Rattle.cca_base.specs.declared.model.Failure.{Failure}
use Rattle.cca_base.specs.declared.limits.TheConstants.{MAX_NAME, MAX_COMPONENTS, MAX_CHOICES, MAX_VARIABLES, MAX_RULES, MAX_MOVES, MAX_FAILURES, MAX_COST}
use Rattle.cca_base.specs.PlantModel.{PlantModel}
use Rattle.cca_base.specs.Model.{is_broken, is_repair_of, mode_counts, with_command}
use Rattle.cca_base.specs.declared.codes.TheConstants.{NAME_UNKNOWN, NAME_REPEATED, LIMIT, AMBIGUOUS, INTO_BROKEN, UNMARKED_EXIT, TWO_MENDS, REPAIR_CYCLE}
use Rattle.text_base.specs.Chain.{◌>>=◌}
use Rattle.formula_syntax.specs.Grammar.{Whole}
use Rattle.model_syntax.specs.Items.{Ends}
pub use Rattle.formula_syntax.specs.Least.{least}
pub use Rattle.formula_syntax.specs.Lookups.{as_component}
use Rattle.formula_syntax.specs.Lookups.{place_of, subject_of, value_of}
use Rattle.formula_syntax.specs.Meanings.{has_twice, names_unknown, lists_twice, is_deep, whole_formula}

-- ---- names

-- longer than a name may be
abbrev pub is_long : List ℕ → Bool
is_long text = nat_lt MAX_NAME (length text)

-- a component or a variable has the name
abbrev pub is_taken : PlantModel → List ℕ → Bool
is_taken m name = is_some (subject_of m name)

-- the number of the start mode; a word that is too long is none of the modes
abbrev pub start_mode : List (List ℕ) → List ℕ → Option ℕ
start_mode modes start = if is_long start then None else place_of modes start

-- a component and two of its modes, by their numbers
abbrev pub ends_of : PlantModel → Ends → Option (ℕ × ℕ × ℕ)
ends_of m ends = as_component (subject_of m ends.name) >>= λ c. value_of m (subjects.Component c) ends.source >>= λ a. value_of m (subjects.Component c) ends.target >>= λ b. Some (c, a, b)

-- ---- components, variables and rules

-- a name is too long, or there are too many of them
abbrev pub list_passes : List ℕ → List (List ℕ) → Bool
list_passes name choices = is_long name || (list_any is_long choices || nat_lt MAX_CHOICES (length choices))

-- the least code of a new name and its modes or values, where there may be no room for one more
abbrev pub names_code : PlantModel → List ℕ → List (List ℕ) → Bool → Option ℕ
names_code m name choices full = least ((NAME_REPEATED, is_taken m name || has_twice choices) ∷ (LIMIT, list_passes name choices || full) ∷ [])

-- the least code of a line that declares a component
unfoldable pub component_code : PlantModel → List ℕ → List (List ℕ) → List ℕ → Option ℕ
component_code m name modes start = least ((NAME_UNKNOWN, not (is_some (start_mode modes start)))
    ∷ (NAME_REPEATED, is_taken m name || has_twice modes)
    ∷ (LIMIT, list_passes name modes || nat_le MAX_COMPONENTS (length m.components)) ∷ [])

-- the component that a line declares
abbrev pub new_component : List ℕ → List (List ℕ) → List ℕ → Component
new_component name modes start = record { name = name; modes = modes; start = unwrap_or (start_mode modes start) 0 }

-- the least code of a line that declares a variable
unfoldable pub variable_code : PlantModel → List ℕ → List (List ℕ) → Option ℕ
variable_code m name values = names_code m name values (nat_le MAX_VARIABLES (length m.variables))

-- the variable that a line declares
abbrev pub new_variable : List ℕ → List (List ℕ) → Bool → Variable
new_variable name values sensed = record { name = name; values = values; sensed = sensed }

-- the least code of a line with a rule
unfoldable pub rule_code : PlantModel → Whole → Option ℕ
rule_code m text = least ((NAME_UNKNOWN, names_unknown m text)
    ∷ (NAME_REPEATED, lists_twice text)
    ∷ (LIMIT, is_deep text || nat_le MAX_RULES (length m.rules)) ∷ [])

-- ---- moves and failures

-- the number of a command: that of its first use, or the next one
abbrev pub command_number : PlantModel → List ℕ → ℕ
command_number m command = unwrap_or (place_of m.commands command) (length m.commands)

-- the move that a line declares
abbrev pub new_move : PlantModel → Bool → ℕ × ℕ × ℕ → List ℕ → Formula → Move
new_move m repair ends command guard = record { component = ends.0; source = ends.1; target = ends.2; command = command_number m command; repair = repair; guard = guard }

-- another move has the command, and is of another component or leaves the same mode
abbrev pub is_ambiguous : List Move → Move → Bool
is_ambiguous moves x = list_any (λ y. y.command == x.command && (not (y.component == x.component) || y.source == x.source)) moves

-- where the first repair of a mode leads
abbrev pub next_of : List Move → ℕ → ℕ → Option ℕ
next_of [] c mode = None
next_of (x ∷ xs) c mode = if is_repair_of c mode x then Some x.target else next_of xs c mode

-- so many repairs at most lead from the one mode to the other
abbrev pub leads_along : List Move → ℕ → ℕ → ℕ → ℕ → Bool
leads_along moves c zero from to = from == to
leads_along moves c (suc n) from to = from == to || option_map_or (λ next. leads_along moves c n next to) (next_of moves c from) false

-- the other mode stands in the chain of the mode: no more repairs lead on than the component has modes
abbrev pub stands_in_chain : PlantModel → ℕ → ℕ → ℕ → Bool
stands_in_chain m c from to = leads_along m.moves c (slice_index (mode_counts m) c) from to

-- the move leads to a mode of its component
abbrev pub leads_to : ℕ → ℕ → Move → Bool
leads_to c mode move = move.component == c && move.target == mode

-- an ordinary move leads to a mode of its component
abbrev pub leads_unmarked : ℕ → ℕ → Move → Bool
leads_unmarked c mode move = not move.repair && (move.component == c && move.target == mode)

-- an ordinary move leads to a broken mode, or a repair makes a mode broken to which an earlier ordinary move leads
abbrev pub is_move_into_broken : List Move → Move → Bool
is_move_into_broken moves x =
    (not x.repair && is_broken moves x.component x.target) || (x.repair && list_any (leads_unmarked x.component x.source) moves)

-- a repair leads to a broken mode, or makes a mode broken to which an earlier move or repair leads, or itself
abbrev pub is_repair_into_broken : List Move → Move → Bool
is_repair_into_broken moves x = x.repair && (is_broken moves x.component x.target || list_any (leads_to x.component x.source) (moves ++ x ∷ []))

-- the first is refused in both versions, the second in the first version alone
abbrev pub is_into_broken : PlantModel → Move → Bool
is_into_broken m x = is_move_into_broken m.moves x || (m.version == 1 && is_repair_into_broken m.moves x)

-- the move is an ordinary one from this mode
abbrev pub leaves_unmarked : ℕ → ℕ → Move → Bool
leaves_unmarked c mode move = not move.repair && (move.component == c && move.source == mode)

-- an ordinary move leaves a broken mode, or a repair leaves a mode that an ordinary move leaves
abbrev pub is_unmarked_exit : List Move → Move → Bool
is_unmarked_exit moves x =
    (not x.repair && is_broken moves x.component x.source) || (x.repair && list_any (leaves_unmarked x.component x.source) moves)

-- the move repairs the mode, and leads to another mode than this
abbrev pub mends_elsewhere : ℕ → ℕ → ℕ → Move → Bool
mends_elsewhere c mode mended move = move.repair && ((move.component == c && move.source == mode) && not (move.target == mended))

-- an earlier repair of the repair's source leads to another mode
abbrev pub mends_twice : List Move → Move → Bool
mends_twice moves x = x.repair && list_any (mends_elsewhere x.component x.source x.target) moves

-- in the second version: the repair's source stands in the chain that the earlier repairs give to its target
abbrev pub is_repair_cycle : PlantModel → Move → Bool
is_repair_cycle m x = not (m.version == 1) && (x.repair && stands_in_chain m x.component x.target x.source)

-- what may be wrong with a move between modes that are known
abbrev pub move_faults : PlantModel → Move → List (ℕ × Bool)
move_faults m x = (AMBIGUOUS, is_ambiguous m.moves x) ∷ (INTO_BROKEN, is_into_broken m x) ∷ (UNMARKED_EXIT, is_unmarked_exit m.moves x) ∷ (TWO_MENDS, mends_twice m.moves x) ∷ (REPAIR_CYCLE, is_repair_cycle m x) ∷ []

-- the least code of a move between modes that are known, and whose guard is sound
abbrev pub sound_move_code : PlantModel → Move → List ℕ → Option ℕ
sound_move_code m x command = least ((LIMIT, is_long command || nat_le MAX_MOVES (length m.moves)) ∷ move_faults m x)

-- the least code of a line with a move or a repair, whose ends may be unknown
abbrev pub move_code_from : PlantModel → Bool → Option (ℕ × ℕ × ℕ) → List ℕ → Whole → Option ℕ
move_code_from m repair None command text = Some NAME_UNKNOWN
move_code_from m repair (Some ends) command text = least ((NAME_UNKNOWN, names_unknown m text)
    ∷ (NAME_REPEATED, lists_twice text)
    ∷ (LIMIT, is_deep text || (is_long command || nat_le MAX_MOVES (length m.moves)))
    ∷ move_faults m (new_move m repair ends command (whole_formula m text)))

-- the code of a move by the words of its ends
unfoldable pub move_code : PlantModel → Bool → Ends → List ℕ → Whole → Option ℕ
move_code m repair ends command text = move_code_from m repair (ends_of m ends) command text

-- the model with the command
abbrev pub with_named : PlantModel → List ℕ → PlantModel
with_named m command = if is_some (place_of m.commands command) then m else with_command m command

-- a cost of a failure
abbrev pub is_cost : ℕ → Bool
is_cost cost = nat_lt 0 cost && nat_le cost MAX_COST

-- the least code of a line with a failure; its ends may be unknown
abbrev pub failure_code_from : PlantModel → Option (ℕ × ℕ × ℕ) → ℕ → Option ℕ
failure_code_from m None cost = Some NAME_UNKNOWN
failure_code_from m (Some ends) cost = least ((LIMIT, not (is_cost cost) || nat_le MAX_FAILURES (length m.failures)) ∷ [])

-- the code of a failure by the words of its ends
unfoldable pub failure_code : PlantModel → Ends → ℕ → Option ℕ
failure_code m ends cost = failure_code_from m (ends_of m ends) cost

-- the failure that a line declares
abbrev pub new_failure : ℕ × ℕ × ℕ → ℕ → Failure
new_failure ends cost = record { component = ends.0; source = ends.1; target = ends.2; cost = cost }
