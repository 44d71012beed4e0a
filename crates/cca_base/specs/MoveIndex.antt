-- Which moves a command and a component have, and what the repairs of a mode lead to.
use Rattle.std.specs.Prelude.{◌≡◌, ◌++◌, ◌∷◌, ℕ, false, if◌then◌else◌, List, [], Option, Some, None, MatchOption, length, map, replicate, slice_get, slice_index_or, slice_set}
use Rattle.cca_base.specs.declared.index.MoveIndex.{MoveIndex}
use Rattle.cca_base.specs.declared.model.Component.{Component}
use Rattle.cca_base.specs.declared.model.Move.{Move}
use Rattle.cca_base.specs.Model.{is_broken, IsNext}
use Rattle.cca_base.specs.Relations.{AreExactly}

-- the move with this number has the key
abbrev pub HasKey : (Move → ℕ) → List Move → ℕ → ℕ → Type 0
HasKey key moves k i = (move : Move) × (slice_get moves i ≡ Some move) × (key move ≡ k)

-- the move with this number is of the component
abbrev pub IsMoveOf : List Move → ℕ → ℕ → Type 0
IsMoveOf moves c i = HasKey (λ move. move.component) moves c i

-- the move with this number has the command
abbrev pub IsMoveBy : List Move → ℕ → ℕ → Type 0
IsMoveBy moves command i = HasKey (λ move. move.command) moves command i

-- the command names the move with this number: its component stands in the state in the mode that the move leaves
abbrev pub IsMoveNamed : List Move → List ℕ → ℕ → ℕ → Type 0
IsMoveNamed moves s command i = (move : Move) × (slice_get moves i ≡ Some move) × (move.command ≡ command) × (slice_get s move.component ≡ Some move.source)

-- the row of each key has exactly the numbers of its moves, rising
abbrev pub AreRowsBy : (Move → ℕ) → List Move → List (List ℕ) → Type 0
AreRowsBy key moves rows = (k : ℕ) → AreExactly (HasKey key moves k) (slice_index_or rows k [])

-- the mode that the repairs of the component's mode lead to; none exactly where none leaves it
abbrev pub IsNextOrNone : List Move → ℕ → ℕ → Option ℕ → Type 0
IsNextOrNone moves c mode next = MatchOption next (is_broken moves c mode ≡ false) (IsNext moves c mode)

-- each component's modes with what their repairs lead to
abbrev pub AreNexts : List Move → List (List (Option ℕ)) → Type 0
AreNexts moves rows = (c mode : ℕ) → IsNextOrNone moves c mode (slice_index_or (slice_index_or rows c []) mode None)

-- the rows of the commands and of the components, and the next mode of each mode
pub record IsIndex (components : List Component) (commands : List (List ℕ)) (moves : List Move) (x : MoveIndex) : Type 0 where
  pub row_a_command : length x.by_command.items ≡ length commands
  pub by_command : AreRowsBy (λ move. move.command) moves x.by_command.items
  pub row_a_component : length x.by_component.items ≡ length components
  pub by_component : AreRowsBy (λ move. move.component) moves x.by_component.items
  pub mode_by_mode : map length x.next.items ≡ map (λ c. length c.modes) components
  pub next : AreNexts moves x.next.items

-- ---- how an index changes

-- two indexes have the same rows
pub record SameRows (x y : MoveIndex) : Type 0 where
  pub by_command : y.by_command.items ≡ x.by_command.items
  pub by_component : y.by_component.items ≡ x.by_component.items
  pub next : y.next.items ≡ x.next.items

-- rows for a component more, which has no moves
pub record HasComponentMore (modes : ℕ) (x y : MoveIndex) : Type 0 where
  pub by_command : y.by_command.items ≡ x.by_command.items
  pub by_component : y.by_component.items ≡ x.by_component.items ++ [] ∷ []
  pub next : y.next.items ≡ x.next.items ++ replicate modes None ∷ []

-- a row for a command more, which has no moves
pub record HasCommandMore (x y : MoveIndex) : Type 0 where
  pub by_command : y.by_command.items ≡ x.by_command.items ++ [] ∷ []
  pub by_component : y.by_component.items ≡ x.by_component.items
  pub next : y.next.items ≡ x.next.items

-- the rows with a number behind the others of one
abbrev pub with_number_at : List (List ℕ) → ℕ → ℕ → List (List ℕ)
with_number_at rows k number = slice_set rows k (slice_index_or rows k [] ++ number ∷ [])

-- the rows of next modes, in which one mode's repairs lead to a target
abbrev pub with_next_at : List (List (Option ℕ)) → ℕ → ℕ → ℕ → List (List (Option ℕ))
with_next_at rows c mode target = slice_set rows c (slice_set (slice_index_or rows c []) mode (Some target))

-- the move's number is in its rows, and a repair is noted
pub record HasMoveMore (number : ℕ) (move : Move) (x y : MoveIndex) : Type 0 where
  pub by_command : y.by_command.items ≡ with_number_at x.by_command.items move.command number
  pub by_component : y.by_component.items ≡ with_number_at x.by_component.items move.component number
  pub next : y.next.items ≡ (if move.repair then with_next_at x.next.items move.component move.source move.target else x.next.items)
