-- What stands at a place of the flat list: the code's nodes with their marks.
use Rattle.std.specs.Prelude.{◌≡◌, ℕ, Bool, true, false, ◌+◌, List, [], ◌∷◌, ◌++◌, length, map, slice_get, Some}
use Rattle.control_program.specs.declared.nodes.Kind.{Kind}
use Rattle.control_program.specs.declared.nodes.Mark.{Mark}
use Rattle.control_program.specs.declared.nodes.Node.{Node}
use Rattle.control_program.specs.declared.nodes.Task.{Task}
use Rattle.control_program.specs.Flat.{Marked, Entry, fresh_entry, count, laid, all_laid, head_of, tail_of}
use Rattle.control_program.specs.Marks.{Choice, open_yet, first, second, Tree, Trees, IsProper, AreProper}

-- what a mark says: whether the node has ended, which part was chosen, and how many rounds are left
abbrev pub sense : Mark → Bool × Choice × ℕ
sense Mark.Open = (false, open_yet, 0)
sense Mark.Ended = (true, open_yet, 0)
sense Mark.First = (false, first, 0)
sense Mark.Second = (false, second, 0)
sense (Mark.Rounds k) = (false, open_yet, k)

-- whether the node has ended
abbrev pub is_ended : Mark → Bool
is_ended m = (sense m).0

-- which part was chosen
abbrev pub choice_of : Mark → Choice
choice_of m = (sense m).1

-- how many rounds are left
abbrev pub rounds_of : Mark → ℕ
rounds_of m = (sense m).2

-- what a task does, with whether it has ended
abbrev pub marked_task : Task → Bool → Marked
marked_task (Task.Reach g) d = Marked.Reach d g
marked_task (Task.Await f) d = Marked.Await d f
marked_task (Task.Parts o n) d = Marked.Parts o d n

-- what a node does, with its mark
abbrev pub marked_kind : Kind → Mark → Marked
marked_kind (Kind.Once t) m = marked_task t (is_ended m)
marked_kind (Kind.Choose f) m = Marked.Choose (choice_of m) f
marked_kind (Kind.Repeat n) m = Marked.Repeat n (rounds_of m)

-- a node with its mark
abbrev pub entry_of : Node → Mark → Entry
entry_of n m = (marked_kind n.kind m, n.size)

-- each node with its mark
abbrev pub marked : List Node → List Mark → List Entry
marked [] ms = []
marked (n ∷ ns) [] = []
marked (n ∷ ns) (m ∷ ms) = entry_of n m ∷ marked ns ms

-- the mark at the start, by what a node does
abbrev pub fresh_kind : Kind → Mark
fresh_kind (Kind.Once t) = Mark.Open
fresh_kind (Kind.Choose f) = Mark.Open
fresh_kind (Kind.Repeat n) = Mark.Rounds n

-- the mark of a node at the start
abbrev pub fresh_mark : Node → Mark
fresh_mark n = fresh_kind n.kind

-- a node as at the start
abbrev pub fresh_node : Node → Entry
fresh_node n = entry_of n (fresh_mark n)

-- a tree's own node is of the kind, and its other nodes stand in front of the old ones
abbrev pub IsInner : Tree → List Entry → Kind → List Entry → Type 0
IsInner x old kind new = (marked_kind kind (fresh_kind kind) ≡ (head_of x).0) × (new ≡ tail_of x old)

-- the node at the place is of the kind
abbrev pub IsOfKind : List Node → ℕ → Kind → Type 0
IsOfKind nodes at kind = (size : ℕ) × (slice_get nodes at ≡ Some (record { kind = kind; size = size }))

-- the entries from one place up to another are as at the start, and the others as they were
abbrev pub IsCleared : ℕ → ℕ → List Entry → List Entry → Type 0
IsCleared from to old new = (before middle after : List Entry) → old ≡ before ++ middle ++ after → length before ≡ from → length before + length middle ≡ to
    → new ≡ before ++ map fresh_entry middle ++ after

-- a part stands at the place, with proper marks
pub record StandsAt (entries : List Entry) (at : ℕ) : Type 0 where
  pub before : List Entry
  pub tree : Tree
  pub after : List Entry
  pub place : length before ≡ at
  pub nodes : entries ≡ before ++ laid tree after
  pub proper : IsProper tree

-- so many parts stand at the place, one behind the other
pub record StandAt (entries : List Entry) (at n : ℕ) : Type 0 where
  pub before : List Entry
  pub trees : Trees
  pub after : List Entry
  pub place : length before ≡ at
  pub number : count trees ≡ n
  pub nodes : entries ≡ before ++ all_laid trees after
  pub proper : AreProper trees
