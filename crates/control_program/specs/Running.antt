-- What a runner's nodes and marks stand for.
use Rattle.std.specs.Prelude.{◌≡◌, ◌≤◌, Bool, List, [], length}
use Rattle.control_laws.specs.Turns.{Control}
use Rattle.control_program.specs.declared.nodes.Mark.{Mark}
use Rattle.control_program.specs.declared.nodes.Node.{Node}
use Rattle.control_program.specs.Flat.{laid, read, root}
use Rattle.control_program.specs.Marks.{Tree, begun, rest_of, has_ended, IsProper}
use Rattle.control_program.specs.Places.{marked}

-- the program of a tree, and what its marks leave of it
abbrev pub control : Tree → Control
control x = record { program = begun x; left = rest_of x }

-- the same of nodes with their marks
abbrev pub control_of : List Node → List Mark → Control
control_of nodes marks = control (root (read (marked nodes marks)))

-- they are the nodes of one tree with proper marks
pub record RunsBy (nodes : List Node) (marks : List Mark) (over : Bool) : Type 0 where
  pub tree : Tree
  pub is : marked nodes marks ≡ laid tree []
  pub full : length nodes ≤ length marks
  pub proper : IsProper tree
  pub ended : over ≡ has_ended tree
