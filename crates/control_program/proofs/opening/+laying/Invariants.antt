use Rattle.std.proofs.Common.{length, map, reverse}
use Rattle.control_program.specs.Places.{fresh_node}
use Rattle.control_program.proofs.OpenedPrograms.{LaidLast}
use Rattle.control_program.proofs.opening.+laying.Given as goal

abbrev pub invariant-lay_all-loop-part : goal.invariant-lay_all-loop-part
invariant-lay_all-loop-part l = LaidLast l.fn.parts l.parts (map fresh_node (reverse l.fn.nodes.items)) (map fresh_node (reverse l.nodes.items))

abbrev pub decreases-lay_all-loop-part : goal.decreases-lay_all-loop-part
decreases-lay_all-loop-part l = length l.parts
