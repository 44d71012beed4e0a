use Rattle.std.proofs.Common.{map, take}
use Rattle.std.specs.List.{AllZip}
use Rattle.control_program.specs.Questions.{IsDenied, node_question}
use Rattle.control_program.proofs.turn_room.denials_of.Given as goal

abbrev pub invariant-loop-node : goal.invariant-loop-node
invariant-loop-node l = AllZip (IsDenied l.model) (map node_question (take l.node-index l.nodes)) l.denials.items
