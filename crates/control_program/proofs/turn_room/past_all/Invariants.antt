use Rattle.std.proofs.Common.{◌<◌, map, take, All}
use Rattle.control_program.specs.Questions.{IsAmong, node_question}
use Rattle.control_program.proofs.turn_room.past_all.Given as goal

abbrev pub invariant-loop-node : goal.invariant-loop-node
invariant-loop-node l = record {
  past : All (IsAmong l.past) (map node_question (take l.node-index l.nodes));
  small : l.past < 65537;
}
