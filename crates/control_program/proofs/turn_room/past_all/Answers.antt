use Rattle.std.proofs.Common.{All, List, map, take, sym, subst}
use Rattle.std.proofs.lemmas.List.{take_all}
use Rattle.control_program.specs.declared.nodes.Node.{Node}
use Rattle.control_program.specs.Questions.{IsAmong, node_question}
use Rattle.control_program.proofs.AskedParts.{among_push, asked_more}
use Rattle.control_program.proofs.turn_room.past_all.Goals as goal

pub loop-node-preserved : goal.loop-node-preserved
loop-node-preserved c = record {
  past =
      subst (All (IsAmong c.past_node-past.result)) (sym (asked_more c.args.nodes.now c.loop-node.node-index c.node-item.result c.loop-node-test.true c.node-item.is))
      (among_push c.loop-node.past c.past_node-past.result (map node_question (take c.loop-node.node-index c.args.nodes.now)) (node_question c.node-item.result) c.past_node-past.ensures.least
      c.loop-node.invariant.past c.past_node-past.ensures.past);
  small = c.past_node-past.ensures.small;
}

pub returns : goal.returns
returns c = subst (λ (ns : List Node). All (IsAmong c.loop-node.past) (map node_question ns)) (take_all c.loop-node.node-index c.args.nodes.now c.loop-node-test.false) c.loop-node.invariant.past
