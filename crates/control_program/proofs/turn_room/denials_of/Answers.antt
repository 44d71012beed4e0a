use Rattle.std.proofs.Common.{◌+◌, List, Option, map, take, sym, subst, ◌++◌, ◌∷◌, []}
use Rattle.std.specs.List.{AllZip}
use Rattle.clause_form.specs.declared.clause.Clauses.{Clauses}
use Rattle.control_program.specs.Questions.{Question, IsDenied, node_question}
use Rattle.control_program.proofs.AskedParts.{asked_more, denied_push, may_ask_at}
use Rattle.control_program.proofs.turn_room.denials_of.Goals as goal

pub denial_of-requires : goal.denial_of-requires
denial_of-requires c = may_ask_at c.args.model.now c.args.nodes.now c.loop-node.node-index c.node-item.result c.loop-node-test.true c.node-item.is c.requires

pub loop-node-preserved : goal.loop-node-preserved
loop-node-preserved c =
    let qs = map node_question (take c.loop-node.node-index c.args.nodes.now) in
    let q = node_question c.node-item.result in
    subst (λ (l : List (Option Clauses)). AllZip (IsDenied c.args.model.now) (map node_question (take (c.loop-node.node-index + 1) c.args.nodes.now)) l) (sym c.in_ok-push.ensures.items)
    (subst (λ (l : List Question). AllZip (IsDenied c.args.model.now) l (c.loop-node.denials.items ++ c.in_ok-denial_of.field-0 ∷ [])) (sym (asked_more c.args.nodes.now c.loop-node.node-index c.node-item.result c.loop-node-test.true c.node-item.is))
    (denied_push c.args.model.now qs c.loop-node.denials.items q c.in_ok-denial_of.field-0 c.loop-node.invariant c.in_ok-denial_of.ensures))
