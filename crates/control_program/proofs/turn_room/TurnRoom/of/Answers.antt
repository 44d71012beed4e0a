use Rattle.std.proofs.Common.{◌≡◌, All, List, length, map, sym, subst, ap, ◌∙◌}
use Rattle.std.specs.List.{AllZip}
use Rattle.control_program.specs.Questions.{Question, IsAmong, IsDenied, MayAsk, node_question, questions}
use Rattle.control_program.proofs.AskedParts.{may_ask_all}
use Rattle.control_program.proofs.RoomLaws.{nodes_ask}
use Rattle.control_program.proofs.SpaceLaws.{space_of_model}
use Rattle.control_program.proofs.turn_room.TurnRoom.of.Goals as goal

pub denials_of-requires : goal.denials_of-requires
denials_of-requires c =
    let r = c.runner.inside in
    let m = c.args.model.now in
    subst (All (MayAsk m)) (sym (nodes_ask r.nodes.items r.marks r.ended c.runner.invariant c.args.runner.now c.runner.view_is c.as_slice-nodes.result.now c.as_slice-nodes.ensures.value))
    (may_ask_all m c.args.runner.now.program c.requires.formulas)

pub returns : goal.returns
returns c =
    let r = c.runner.inside in
    let m = c.args.model.now in
    let asked : map node_question c.as_slice-nodes.result.now ≡ questions c.args.runner.now.program =
    nodes_ask r.nodes.items r.marks r.ended c.runner.invariant c.args.runner.now c.runner.view_is c.as_slice-nodes.result.now c.as_slice-nodes.ensures.value in
    record {
      denials = subst (λ (qs : List Question). AllZip (IsDenied m) qs c.in_ok-denials_of.field-0.items) asked c.in_ok-denials_of.ensures;
      goals = subst (All (IsAmong c.in_ok-with_room.field-0.room)) asked (subst (λ n. All (IsAmong n) (map node_question c.as_slice-nodes.result.now)) (sym c.in_ok-with_room.ensures.room) c.past_all.ensures);
      modes = sym c.in_ok-from_elem.field-0.ok.0 ∙ c.in_ok-from_elem.ensures.len ∙ c.len-components.ensures ∙ ap length c.components.ensures.value;
      worlds = space_of_model m c.args.worlds.now c.in_ok-small_space.field-0 c.requires.of c.in_ok-small_space.ensures;
    }
