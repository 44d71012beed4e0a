use Rattle.std.proofs.Common.{rules}
use Rattle.control_program.proofs.AskedParts.{asks_choice}
use Rattle.control_program.proofs.ChoiceTurns.{passed_in_nodes, passed_ends, takes_one, takes_two}
use Rattle.control_program.proofs.PlaceLaws.{lies, in_nodes, in_marks}
use Rattle.control_program.proofs.rounds.choose.Goals as goal

pub overflow_add-next : goal.overflow_add-next
overflow_add-next c =
    let inside = in_nodes c.args.asking.now.nodes.now c.args.marks.now c.args.at (lies c.requires.stands) in
    search rules

pub get-requires : goal.get-requires
get-requires c = in_marks c.args.asking.now.nodes.now c.args.marks.now c.args.at (lies c.requires.stands)

pub takes_first-requires-clause-asks : goal.takes_first-requires-clause-asks
takes_first-requires-clause-asks c = (c.requires.kind.0, asks_choice c.args.asking.now.nodes.now c.args.at c.requires.kind.0 c.requires.kind.1)

pub set-requires : goal.set-requires
set-requires c = in_marks c.args.asking.now.nodes.now c.args.marks.now c.args.at (lies c.requires.stands)

pub returns-then-takes_first-clause-takes : goal.returns-then-takes_first-clause-takes
returns-then-takes_first-clause-takes c = λ s.
    takes_one c.args.asking.now c.args.marks.now c.args.at s c.requires.kind.0 c.requires.kind.1 c.get.result.now c.get.ensures.value c.takes_first.result (c.takes_first.ensures.chooses c.requires.kind.0 (asks_choice c.args.asking.now.nodes.now c.args.at c.requires.kind.0 c.requires.kind.1)) c.if-takes_first.true c.set.new.self c.set.ensures

pub set-requires-2 : goal.set-requires-2
set-requires-2 c = in_marks c.args.asking.now.nodes.now c.args.marks.now c.args.at (lies c.requires.stands)

pub node_at-requires : goal.node_at-requires
node_at-requires c =
    passed_in_nodes c.args.asking.now c.args.marks.now c.args.at c.requires.stands c.requires.kind.0 c.requires.kind.1 c.get.result.now c.get.ensures.value

pub overflow_add-result : goal.overflow_add-result
overflow_add-result c =
    let inside = passed_ends c.args.asking.now c.args.marks.now c.args.at c.requires.stands c.requires.kind.0 c.requires.kind.1 c.get.result.now c.get.ensures.value c.node_at.result.now c.node_at.ensures in
    search rules

pub returns-clause-takes : goal.returns-clause-takes
returns-clause-takes c = λ s.
    takes_two c.args.asking.now c.args.marks.now c.args.at s c.requires.kind.0 c.requires.kind.1 c.get.result.now c.get.ensures.value c.takes_first.result (c.takes_first.ensures.chooses c.requires.kind.0 (asks_choice c.args.asking.now.nodes.now c.args.at c.requires.kind.0 c.requires.kind.1)) c.if-takes_first.false c.node_at.result.now c.node_at.ensures c.set-2.new.self c.set-2.ensures
