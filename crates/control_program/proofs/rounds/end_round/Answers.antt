use Rattle.std.proofs.Common.{rules, refl, arith}
use Rattle.control_program.proofs.PlaceLaws.{in_nodes, in_marks}
use Rattle.control_program.proofs.RoundTurns.{round_lies, round_next, rounds_read, ends_in_nodes, ends_in_marks}
use Rattle.control_program.proofs.rounds.end_round.Goals as goal

pub get-requires : goal.get-requires
get-requires c =
    in_marks c.args.nodes.now c.args.marks.now c.args.at (round_lies c.args.nodes.now c.args.marks.now c.args.at c.args.number c.requires.round c.requires.kind)

pub returns-then-rounds-le1 : goal.returns-then-rounds-le1
returns-then-rounds-le1 c = (
  refl,
  λ s. omega (arith, rounds_read c.args.nodes.now c.args.marks.now c.args.at c.args.number s c.requires.kind c.get.result.now c.get.ensures.value, c.rounds_of-rounds.ensures, c.if-rounds-le1.true),
)

pub node_at-requires : goal.node_at-requires
node_at-requires c =
    in_nodes c.args.nodes.now c.args.marks.now c.args.at (round_lies c.args.nodes.now c.args.marks.now c.args.at c.args.number c.requires.round c.requires.kind)

pub overflow_add-end : goal.overflow_add-end
overflow_add-end c =
    let inside = ends_in_nodes c.args.nodes.now c.args.marks.now c.args.at c.args.number c.requires.round c.requires.kind c.node_at.result.now c.node_at.ensures in
    search rules

pub overflow_add-at : goal.overflow_add-at
overflow_add-at c =
    let inside = in_nodes c.args.nodes.now c.args.marks.now c.args.at (round_lies c.args.nodes.now c.args.marks.now c.args.at c.args.number c.requires.round c.requires.kind) in
    search rules

pub clear-requires-clause-nodes : goal.clear-requires-clause-nodes
clear-requires-clause-nodes c =
    ends_in_nodes c.args.nodes.now c.args.marks.now c.args.at c.args.number c.requires.round c.requires.kind c.node_at.result.now c.node_at.ensures

pub clear-requires-clause-marks : goal.clear-requires-clause-marks
clear-requires-clause-marks c =
    ends_in_marks c.args.nodes.now c.args.marks.now c.args.at c.args.number c.requires.round c.requires.kind c.node_at.result.now c.node_at.ensures

pub set-requires : goal.set-requires
set-requires c =
    omega (arith, c.clear.ensures.all, in_marks c.args.nodes.now c.args.marks.now c.args.at (round_lies c.args.nodes.now c.args.marks.now c.args.at c.args.number c.requires.round c.requires.kind))

pub returns : goal.returns
returns c = λ s.
    round_next c.args.nodes.now c.args.marks.now c.args.at c.args.number s c.requires.kind c.get.result.now c.get.ensures.value c.clear.new.marks c.node_at.result.now c.node_at.ensures c.clear.ensures.cleared
    c.rounds_of-rounds.result c.rounds_of-rounds.ensures c.if-rounds-le1.false c.set.new.self c.set.ensures
