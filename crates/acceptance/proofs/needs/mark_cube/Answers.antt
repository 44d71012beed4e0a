use Rattle.std.proofs.Common.{◌<◌, length, get_or, arith}
use Rattle.std.proofs.lemmas.List.{get_or_default}
use Rattle.cca_base.specs.declared.cube.Pair.{Pair}
use Rattle.causal_graph.proofs.FlagLaws.{marks_none}
use Rattle.acceptance.proofs.NeededMarks.{pair_more}
use Rattle.acceptance.proofs.needs.mark_cube.Goals as goal

pub loop-pair-init : goal.loop-pair-init
loop-pair-init c = marks_none c.args.marks.now

pub loop-pair-preserved : goal.loop-pair-preserved
loop-pair-preserved c =
    let pairs = c.args.pairs.now in
    let i = c.loop-pair.pair-index in
    let none : Pair = record { item = 0; value = 0 } in
    let p : Pair = get_or pairs i none in
    let here : i < length pairs = c.loop-pair-test.true in
    let below : p.item < length c.loop-pair.marks = omega (arith, c.requires i none here, c.loop-pair.auto.marks) in
    pair_more pairs i p c.args.marks.now c.loop-pair.marks here (get_or_default pairs i none p here) below c.loop-pair.invariant
