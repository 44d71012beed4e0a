use Rattle.byte_buffer.proofs.Pushing.{continues_then}
use Rattle.trace_text.specs.Compiled.{ways_lines}
use Rattle.trace_text.proofs.LeftToPush.{both_left}
use Rattle.trace_text.proofs.compiled.push_ways.Goals as goal

pub loop-i-preserved : goal.loop-i-preserved
loop-i-preserved c =
    let move = c.index-moves-i in
    let cubes = c.in-Some.ensures.lookup in
    let left = both_left (ways_lines c.args.model.now) c.args.moves.now c.args.ways.now c.loop-i.i move.result c.in-Some.cubes.now c.loop-i-test.true move.is cubes.3.0 cubes.1 in
    let pushed = rw c.as_slice.ensures at c.in_ok-push_move_lines.ensures in
    continues_then left c.loop-i.invariant pushed
