use Rattle.byte_buffer.proofs.Pushing.{continues_then}
use Rattle.trace_text.specs.Compiled.{bound_lines}
use Rattle.trace_text.proofs.LeftToPush.{both_left}
use Rattle.trace_text.proofs.compiled.push_bounds.Goals as goal

pub loop-i-preserved : goal.loop-i-preserved
loop-i-preserved c =
    let component = c.index-components-i in
    let bound = c.in-Some.ensures.lookup in
    let left = both_left bound_lines c.args.components.now c.args.bounds.now c.loop-i.i component.result c.in-Some.bound.now c.loop-i-test.true component.is bound.3.0 bound.1 in
    continues_then left c.loop-i.invariant c.in_ok-push_bound.ensures
