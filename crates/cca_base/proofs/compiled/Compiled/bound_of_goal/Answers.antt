use Rattle.std.proofs.Common.{◌≤◌, sum, sum_by, arith}
use Rattle.std.proofs.lemmas.Grind.{common_steps}
use Rattle.cca_base.proofs.BoundSums.{at, sum_of_different, next_fits}
use Rattle.cca_base.proofs.compiled.Compiled.bound_of_goal.Goals as goal

pub overflow_add-number : goal.overflow_add-number
overflow_add-number c =
    let compiled = c.bounds-bounds.ensures.compiled in
    let bounds = c.args.self.now.bounds in
    let pairs = c.args.goal.now.pairs in
    let few : sum_by (at bounds) pairs ≤ sum bounds = sum_of_different _ bounds pairs compiled.bounds.full c.requires.once c.requires.within in
    let next = next_fits bounds c.as_slice-pair-items.result.now c.loop-pair.pair-index c.loop-pair.number _ (record { item = 0; value = 0 }) c.loop-pair-test.true c.loop-pair.invariant in
    grind (arith, common_steps, few, next, compiled.sum_fits)
