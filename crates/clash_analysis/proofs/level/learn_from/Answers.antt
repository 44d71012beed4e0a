use Rattle.std.proofs.Common.{◌≤◌, slice_index, take, arith}
use Rattle.clash_analysis.proofs.LevelLaws.{learned_low}
use Rattle.clash_analysis.proofs.level.learn_from.Goals as goal

pub returns-clause-trail : goal.returns-clause-trail
returns-clause-trail c want pairs start =
    let to = slice_index c.args.marks.now c.lowest-level.result in
    let low : to ≤ c.args.long = c.requires.marks c.lowest-level.result (omega (arith, c.lowest-level.ensures.less, c.requires.levels)) in
    learned_low want pairs start c.args.trail.now c.args.long to low (omega (arith, low, c.requires.room)) c.args.dom.now c.args.learn.now c.args.u c.undo.new.dom c.narrow_learned.new.dom c.narrow_learned.result
    c.lowest-level.ensures.apart (c.undo.ensures.trail want pairs start (take to c.args.trail.now)) (c.narrow_learned.ensures.trail want pairs start (take to c.args.trail.now))
