use Rattle.std.proofs.Common.{◌+◌, ◌<◌, length, slice_index, sym, ap, subst, ◌∙◌, take, arith}
use Rattle.std.proofs.lemmas.List.{take-set}
use Rattle.clash_analysis.specs.Clashes.{AreInside}
use Rattle.clash_analysis.specs.Levels.{AreLevels}
use Rattle.clash_analysis.proofs.ClimbLaws.{inside_after, levels_after}
use Rattle.clash_analysis.proofs.analysis.analyse.Goals as goal

pub returns-clause-levels : goal.returns-clause-levels
returns-clause-levels c =
    let level = c.learn_from.result in
    let less : level < c.args.levels = omega (arith, c.learn_from.ensures.less, c.in_ok-point.ensures.lower) in
    let w = c.learn_from.ensures.written in
    subst (λ t. AreLevels c.args.marks.now level t (slice_index c.args.marks.now level + 1)) (sym w.1) (levels_after c.args.marks.now c.args.levels c.args.trail.now c.args.long level c.requires.levels less w.0 w.2)

pub returns-clause-kept : goal.returns-clause-kept
returns-clause-kept c =
    let w = c.learn_from.ensures.written in
    let to = slice_index c.args.marks.now c.learn_from.result in
    ap (take to) w.1 ∙ take-set c.args.trail.now to w.0

pub returns-clause-inside : goal.returns-clause-inside
returns-clause-inside c =
    let level = c.learn_from.result in
    let less : level < c.args.levels = omega (arith, c.learn_from.ensures.less, c.in_ok-point.ensures.lower) in
    let w = c.learn_from.ensures.written in
    subst (λ t. AreInside (length c.args.dom.now) (take (slice_index c.args.marks.now level + 1) t)) (sym w.1)
    (inside_after c.args.marks.now c.args.levels c.args.trail.now c.args.long level c.requires.levels less w.0 w.2 (length c.args.dom.now) c.requires.inside (subst (λ n. w.0.subject < n) c.climb.ensures.dom w.3))

pub returns-clause-analysed : goal.returns-clause-analysed
returns-clause-analysed c want pairs clash empty =
    let at = c.in_ok-point.ensures.climbed want pairs clash empty in
    (c.learn_from.ensures.trail want pairs c.args.start.now at.right at.learned at.apart at.left at.less, at.learned)
