use Rattle.std.proofs.Common.{◌≡◌, ◌<◌, ◌+◌, ◌++◌, ◌∷◌, [], ◌∙◌, List, length, take, sym, ap, subst, arith}
use Rattle.std.proofs.lemmas.List.{take_more}
use Rattle.cca_base.specs.declared.cube.Pair.{Pair}
use Rattle.reversibility.specs.ClassParts.{in_row}
use Rattle.goal_interpreter.specs.Choosing.{IsLightestAmong}
use Rattle.goal_interpreter.proofs.Choices.{among_more}
use Rattle.goal_interpreter.proofs.choose.choose.Goals as goal

pub loop-i-preserved : goal.loop-i-preserved
loop-i-preserved c =
    let m = c.args.classes.now.compiled.model in
    let member = in_row c.args.classes.now.rows in
    let weights = c.args.weights.now.rows in
    let s = c.args.state.now.modes in
    let cubes = c.args.cubes.now in
    let i = c.loop-i.i in
    let cube : List Pair = c.get.result.now in
    let inside : i < length cubes = omega (arith, c.loop-i-test.true, c.len-i-end.ensures) in
    let longer : take (i + 1) cubes ≡ take i cubes ++ cube ∷ [] = take_more cubes i cube inside ∙ ap (λ q. take i cubes ++ q ∷ []) (sym c.get.ensures.item) in
    subst (λ l. IsLightestAmong m member weights s l c.lighter-best.result) (sym longer)
    (among_more m member weights s (take i cubes) cube c.loop-i.best c.in_ok-next.next c.lighter-best.result c.loop-i.invariant c.in_ok-next.ensures c.lighter-best.ensures)
