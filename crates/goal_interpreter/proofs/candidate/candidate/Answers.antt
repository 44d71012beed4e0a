use Rattle.std.proofs.Common.{◌≡◌, ◌<◌, sym, ap, subst, ◌∙◌, length, get_or, take, slice_set, ◌+◌, arith}
use Rattle.std.proofs.lemmas.List.{get_or_default}
use Rattle.cca_base.specs.declared.cube.Pair.{Pair}
use Rattle.reversibility.specs.ClassParts.{in_row}
use Rattle.wish_laws.specs.Lightest.{IsLightestOf, MayStand}
use Rattle.goal_interpreter.proofs.Candidates.{next_pair}
use Rattle.goal_interpreter.proofs.candidate.candidate.Goals as goal

pub loop-pair-preserved : goal.loop-pair-preserved
loop-pair-preserved c =
    let m = c.args.classes.now.compiled.model in
    let member = in_row c.args.classes.now.rows in
    let weights = c.args.weights.now.rows in
    let cube = c.args.cube.now in
    let i = c.loop-pair.pair-index in
    let none : Pair = record { item = 0; value = 0 } in
    let items : c.as_slice-pair-items.result.now ≡ cube = c.as_slice-pair-items.ensures.pairs in
    let inside : i < length cube = omega (arith, c.loop-pair-test.true, ap length items) in
    let p : Pair = get_or cube i none in
    let same : get_or c.as_slice-pair-items.result.now i none ≡ p = ap (λ l. get_or l i none) items in
    subst (IsLightestOf m member weights c.args.state.now.modes (take (i + 1) cube))
    (sym (c.set.ensures ∙ ap (λ (q : Pair). slice_set c.loop-pair.target.modes q.item q.value) same))
    (next_pair m member weights c.args.state.now.modes cube i c.loop-pair.target.modes p inside (get_or_default cube i p none inside) c.as_slice-pair-items.ensures.cube c.requires.modes
    (subst (λ (q : Pair). MayStand member c.args.state.now.modes q.item q.value) same (c.may_stand.ensures.0 c.if-not-may_stand.false)) c.loop-pair.invariant)
