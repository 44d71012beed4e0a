use Rattle.std.proofs.Common.{◌≡◌, Some, get_or, slice_get, ap, subst, ◌∙◌, refl, arith}
use Rattle.std.proofs.lemmas.List.{take_all}
use Rattle.std.proofs.lemmas.List.Elements.{All-more}
use Rattle.std.proofs.lemmas.Option.{slice_get-get_or}
use Rattle.cca_base.specs.declared.cube.Pair.{Pair}
use Rattle.cca_base.specs.State.{Extends}
use Rattle.consistency.proofs.standing.stand_in.Goals as goal

pub loop-pair-preserved : goal.loop-pair-preserved
loop-pair-preserved c =
    let values = c.args.values.now in
    let none : Pair = record { item = 0; value = 0 } in
    let pairs = c.args.pairs.now in
    let p = get_or pairs c.loop-pair.pair-index none in
    All-more (λ q. slice_get values q.item ≡ Some q.value) pairs c.loop-pair.pair-index none c.loop-pair-test.true c.loop-pair.invariant
    (slice_get-get_or values p.item 0 c.if-item-values.false ∙ ap Some c.if-values-item.false)

pub returns : goal.returns
returns c =
    let all = take_all c.loop-pair.pair-index c.args.pairs.now (omega arith) in
    ((λ t. subst (Extends c.args.values.now) all c.loop-pair.invariant), (λ h. refl))
