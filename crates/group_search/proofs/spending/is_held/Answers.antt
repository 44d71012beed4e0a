use Rattle.std.proofs.Common.{◌<◌, ◌∙◌, All, length, get_or, sym, ap, subst, arith}
use Rattle.std.proofs.lemmas.List.{get_or_read, take_all}
use Rattle.std.proofs.lemmas.List.Elements.{All-more}
use Rattle.group_search.specs.Bounds.{IsHeld}
use Rattle.group_search.specs.Questions.{in_group}
use Rattle.group_search.proofs.PriceLaws.{no_pair, own_at}
use Rattle.group_search.proofs.spending.is_held.Goals as goal

pub loop-pair-preserved : goal.loop-pair-preserved
loop-pair-preserved g c =
    let q = g.P.Paths.means.question c.args.problem.now in
    let test = in_group c.args.names.now c.args.group in
    let b = c.args.boxed.now in
    let pairs = c.args.pairs.now in
    let k = c.loop-pair.pair-index in
    let at = (get_or pairs k no_pair).item in
    let place : at < length q.of = omega (arith, c.if-place-components.false, ap length c.components-components.ensures) in
    All-more (IsHeld q test b) pairs k no_pair c.loop-pair-test.true c.loop-pair.invariant (record {
      place = place;
      own = own_at test c.components-components.result.now q.of at c.is_in_group.result c.components-components.ensures c.is_in_group.ensures c.if-not-is_in_group.false;
      value = sym (get_or_read b.columns.values at c.get.result.now (omega (arith, place, c.requires.ready.shape.values)) c.get.ensures.item 0) ∙ c.if-get-pair.false;
    })

pub returns : goal.returns
returns g c is =
    let q = g.P.Paths.means.question c.args.problem.now in
    subst (All (IsHeld q (in_group c.args.names.now c.args.group) c.args.boxed.now)) (take_all c.loop-pair.pair-index c.args.pairs.now c.loop-pair-test.false) c.loop-pair.invariant
