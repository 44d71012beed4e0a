use Rattle.std.proofs.Common.{get_or, subst, sym}
use Rattle.std.proofs.lemmas.List.{get_or_default}
use Rattle.cca_base.specs.declared.cube.Pair.{Pair}
use Rattle.cca_base.specs.Cube.{Lacks}
use Rattle.cca_base.proofs.Trying.{lacks_at}
use Rattle.consistency.proofs.pairs.joined.Goals as goal

pub push-requires : goal.push-requires
push-requires c =
    let behind = c.args.behind.now in
    let i = c.loop-pair.pair-index in
    let none : Pair = record { item = 0; value = 0 } in
    let p : Pair = get_or behind i none in
    subst (Lacks p.item) (sym c.loop-pair.invariant) (lacks_at c.args.front.now behind i p c.requires c.loop-pair-test.true (get_or_default behind i p none c.loop-pair-test.true))
