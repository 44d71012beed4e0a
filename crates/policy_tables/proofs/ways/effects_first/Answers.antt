use Rattle.std.proofs.Common.{◌≡◌, List, slice_index_or, sym, subst, arith}
use Rattle.std.proofs.lemmas.List.{get_or_default}
use Rattle.std.proofs.lemmas.Result.{IfOk-weaker}
use Rattle.cca_base.specs.declared.cube.Pair.{Pair}
use Rattle.cca_base.specs.Accepted.{CompiledModel}
use Rattle.cca_base.specs.Cube.{IsCube, Lacks}
use Rattle.cca_base.specs.Orders.{IsSorted}
use Rattle.policy_tables.proofs.Filled.{lacks_next}
use Rattle.cca_base.proofs.ShortCubes.{short_sorted}
use Rattle.policy_tables.proofs.ways.effects_first.Goals as goal

pub push-requires : goal.push-requires
push-requires c =
    let items : List Pair = c.as_slice-pair-items.result.now in
    let p : Pair = slice_index_or items c.loop-pair.pair-index (record { item = 0; value = 0 }) in
    let cube : IsCube items = subst IsCube (sym c.as_slice-pair-items.ensures)
    c.in_ok-goal.ensures.once in
    subst (Lacks p.item) (sym c.loop-pair.invariant)
    (lacks_next items c.loop-pair.pair-index p cube c.loop-pair-test.true (get_or_default items c.loop-pair.pair-index (record { item = 0; value = 0 }) p c.loop-pair-test.true))

pub returns-then-len-lt2 : goal.returns-then-len-lt2
returns-then-len-lt2 c =
    let b : CompiledModel = c.args.compiled.now in
    let cube : List Pair = c.args.cube.now in
    IfOk-weaker c.copy.result (λ l. l ≡ cube) (IsSorted b.order cube)
    (λ l e. subst (IsSorted b.order cube) (sym e) (short_sorted b c.order-order.ensures.compiled cube c.requires (omega (arith, c.if-len-lt2.true, c.len.ensures)))) c.copy.ensures
