use Rattle.std.proofs.Common.{◌≡◌, ◌<◌, ◌+◌, ◌∙◌, List, [], length, slice_get, slice_index_or, Some, All, sym, subst}
use Rattle.std.proofs.lemmas.Option.{get_or_from_slice_get}
use Rattle.cca_base.specs.declared.cube.Pair.{Pair}
use Rattle.cca_base.specs.Accepted.{CompiledModel}
use Rattle.policy_tables.proofs.FirstCube.{AreRowsTo, IsRowTo, rows_next, ways_within}
use Rattle.policy_tables.proofs.ways.sorted_ways.Goals as goal

pub sorted_row-requires : goal.sorted_row-requires
sorted_row-requires c =
    let b : CompiledModel = c.args.compiled.now in
    let cubes : List (List Pair) = c.get.result.now in
    let at : slice_get b.ways c.loop-i.i ≡ Some cubes = subst (λ l. slice_get l c.loop-i.i ≡ Some cubes) c.ways-in-loop-i.ensures.value c.get.ensures.value in
    subst (All (λ cube. All (λ p. p.item < length b.model.components) cube)) (sym c.as_slice.ensures) (ways_within b c.ways.ensures.compiled c.loop-i.i cubes at)

pub loop-i-preserved : goal.loop-i-preserved
loop-i-preserved c =
    let b : CompiledModel = c.args.compiled.now in
    let i = c.loop-i.i in
    let cubes : List (List Pair) = c.get.result.now in
    let row : List (List Pair) = c.in_ok-sorted_row.field-0 in
    let at : slice_get b.ways i ≡ Some cubes = subst (λ l. slice_get l i ≡ Some cubes) c.ways-in-loop-i.ensures.value c.get.ensures.value in
    let here : slice_index_or b.ways i [] ≡ c.as_slice.result.now = get_or_from_slice_get b.ways i cubes [] at ∙ sym c.as_slice.ensures in
    subst (λ l. AreRowsTo b.order b.ways l (i + 1)) (sym c.in_ok-push.ensures.ok)
    (rows_next b.order b.ways c.loop-i.ways i row c.loop-i.invariant (subst (λ l. IsRowTo b.order l row (length l)) (sym here) (record {
      full = c.in_ok-sorted_row.ensures.full;
      each = c.in_ok-sorted_row.ensures.each;
    })))
