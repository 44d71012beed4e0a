use Rattle.std.proofs.Common.{◌≡◌, ◌<◌, ◌+◌, ℕ, List, length, get_or, ap, sym, subst, ◌∙◌, arith}
use Rattle.std.proofs.lemmas.List.{length_push}
use Rattle.std.proofs.lemmas.Option.{get_or_from_slice_get}
use Rattle.cca_base.specs.Cube.{Lacks}
use Rattle.cca_base.specs.Implicants.{Needs}
use Rattle.cca_base.specs.declared.cube.Pair.{Pair}
use Rattle.cca_base.proofs.SortedGoals.{IsSorting, sorting_none, sorting_yes, sorting_no, sorting_all, sorted_once}
use Rattle.causal_graph.proofs.goal.sort_into.Goals.{in-Some, in_default}
use Rattle.causal_graph.proofs.goal.sort_into.Goals as goal

pub push-requires : goal.push-requires
push-requires c = omega (arith, c.loop-i-test.true, c.len-i-end.ensures, ap length c.order-order.ensures.value, c.requires.room, c.loop-i.invariant.few, c.loop-i.invariant.room)

pub loop-i-init : goal.loop-i-init
loop-i-init c = record {
  sorting = subst (λ ps. IsSorting c.args.compiled.now.order c.args.pairs.now ps 0) (sym c.clear.ensures.items) (sorting_none c.args.compiled.now.order c.args.pairs.now);
  few = omega (arith, ap length c.clear.ensures.items);
  room = c.clear.ensures.room;
}

pub loop-i-preserved : goal.loop-i-preserved
loop-i-preserved c =
    let order : List ℕ = c.args.compiled.now.order in
    let pairs : List Pair = c.args.pairs.now in
    let sorted : List Pair = c.loop-i.sorted.items in
    let i = c.loop-i.i in
    let same = c.order-order.ensures.value in
    let so_far = c.loop-i.invariant.sorting in
    let within : i < length order = omega (arith, c.loop-i-test.true, c.len-i-end.ensures, ap length same) in
    let next : c.get.result.now ≡ get_or order i 0 = sym (get_or_from_slice_get c.order-order.result.now i c.get.result.now 0 c.get.ensures.value) ∙ ap (λ xs. get_or xs i 0) same in
    elim c.match-pair_of.branch [
      | in-Some w ↦
          let p = w.in-Some.pair in
          rw (w.sorted-is) (record {
            sorting = subst (λ ps. IsSorting order pairs ps (i + 1)) (sym w.push.ensures.items) (sorting_yes order pairs sorted i so_far within p c.requires.once w.in-Some.ensures.0 (w.in-Some.ensures.1 ∙ next));
            few = omega (arith, ap length w.push.ensures.items, length_push sorted p, c.loop-i.invariant.few);
            room = w.push.ensures.room ∙ c.loop-i.invariant.room;
          })
      | in_default w ↦
          let lacks : Lacks (get_or order i 0) pairs = subst (λ n. Lacks n pairs) next w.in_default.ensures in
          rw w.sorted-is (record {
            sorting = sorting_no order pairs sorted i so_far within lacks;
            few = omega (arith, c.loop-i.invariant.few);
            room = c.loop-i.invariant.room;
          })
    ]

pub returns-clause-sorted : goal.returns-clause-sorted
returns-clause-sorted c =
    let model = c.args.compiled.now.model in
    let order : List ℕ = c.args.compiled.now.order in
    sorting_all order c.args.pairs.now (Needs model) (length model.components) c.order-order.ensures.compiled.order c.requires.once c.requires.within c.loop-i.sorted.items c.loop-i.i
    (omega (arith, c.loop-i-test.false, c.len-i-end.ensures, ap length c.order-order.ensures.value)) c.loop-i.invariant.sorting

pub returns-clause-once : goal.returns-clause-once
returns-clause-once c = sorted_once c.args.compiled.now.order (Needs c.args.compiled.now.model) (length c.args.compiled.now.model.components)
    c.order-order.ensures.compiled.order c.loop-i.sorted.items
    (returns-clause-sorted c).in_order
