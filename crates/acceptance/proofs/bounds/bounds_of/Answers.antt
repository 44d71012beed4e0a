use Rattle.std.proofs.Common.{◌≡◌, ◌<◌, ◌≤◌, ◌+◌, ◌-◌, [], length, get_or, set, slice_get, Some, All, replicate, ap, sym, subst, ◌∙◌, arith, rules}
use Rattle.std.proofs.lemmas.Option.{get_or_from_slice_get}
use Rattle.cca_base.specs.declared.limits.TheConstants.{MAX_BOUND}
use Rattle.cca_base.specs.Model.{mode_counts}
use Rattle.acceptance.proofs.BoundsCausesFirst.{AreAdded, bound_at, added_none, added_more, added_all, too_deep, row_below, row_short, modes_fit, bound_found, entry_within}
use Rattle.acceptance.proofs.bounds.bounds_of.Goals as goal

pub loop-i-init : goal.loop-i-init
loop-i-init c =
    let m = c.args.model.now in
    let items : c.in_ok-bounds.bounds.items ≡ replicate c.len.result 0 = c.in_ok-bounds.ensures.items_if_clones_equal (λ y h. search rules) in
    let long : c.len.result ≡ length m.components = c.len.ensures ∙ ap length c.components.ensures.value in
    subst (λ l. AreAdded m c.args.needs.now c.args.order.now l 0 c.len-i.result) (sym (items ∙ ap (λ n. replicate n 0) long))
    (added_none m c.args.needs.now c.args.order.now c.components.ensures.well_formed c.requires.needs c.requires.order c.len-i.result c.len-i.ensures)

pub get-requires-in-loop-i : goal.get-requires-in-loop-i
get-requires-in-loop-i c =
    subst (λ l. c.get.result.now < length l) (sym c.components-in-loop-i.ensures.value)
    (entry_within c.args.model.now c.args.needs.now c.args.order.now c.components.ensures.well_formed c.requires.needs c.requires.order (c.loop-i.i - 1) c.get.result.now c.get.ensures.value)

pub get-requires-in-loop-i-2 : goal.get-requires-in-loop-i-2
get-requires-in-loop-i-2 c =
    let lt = entry_within c.args.model.now c.args.needs.now c.args.order.now c.components.ensures.well_formed c.requires.needs c.requires.order (c.loop-i.i - 1) c.get.result.now c.get.ensures.value in
    omega (arith, lt, c.requires.needs.full)

-- the component has modes as many as are counted
pub bound_of-bound-requires-clause-some : goal.bound_of-bound-requires-clause-some
bound_of-bound-requires-clause-some c =
    let at : slice_get c.args.model.now.components c.get.result.now ≡ Some c.get-in-loop-i.result.now = ap (λ l. slice_get l c.get.result.now) (sym c.components-in-loop-i.ensures.value) ∙ c.get-in-loop-i.ensures.value in
    omega (arith, c.len-modes.ensures, (modes_fit c.args.model.now c.components.ensures.well_formed c.get.result.now c.get-in-loop-i.result.now at).0)

pub bound_of-bound-requires-clause-few : goal.bound_of-bound-requires-clause-few
bound_of-bound-requires-clause-few c =
    let at : slice_get c.args.model.now.components c.get.result.now ≡ Some c.get-in-loop-i.result.now = ap (λ l. slice_get l c.get.result.now) (sym c.components-in-loop-i.ensures.value) ∙ c.get-in-loop-i.ensures.value in
    omega (arith, c.len-modes.ensures, (modes_fit c.args.model.now c.components.ensures.well_formed c.get.result.now c.get-in-loop-i.result.now at).1)

pub bound_of-bound-requires-clause-short : goal.bound_of-bound-requires-clause-short
bound_of-bound-requires-clause-short c =
    let rows = c.args.needs.now in
    let row : get_or rows c.get.result.now [] ≡ c.as_slice.result.now = get_or_from_slice_get rows c.get.result.now c.get-in-loop-i-2.result.now [] c.get-in-loop-i-2.ensures.value ∙ sym c.as_slice.ensures in
    omega (arith, ap length row, row_short c.args.model.now rows c.args.order.now c.components.ensures.well_formed c.requires.needs c.requires.order c.get.result.now, c.components.ensures.well_formed.limits.components)

pub bound_of-bound-requires-clause-within : goal.bound_of-bound-requires-clause-within
bound_of-bound-requires-clause-within c =
    let rows = c.args.needs.now in
    let row : get_or rows c.get.result.now [] ≡ c.as_slice.result.now = get_or_from_slice_get rows c.get.result.now c.get-in-loop-i-2.result.now [] c.get-in-loop-i-2.ensures.value ∙ sym c.as_slice.ensures in
    let long : length c.args.model.now.components ≡ length c.as_slice-in-loop-i.result.now = sym c.loop-i.invariant.full ∙ sym (ap length c.as_slice-in-loop-i.ensures.value) in
    subst (λ n. All (λ u. u < n) c.as_slice.result.now) long
    (subst (All (λ u. u < length c.args.model.now.components)) row (row_below c.args.model.now rows c.args.order.now c.components.ensures.well_formed c.requires.needs c.requires.order c.get.result.now))

pub returns-then-bound-sum : goal.returns-then-bound-sum
returns-then-bound-sum c =
    let m = c.args.model.now in
    let bound : c.bound_of-bound.result ≡ bound_at (mode_counts m) c.args.needs.now c.loop-i.bounds.items c.get.result.now =
    bound_found m c.args.needs.now _ _ _ _ _ c.get-in-loop-i.result.now _ c.len-modes.result _ c.components-in-loop-i.ensures.value c.get-in-loop-i.ensures.value c.len-modes.ensures c.get-in-loop-i-2.ensures.value c.as_slice.ensures c.as_slice-in-loop-i.ensures.value c.bound_of-bound.ensures in
    too_deep m c.args.needs.now c.args.order.now c.components.ensures.well_formed c.requires.needs c.requires.order c.loop-i.bounds.items c.loop-i.sum (c.loop-i.i - 1) c.get.result.now
    (subst (AreAdded m c.args.needs.now c.args.order.now c.loop-i.bounds.items c.loop-i.sum) (omega (arith, c.loop-i-test.true)) c.loop-i.invariant) (omega (arith, c.loop-i-test.true, c.loop-i.auto.i, c.len-i.ensures))
    (get_or_from_slice_get c.args.order.now (c.loop-i.i - 1) c.get.result.now 0 c.get.ensures.value)
    (subst (λ b. MAX_BOUND < c.loop-i.sum + b) bound (omega (arith, c.if-bound-sum.true, c.loop-i.invariant.fits)))

pub index_mut-requires : goal.index_mut-requires
index_mut-requires c =
    let lt = entry_within c.args.model.now c.args.needs.now c.args.order.now c.components.ensures.well_formed c.requires.needs c.requires.order (c.loop-i.i - 1) c.get.result.now c.get.ensures.value in
    omega (arith, lt, c.loop-i.invariant.full, c.loop-i.bounds.ok.0)

pub loop-i-preserved : goal.loop-i-preserved
loop-i-preserved c =
    let m = c.args.model.now in
    let bound : c.bound_of-bound.result ≡ bound_at (mode_counts m) c.args.needs.now c.loop-i.bounds.items c.get.result.now =
    bound_found m c.args.needs.now _ _ _ _ _ c.get-in-loop-i.result.now _ c.len-modes.result _ c.components-in-loop-i.ensures.value c.get-in-loop-i.ensures.value c.len-modes.ensures c.get-in-loop-i-2.ensures.value c.as_slice.ensures c.as_slice-in-loop-i.ensures.value c.bound_of-bound.ensures in
    let fits : c.loop-i.sum + bound_at (mode_counts m) c.args.needs.now c.loop-i.bounds.items c.get.result.now ≤ MAX_BOUND = subst (λ b. c.loop-i.sum + b ≤ MAX_BOUND) bound (omega (arith, c.if-bound-sum.false, c.loop-i.invariant.fits)) in
    subst (λ b. AreAdded m c.args.needs.now c.args.order.now (set c.loop-i.bounds.items c.get.result.now b) (c.loop-i.sum + b) (c.loop-i.i - 1)) (sym bound)
    (added_more m c.args.needs.now c.args.order.now c.components.ensures.well_formed c.requires.needs c.requires.order c.loop-i.bounds.items c.loop-i.sum (c.loop-i.i - 1) c.get.result.now
    (subst (AreAdded m c.args.needs.now c.args.order.now c.loop-i.bounds.items c.loop-i.sum) (omega (arith, c.loop-i-test.true)) c.loop-i.invariant) (omega (arith, c.loop-i-test.true, c.loop-i.auto.i, c.len-i.ensures))
    (get_or_from_slice_get c.args.order.now (c.loop-i.i - 1) c.get.result.now 0 c.get.ensures.value) fits)

pub returns : goal.returns
returns c =
    let m = c.args.model.now in
    let none : c.loop-i.i ≡ 0 = omega (arith, c.loop-i-test.false) in
    rw c.of.ensures (added_all m c.args.needs.now c.args.order.now c.components.ensures.well_formed c.requires.needs c.requires.order c.loop-i.bounds.items c.loop-i.sum
    (subst (AreAdded m c.args.needs.now c.args.order.now c.loop-i.bounds.items c.loop-i.sum) none c.loop-i.invariant))
