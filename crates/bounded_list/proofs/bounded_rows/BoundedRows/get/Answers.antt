use Rattle.std.proofs.Common.{◌≤◌, length, ap, arith}
use Rattle.bounded_list.specs.declared.bounded_rows.BoundedRows.{BoundedRows}
use Rattle.bounded_list.proofs.Rows.{span_here}
use Rattle.bounded_list.proofs.bounded_rows.BoundedRows.get.Given as given
use Rattle.bounded_list.proofs.bounded_rows.BoundedRows.get.Goals as goal

span : (g : given.Over) (c : goal.After-as_slice g) → (c.start_of-start.result ≤ c.get-end.result.now) × (c.get-end.result.now ≤ length c.as_slice.result.now)
span g c =
    let r = c.self.inside in
    span_here r.ends.items r.items.items _ _ _ _ _ c.self.invariant (ap (λ (v : BoundedRows _). v.rows) c.self.view_is) c.requires c.start_of-start.ensures c.get-end.ensures.value c.as_slice.ensures.items

pub offset_bounds-as_slice-start : goal.offset_bounds-as_slice-start
offset_bounds-as_slice-start g c = let s = span g c in omega (arith, s.0, s.1)

pub slice_bounds-result-count : goal.slice_bounds-result-count
slice_bounds-result-count g c = (span g c).0

pub slice_bounds-result-start : goal.slice_bounds-result-start
slice_bounds-result-start g c = (span g c).0

pub slice_bounds-result-end : goal.slice_bounds-result-end
slice_bounds-result-end g c = (span g c).1
