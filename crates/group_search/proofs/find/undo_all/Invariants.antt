use Rattle.std.proofs.Common.{◌≡◌, true, length}
use Rattle.group_search.specs.Columns.{IsBox}
use Rattle.group_search.specs.Halves.{SplitOwn, undone}
use Rattle.group_search.proofs.find.undo_all.Given as goal

abbrev pub invariant-loop-half : goal.invariant-loop-half
invariant-loop-half g l = record {
  ready : IsBox (g.P.Paths.means.question l.problem) l.boxed;
  own : SplitOwn (g.P.Paths.means.question l.problem) (λ c. true) l.halves.items;
  undone_same : undone l.halves.items l.boxed.masks ≡ undone l.fn.halves.items l.fn.boxed.masks;
  room : l.halves.room ≡ l.fn.halves.room;
}

abbrev pub decreases-loop-half : goal.decreases-loop-half
decreases-loop-half g l = length l.halves.items
