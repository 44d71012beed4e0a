use Rattle.std.proofs.Common.{◌≡◌, ℕ, Bool, List, drop, length}
use Rattle.world_search.specs.Assumed.{AreHeld}
use Rattle.world_search.specs.Works.{IsClear, IsMoved, IsReady, IsRight}
use Rattle.world_search.proofs.assume.assume_all.Given as goal

abbrev pub invariant-loop-i : goal.invariant-loop-i
invariant-loop-i l = record {
  ready : IsReady l.work;
  moved : IsMoved l.fn.work l.work;
  right : (want : List ℕ → Bool) → IsRight want l.pairs l.fn.work → IsRight want l.pairs l.work;
  clear : IsClear l.work;
  held : AreHeld l.work.dom.items (drop l.i l.pairs);
  levels : l.work.levels ≡ 0;
  long : length l.work.dom.items ≡ length l.fn.work.dom.items;
}
