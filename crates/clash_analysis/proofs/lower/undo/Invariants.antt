use Rattle.std.proofs.Common.{◌≡◌, ℕ, Bool, List, ◌++◌, length, take}
use Rattle.cca_base.specs.declared.cube.Pair.{Pair}
use Rattle.clash_analysis.specs.declared.entry.Entry.{Entry}
use Rattle.clash_analysis.specs.Laws.{Passes}
use Rattle.clash_analysis.specs.Trails.{IsTrail}
use Rattle.clash_analysis.proofs.lower.undo.Given as goal

abbrev pub invariant-loop-i : goal.invariant-loop-i
invariant-loop-i l = record {
  long : length l.dom ≡ length l.fn.dom;
  trail : (want : List ℕ → Bool) (pairs : List Pair) (start : List ℕ) (front : List Entry) → IsTrail (Passes want) pairs start (front ++ l.back) l.fn.dom
      → IsTrail (Passes want) pairs start (front ++ take l.i l.back) l.dom;
}
