use Rattle.std.proofs.Common.{◌≡◌, ℕ, ◌<◌, ◌≤◌, Bool, false, List, length, take}
use Rattle.cca_base.specs.declared.cube.Pair.{Pair}
use Rattle.clash_analysis.specs.Clashes.{IsClash}
use Rattle.clash_analysis.specs.Levels.{AreLevels}
use Rattle.clash_analysis.specs.Subjects.{is_in}
use Rattle.clash_analysis.proofs.analysis.climb.Given as goal

abbrev pub invariant-levels : goal.invariant-levels
invariant-levels l = record {
  dom : length l.dom ≡ length l.fn.dom;
  learn : length l.learn ≡ length l.fn.learn;
  lower : l.level ≤ l.levels;
  shorter : l.left ≤ l.long;
  stands : AreLevels l.marks l.level l.trail l.left;
  blamed : (0 < l.levels → (v : ℕ) → is_in l.fn.blamed v ≡ false) → 0 < l.level → (v : ℕ) → is_in l.blamed v ≡ false;
  clash : (want : List ℕ → Bool) (pairs : List Pair) → IsClash want pairs l.start (take l.long l.trail) l.fn.dom (is_in l.fn.blamed) l.fn.learn
      → (0 < l.levels → (v : ℕ) → is_in l.fn.blamed v ≡ false) → IsClash want pairs l.start (take l.left l.trail) l.dom (is_in l.blamed) l.learn;
}

abbrev pub decreases-levels : goal.decreases-levels
decreases-levels l = l.left
