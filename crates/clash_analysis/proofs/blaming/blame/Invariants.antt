use Rattle.std.proofs.Common.{◌≡◌, ℕ, Bool, List, length, take}
use Rattle.cca_base.specs.declared.cube.Pair.{Pair}
use Rattle.clash_analysis.specs.Clashes.{AreNoChoices, IsClash}
use Rattle.clash_analysis.specs.Subjects.{is_in}
use Rattle.clash_analysis.proofs.blaming.blame.Given as goal

abbrev pub invariant-loop-i : goal.invariant-loop-i
invariant-loop-i l = record {
  dom : length l.dom ≡ length l.fn.dom;
  learn : length l.learn ≡ length l.fn.learn;
  clash : (want : List ℕ → Bool) (pairs : List Pair) → AreNoChoices l.trail → IsClash want pairs l.start l.trail l.fn.dom (is_in l.fn.blamed) l.fn.learn
      → IsClash want pairs l.start (take l.i l.trail) l.dom (is_in l.blamed) l.learn;
}
