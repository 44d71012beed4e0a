use Rattle.std.proofs.Common.{◌≡◌, length}
use Rattle.reversibility.proofs.Taken.{AreBare}
use Rattle.reversibility.proofs.taking.Taken.clear.Given as goal

-- nothing is left of the first components
abbrev pub invariant-loop-c : goal.invariant-loop-c
invariant-loop-c l =
    (length l.self.rows ≡ length l.fn.self.rows) × (length l.self.mendable ≡ length l.fn.self.rows) × AreBare l.self.rows l.self.mendable l.c
