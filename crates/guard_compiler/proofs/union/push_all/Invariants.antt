use Rattle.std.proofs.Common.{◌≡◌, ◌++◌, take}
use Rattle.guard_compiler.proofs.union.push_all.Given as goal

abbrev pub invariant-loop-pair : goal.invariant-loop-pair
invariant-loop-pair l = l.cube ≡ l.initial.cube ++ take l.pair-index l.pairs
