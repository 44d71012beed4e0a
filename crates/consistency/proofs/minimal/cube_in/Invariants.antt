use Rattle.std.proofs.Common.{◌≡◌, take}
use Rattle.consistency.specs.Cores.{pairs_in}
use Rattle.consistency.proofs.minimal.cube_in.Given as goal

abbrev pub invariant-loop-pair : goal.invariant-loop-pair
invariant-loop-pair l = l.among ≡ pairs_in l.subjects (take l.pair-index l.pairs)
