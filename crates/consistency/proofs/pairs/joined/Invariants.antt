use Rattle.std.proofs.Common.{◌≡◌, ◌++◌, take}
use Rattle.consistency.proofs.pairs.joined.Given as goal

abbrev pub invariant-loop-pair : goal.invariant-loop-pair
invariant-loop-pair l = l.both ≡ l.front ++ take l.pair-index l.behind
