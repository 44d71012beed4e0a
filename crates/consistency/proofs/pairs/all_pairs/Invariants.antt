use Rattle.std.proofs.Common.{◌≡◌, take}
use Rattle.cca_base.specs.Repairs.{pairs_of}
use Rattle.consistency.proofs.pairs.all_pairs.Given as goal

abbrev pub invariant-loop-item : goal.invariant-loop-item
invariant-loop-item l = l.pairs ≡ pairs_of (take l.item l.state.modes)
