use Rattle.std.proofs.Common.{take}
use Rattle.cca_base.specs.State.{Extends}
use Rattle.consistency.proofs.standing.stand_in.Given as goal

abbrev pub invariant-loop-pair : goal.invariant-loop-pair
invariant-loop-pair l = Extends l.values (take l.pair-index l.pairs)
