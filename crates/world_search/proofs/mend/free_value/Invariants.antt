use Rattle.std.proofs.Common.{◌<◌, length}
use Rattle.std.specs.Prelude.{IfSome}
use Rattle.cca_base.specs.declared.cube.Pair.{Pair}
use Rattle.world_search.proofs.mend.free_value.Given as goal

abbrev pub invariant-loop-literal : goal.invariant-loop-literal
invariant-loop-literal l = IfSome l.best (λ (p : Pair). p.item < length l.start)
