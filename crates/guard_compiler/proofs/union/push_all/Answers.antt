use Rattle.std.proofs.Common.{sym, subst, arith}
use Rattle.cca_base.specs.declared.cube.Pair.{Pair}
use Rattle.cca_base.specs.Cube.{Lacks}
use Rattle.guard_compiler.proofs.Merged.{lacks_at}
use Rattle.guard_compiler.proofs.union.push_all.Goals as goal

pub push-requires : goal.push-requires
push-requires c =
    let d : Pair = record { item = 0; value = 0 } in
    subst (Lacks _) (sym c.loop-pair.invariant) (lacks_at c.args.cube.now c.args.pairs.now c.loop-pair.pair-index d (omega arith) c.requires)
