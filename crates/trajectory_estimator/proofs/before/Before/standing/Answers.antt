use Rattle.std.proofs.Common.{All, List, sym, subst, arith}
use Rattle.std.proofs.lemmas.List.Elements.{All-more}
use Rattle.list_laws.proofs.GoneThrough.{all_gone}
use Rattle.cca_base.specs.declared.cube.Pair.{Pair}
use Rattle.trajectory_estimator.specs.Clashes.{IsKnown, MayFail}
use Rattle.trajectory_estimator.proofs.before.Before.standing.Goals as goal

pub loop-cube-preserved : goal.loop-cube-preserved
loop-cube-preserved c =
    let h = c.stands.ensures in
    All-more (MayFail c.args.self.now) c.args.ways.now c.loop-cube.cube-index c.cube-item.result c.loop-cube-test.true c.loop-cube.invariant
    (λ known. (let no = h.1 (subst (λ (l : List Pair). All (IsKnown c.args.self.now) l) (sym c.cube-item.is) known) in absurd (cc)))

pub returns-clause-none : goal.returns-clause-none
returns-clause-none c e = all_gone (MayFail c.args.self.now) c.args.ways.now c.loop-cube.cube-index (omega arith) c.loop-cube.invariant
