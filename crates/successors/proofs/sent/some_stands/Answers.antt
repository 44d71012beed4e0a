use Rattle.std.proofs.Common.{All, sym, subst, arith}
use Rattle.std.proofs.lemmas.List.{take_all}
use Rattle.std.proofs.lemmas.List.Elements.{All-more, All-contains}
use Rattle.cca_base.specs.State.{Extends}
use Rattle.successors.proofs.sent.some_stands.Goals as goal

pub loop-cube-preserved : goal.loop-cube-preserved
loop-cube-preserved c =
    let h = c.if-stands_in.ensures in
    All-more (λ cube. Extends c.args.modes.now cube → ⊥) c.args.cubes.now c.loop-cube.cube-index c.cube-item.result c.loop-cube-test.true c.loop-cube.invariant
    (λ stands. (let no = h.1 (subst (Extends c.args.modes.now) (sym c.cube-item.is) stands) in absurd (cc)))

pub returns : goal.returns
returns c =
    let none = subst (All (λ cube. Extends c.args.modes.now cube → ⊥)) (take_all c.loop-cube.cube-index c.args.cubes.now (omega arith)) c.loop-cube.invariant in
    ((λ e. absurd (cc)), (λ (cube, among, extends). absurd (All-contains (λ x. Extends c.args.modes.now x → ⊥) c.args.cubes.now cube none among extends)))
