use Rattle.std.proofs.Common.{◌↔◌, List, sym, subst, ◌∙◌}
use Rattle.std.proofs.lemmas.List.Elements.{All-more}
use Rattle.cca_base.specs.declared.cube.Pair.{Pair}
use Rattle.reach_laws.specs.Classes.{AreInside}
use Rattle.reversibility.specs.ClassParts.{in_row}
use Rattle.list_laws.proofs.GoneThrough.{all_gone}
use Rattle.policy_tables.proofs.Kept.{same_answers}
use Rattle.policy_tables.proofs.keeping.agree.Goals as goal

pub loop-cube-preserved : goal.loop-cube-preserved
loop-cube-preserved c =
    let P : List Pair → Type 0 = λ cube. AreInside (in_row c.args.one.now) cube ↔ AreInside (in_row c.args.other.now) cube in
    let same = same_answers c.is_inside.result c.is_inside-in-loop-cube.result c.if-is_inside.false in
    let both : P c.cube-item.result = (
      (λ h. subst (AreInside (in_row c.args.other.now)) c.as_slice-in-loop-cube.ensures.pairs (c.is_inside-in-loop-cube.ensures.0 (sym same ∙ c.is_inside.ensures.1 (subst (AreInside (in_row c.args.one.now)) (sym c.as_slice.ensures.pairs) h)))),
      (λ h. subst (AreInside (in_row c.args.one.now)) c.as_slice.ensures.pairs (c.is_inside.ensures.0 (same ∙ c.is_inside-in-loop-cube.ensures.1 (subst (AreInside (in_row c.args.other.now)) (sym c.as_slice-in-loop-cube.ensures.pairs) h)))),
    ) in
    All-more P c.args.cubes.now c.loop-cube.cube-index c.cube-item.result c.loop-cube-test.true c.loop-cube.invariant (subst P c.cube-item.is both)

pub returns : goal.returns
returns c _ = all_gone (λ cube. AreInside (in_row c.args.one.now) cube ↔ AreInside (in_row c.args.other.now) cube) c.args.cubes.now c.loop-cube.cube-index c.loop-cube-test.false c.loop-cube.invariant
