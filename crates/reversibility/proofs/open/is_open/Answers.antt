use Rattle.std.proofs.Common.{List, sym, subst}
use Rattle.std.proofs.lemmas.Bool.{false≢true, both_ways}
use Rattle.std.proofs.lemmas.List.Elements.{All-more, All-contains}
use Rattle.cca_base.specs.declared.cube.Pair.{Pair}
use Rattle.reach_laws.specs.Classes.{AreInside}
use Rattle.reversibility.specs.ClassParts.{in_row}
use Rattle.list_laws.proofs.GoneThrough.{all_gone}
use Rattle.reversibility.proofs.open.is_open.Goals as goal

pub loop-cube-preserved : goal.loop-cube-preserved
loop-cube-preserved c =
    let P : List Pair → Type 0 = λ cube. AreInside (in_row c.args.rows.now) cube → ⊥ in
    All-more P c.args.cubes.now c.loop-cube.cube-index c.cube-item.result c.loop-cube-test.true c.loop-cube.invariant
    (subst P c.cube-item.is (λ h. both_ways c.is_inside.result c.if-is_inside.false (c.is_inside.ensures.1 (subst (AreInside (in_row c.args.rows.now)) (sym c.as_slice.ensures.pairs) h))))

pub returns : goal.returns
returns c = (
  (λ f. absurd (false≢true f)),
  (λ h. absurd (All-contains (λ cube. AreInside (in_row c.args.rows.now) cube → ⊥) c.args.cubes.now h.cube
      (all_gone (λ cube. AreInside (in_row c.args.rows.now) cube → ⊥) c.args.cubes.now c.loop-cube.cube-index c.loop-cube-test.false c.loop-cube.invariant) h.one h.inside)),
)
