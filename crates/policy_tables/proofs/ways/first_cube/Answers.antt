use Rattle.std.proofs.Common.{List, sym, subst}
use Rattle.std.proofs.lemmas.Bool.{both_ways}
use Rattle.std.proofs.lemmas.List.Elements.{All-more}
use Rattle.cca_base.specs.declared.cube.Pair.{Pair}
use Rattle.reach_laws.specs.Classes.{AreInside}
use Rattle.reversibility.specs.ClassParts.{in_row}
use Rattle.list_laws.proofs.GoneThrough.{all_gone}
use Rattle.policy_tables.proofs.ways.first_cube.Goals as goal

pub loop-i-preserved : goal.loop-i-preserved
loop-i-preserved c =
    let P : List Pair → Type 0 = λ cube. AreInside (in_row c.args.rows.now) cube → ⊥ in
    All-more P c.args.cubes.now c.loop-i.i c.index-cubes-i.result c.loop-i-test.true c.loop-i.invariant
    (subst P c.index-cubes-i.is (λ h. both_ways c.is_inside.result c.if-is_inside.false (c.is_inside.ensures.1 (subst (AreInside (in_row c.args.rows.now)) (sym c.as_slice.ensures.pairs) h))))

pub returns : goal.returns
returns c = all_gone (λ cube. AreInside (in_row c.args.rows.now) cube → ⊥) c.args.cubes.now c.loop-i.i c.loop-i-test.false c.loop-i.invariant
