use Rattle.std.proofs.Common.{◌≡◌, ◌<◌, List, All, length, slice_get, Some, sym, subst}
use Rattle.std.proofs.lemmas.List.Elements.{All-contains}
use Rattle.cca_base.specs.declared.cube.Pair.{Pair}
use Rattle.cca_base.specs.Accepted.{CompiledModel}
use Rattle.reach_laws.specs.Classes.{Test, AreInside}
use Rattle.reversibility.specs.ClassParts.{in_row}
use Rattle.reversibility.specs.Levels.{SomeInside}
use Rattle.reversibility.proofs.OpenMoves.{open_to, cubes_within}
use Rattle.policy_tables.specs.Leaving.{IsFirstInside}
use Rattle.policy_tables.proofs.FirstCube.{way_is}
use Rattle.policy_tables.proofs.ways.way_of.Goals as goal

pub first_cube-requires : goal.first_cube-requires
first_cube-requires c =
    let b : CompiledModel = c.args.compiled.now in
    let cubes : List (List Pair) = c.get-cubes.result.now in
    let ways_at : slice_get b.ways c.args.number ≡ Some cubes = subst (λ l. slice_get l c.args.number ≡ Some cubes) c.ways.ensures.value c.get-cubes.ensures.value in
    subst (All (λ cube. All (λ p. p.item < length c.args.rows.now) cube)) (sym c.as_slice.ensures)
    (cubes_within b c.ways.ensures.compiled (in_row c.args.rows.now) c.args.number c.requires.opens.0 cubes c.requires.opens.1 ways_at (length c.args.rows.now) c.requires.rows)

pub unreachable-requires : goal.unreachable-requires
unreachable-requires c =
    let b : CompiledModel = c.args.compiled.now in
    let member : Test = in_row c.args.rows.now in
    let cubes : List (List Pair) = c.get-cubes.result.now in
    let ways_at : slice_get b.ways c.args.number ≡ Some cubes = subst (λ l. slice_get l c.args.number ≡ Some cubes) c.ways.ensures.value c.get-cubes.ensures.value in
    let some : SomeInside member cubes = open_to b c.ways.ensures.compiled member c.args.number c.requires.opens.0 cubes c.requires.opens.1 ways_at c.requires.opens.2 in
    let none : All (λ cube. AreInside member cube → ⊥) cubes = subst (All (λ cube. AreInside member cube → ⊥)) c.as_slice.ensures c.in_default.ensures in
    All-contains (λ cube. AreInside member cube → ⊥) cubes some.cube none some.one some.inside

pub returns : goal.returns
returns c =
    let b : CompiledModel = c.args.compiled.now in
    let member : Test = in_row c.args.rows.now in
    let cubes : List (List Pair) = c.get-cubes.result.now in
    let ways_at : slice_get b.ways c.args.number ≡ Some cubes = subst (λ l. slice_get l c.args.number ≡ Some cubes) c.ways.ensures.value c.get-cubes.ensures.value in
    let found : IsFirstInside member cubes c.in-Some.way = subst (λ l. IsFirstInside member l c.in-Some.way) c.as_slice.ensures c.in-Some.ensures in
    way_is b c.args.ways.now c.requires.ways c.ways.ensures.compiled member c.args.number c.requires.opens.0 c.requires.opens.1 cubes ways_at c.in-Some.way found
