use Rattle.std.proofs.Common.{List, Option, Some, None, All, subst, sym}
use Rattle.std.specs.Option.{IfSome}
use Rattle.cca_base.specs.declared.cube.Pair.{Pair}
use Rattle.cca_base.specs.Cube.{IsRising}
use Rattle.guard_compiler.specs.Conjunctions.{AddsWish}
use Rattle.guard_compiler.specs.LeastUnions.{AreLeastUnions}
use Rattle.guard_compiler.specs.Wishes.{AreImplicants}
use Rattle.guard_compiler.proofs.WishParts.{adds_wish, implicants_rise}
use Rattle.guard_compiler.proofs.wish_parts.with_wish.Goals as goal

found : (o : Option (List (List Pair))) (P Q : List (List Pair) → Type 0) → ((cubes : List (List Pair)) → P cubes → Q cubes) → IfSome o P → IfSome o Q
found (Some cubes) P Q f h = f cubes h
found None P Q f h = h

pub least_unions-requires-clause-seconds : goal.least_unions-requires-clause-seconds
least_unions-requires-clause-seconds c =
    let are : AreImplicants c.args.model.now c.args.part.now c.in-Every.others = rw c.in-Every.is at c.in_ok-others.ensures.every in
    subst (All IsRising) (sym c.as_slice.ensures) (implicants_rise c.args.model.now c.args.part.now c.in-Every.others are)

pub returns-in_ok-all-in-Every : goal.returns-in_ok-all-in-Every
returns-in_ok-all-in-Every c =
    let m = c.args.model.now in
    let are : AreImplicants m c.args.part.now c.in-Every.others = rw c.in-Every.is at c.in_ok-others.ensures.every in
    found c.in_ok-all-in-Every.all (AreLeastUnions c.args.cubes.now c.as_slice.result.now) (AddsWish m c.args.part.now c.args.cubes.now)
    (λ cubes least. adds_wish m c.args.part.now c.args.cubes.now c.in-Every.others cubes are (subst (λ z. AreLeastUnions c.args.cubes.now z cubes) c.as_slice.ensures least))
    c.in_ok-all-in-Every.ensures.least
