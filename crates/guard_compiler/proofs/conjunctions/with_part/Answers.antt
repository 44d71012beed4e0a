use Rattle.std.proofs.Common.{List, Option, Some, None, All, subst, sym}
use Rattle.std.specs.Option.{IfSome}
use Rattle.cca_base.specs.declared.cube.Pair.{Pair}
use Rattle.cca_base.specs.Cube.{IsRising}
use Rattle.cca_base.specs.Accepted.{AreWays}
use Rattle.guard_compiler.specs.Conjunctions.{AddsPart, AreWaysOfBoth, with_guard}
use Rattle.guard_compiler.proofs.GuardParts.{adds_part, ways_rise}
use Rattle.guard_compiler.proofs.conjunctions.with_part.Goals as goal

found : (o : Option (List (List Pair))) (P Q : List (List Pair) → Type 0) → ((cubes : List (List Pair)) → P cubes → Q cubes) → IfSome o P → IfSome o Q
found (Some cubes) P Q f h = f cubes h
found None P Q f h = h

pub least_unions-requires-clause-seconds : goal.least_unions-requires-clause-seconds
least_unions-requires-clause-seconds c =
    let ways : AreWays c.args.model.now (with_guard c.args.the_move.now c.args.part.now) c.in-Every.others = rw c.in-Every.is at c.in_ok-others.ensures.every in
    subst (All IsRising) (sym c.as_slice.ensures) (ways_rise c.args.model.now (with_guard c.args.the_move.now c.args.part.now) c.in-Every.others ways)

pub returns-in_ok-all-in-Every-clause-ways : goal.returns-in_ok-all-in-Every-clause-ways
returns-in_ok-all-in-Every-clause-ways c =
    let m = c.args.model.now in
    let move = c.args.the_move.now in
    let ways : AreWays m (with_guard move c.args.part.now) c.in-Every.others = rw c.in-Every.is at c.in_ok-others.ensures.every in
    found c.in_ok-all-in-Every.all (AreWaysOfBoth c.args.cubes.now c.as_slice.result.now) (AddsPart m move c.args.part.now c.args.cubes.now)
    (λ cubes law. adds_part m move c.args.part.now c.args.cubes.now c.in-Every.others cubes ways (subst (λ z. AreWaysOfBoth c.args.cubes.now z cubes) c.as_slice.ensures law))
    c.in_ok-all-in-Every.ensures.conjunction
