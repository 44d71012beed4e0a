use Rattle.std.proofs.Common.{rules, sym, subst, arith}
use Rattle.guard_compiler.specs.LeastUnions.{AreLeastUnions}
use Rattle.guard_compiler.proofs.LeastUnionLaws.{both_all, both_next, least_unions}
use Rattle.guard_compiler.proofs.ConjunctionWays.{least_are_ways}
use Rattle.guard_compiler.proofs.unions.least_unions.Goals as goal

pub loop-first-preserved : goal.loop-first-preserved
loop-first-preserved c =
    let apart = (c.in_ok-keep_unions.ensures {u = tt}).apart in
    let covers = (c.in_ok-keep_unions.ensures {u = tt}).covers in
    record {
      apart = apart;
      few = search rules;
      covers = both_next c.args.firsts.now c.args.seconds.now c.loop-first.cubes.items c.keep_unions.new.cubes.items c.first-item.result c.loop-first.first-index (omega arith)
          c.first-item.is covers c.loop-first.invariant.covers;
    }

pub returns-clause-least : goal.returns-clause-least
returns-clause-least c =
    subst (AreLeastUnions c.args.firsts.now c.args.seconds.now) (sym c.of.ensures)
    (least_unions c.args.firsts.now c.args.seconds.now c.loop-first.cubes.items c.loop-first.invariant.apart
    (both_all c.args.firsts.now c.args.seconds.now c.loop-first.cubes.items c.loop-first.first-index (omega arith) c.loop-first.invariant.covers))

pub returns-clause-conjunction : goal.returns-clause-conjunction
returns-clause-conjunction c = least_are_ways c.args.firsts.now c.args.seconds.now c.of.result (returns-clause-least c)
