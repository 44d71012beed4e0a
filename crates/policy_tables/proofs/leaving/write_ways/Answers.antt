use Rattle.std.proofs.Common.{◌+◌, ◌∙◌, sym, subst}
use Rattle.reversibility.specs.ClassParts.{in_row}
use Rattle.policy_tables.specs.Leaving.{AreWaysTo}
use Rattle.policy_tables.proofs.Leavers.{ways_next}
use Rattle.policy_tables.proofs.leaving.write_ways.Goals as goal

pub way_of-requires-clause-opens : goal.way_of-requires-clause-opens
way_of-requires-clause-opens c = c.requires.opens c.loop-k.k c.loop-k-test.true

pub loop-k-preserved : goal.loop-k-preserved
loop-k-preserved c = (
  subst (λ l. AreWaysTo c.args.compiled.now c.args.ways.now (in_row c.args.rows.now) c.args.numbers.now l (c.loop-k.k + 1)) (sym c.push.ensures.items)
      (ways_next c.args.compiled.now c.args.ways.now (in_row c.args.rows.now) c.args.numbers.now c.loop-k.chosen.items c.loop-k.k c.way_of.result c.loop-k.invariant.0 c.way_of.ensures),
  c.push.ensures.room ∙ c.loop-k.invariant.1,
)
