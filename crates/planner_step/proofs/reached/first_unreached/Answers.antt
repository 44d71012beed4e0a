use Rattle.std.proofs.Common.{suc, take, drop, get_or, arith, inr}
use Rattle.std.proofs.lemmas.Bool.{both_ways}
use Rattle.std.proofs.lemmas.List.Elements.{All-more}
use Rattle.cca_base.specs.declared.cube.Pair.{Pair}
use Rattle.cca_base.specs.Steps.{Reach}
use Rattle.list_laws.proofs.GoneThrough.{split_at, all_gone}
use Rattle.planner_step.proofs.Covered.{reach_from, reach_inside}
use Rattle.planner_step.proofs.reached.first_unreached.Goals as goal

abbrev none : Pair
none = record { item = 0; value = 0 }

pub returns-then-not-reaches-clause-value : goal.returns-then-not-reaches-clause-value
returns-then-not-reaches-clause-value g c = record {
  before = take c.loop-i.i c.args.pairs.now;
  after = drop (suc c.loop-i.i) c.args.pairs.now;
  split = split_at c.args.pairs.now c.loop-i.i none c.loop-i-test.true;
  reached = c.loop-i.invariant.0;
  unreached = λ reach. both_ways c.reaches.result c.if-not-reaches.true (c.reaches.ensures.value.1 (inr (
      reach_inside c.args.tables.now c.classes-classes.ensures.tables c.args.state.now.modes c.requires.covers (get_or c.args.pairs.now c.loop-i.i none)
      (c.requires.sound c.loop-i.i none c.loop-i-test.true) reach)));
}

pub loop-i-preserved : goal.loop-i-preserved
loop-i-preserved g c = (
  All-more (λ p. Reach c.args.tables.now.classes.compiled.model c.args.state.now.modes p.item p.value) c.args.pairs.now c.loop-i.i none c.loop-i-test.true c.loop-i.invariant.0
      (reach_from c.args.tables.now c.classes-classes.ensures.tables c.args.state.now.modes c.requires.covers (get_or c.args.pairs.now c.loop-i.i none)
      (c.reaches.ensures.value.0 c.if-not-reaches.false)),
  (omega (arith, c.loop-i.invariant.1.0, c.reaches.ensures.steps), omega (arith, c.loop-i.invariant.1.1, c.reaches.ensures.steps)),
)

pub returns-clause-value : goal.returns-clause-value
returns-clause-value g c =
    all_gone (λ p. Reach c.args.tables.now.classes.compiled.model c.args.state.now.modes p.item p.value) c.args.pairs.now c.loop-i.i c.loop-i-test.false c.loop-i.invariant.0
