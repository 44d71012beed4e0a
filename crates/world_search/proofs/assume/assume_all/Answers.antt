use Rattle.std.proofs.Common.{◌-◌, ◌<◌, length, get_or, ◌∙◌, arith}
use Rattle.std.proofs.lemmas.List.Elements.{Contains-get_or}
use Rattle.cca_base.specs.declared.cube.Pair.{Pair}
use Rattle.world_search.proofs.AssumeLaws.{held_more}
use Rattle.world_search.proofs.FollowLaws.{dom_long, moved_then}
use Rattle.world_search.proofs.assume.assume_all.Goals as goal

abbrev some_pair : Pair
some_pair = record { item = 0; value = 0 }

pub returns-then-not-assume-clause-moved : goal.returns-then-not-assume-clause-moved
returns-then-not-assume-clause-moved c = moved_then c.args.work.now c.loop-i.work c.assume.new.work c.loop-i.invariant.moved c.assume.ensures.moved

pub loop-i-preserved : goal.loop-i-preserved
loop-i-preserved c =
    let pairs = c.args.pairs.now in
    let i = c.loop-i.i in
    let last = get_or pairs (i - 1) some_pair in
    let room : i - 1 < length pairs = omega arith in
    record {
      ready = c.assume.ensures.ready;
      moved = moved_then c.args.work.now c.loop-i.work c.assume.new.work c.loop-i.invariant.moved c.assume.ensures.moved;
      right = λ want t. c.assume.ensures.right want pairs (Contains-get_or pairs (i - 1) some_pair room) (c.loop-i.invariant.right want t);
      clear = c.assume.ensures.held c.if-not-assume.false;
      held = held_more c.loop-i.work.dom.items c.assume.new.work.dom.items pairs i some_pair (omega arith) (omega arith) c.assume.ensures.fewer c.loop-i.invariant.held (c.assume.ensures.alone c.if-not-assume.false);
      levels = c.assume.ensures.moved.levels.levels ∙ c.loop-i.invariant.levels;
      long = dom_long c.loop-i.work c.assume.new.work c.loop-i.invariant.ready c.assume.ensures.ready c.assume.ensures.moved ∙ c.loop-i.invariant.long;
    }
