use Rattle.std.proofs.Common.{refl, sym, subst, ◌∙◌}
use Rattle.group_search.specs.Floors.{AreJoined, IsFloored}
use Rattle.group_search.proofs.FloorLaws.{floors_joined}
use Rattle.group_search.proofs.JoinLaws.{joined_none, joined_twice}
use Rattle.group_search.proofs.settle.settle.Goals as goal

pub loop-init : goal.loop-init
loop-init g c = record {
  space = c.requires.space;
  work = c.requires.work;
  joined = joined_none c.args.work.now.names;
  masks = refl;
  floored = c.requires.floored;
}

pub returns-in-Settled-clause-joined : goal.returns-in-Settled-clause-joined
returns-in-Settled-clause-joined g c = joined_twice c.args.work.now.names c.loop.work.names c.settle_once.new.work.names c.loop.invariant.joined c.settle_once.ensures.joined

pub returns-in-Nothing-clause-joined : goal.returns-in-Nothing-clause-joined
returns-in-Nothing-clause-joined g c = joined_twice c.args.work.now.names c.loop.work.names c.settle_once.new.work.names c.loop.invariant.joined c.settle_once.ensures.joined

pub loop-preserved : goal.loop-preserved
loop-preserved g c =
    let q = g.P.Paths.means.question c.args.problem.now in
    let work = c.settle_once.new.work in
    record {
      space = c.settle_once.ensures.space;
      work = c.settle_once.ensures.work;
      joined = joined_twice c.args.work.now.names c.loop.work.names work.names c.loop.invariant.joined c.settle_once.ensures.joined;
      masks = c.settle_once.ensures.masks ∙ c.loop.invariant.masks;
      floored = subst (λ m. IsFloored q m work.names c.args.limit c.settle_once.new.chosen) (sym c.settle_once.ensures.masks) c.in-Again.ensures.round;
    }

pub search_group-requires-clause-floors : goal.search_group-requires-clause-floors
search_group-requires-clause-floors g c =
    let q = g.P.Paths.means.question c.args.problem.now in
    let floored = c.loop.invariant.floored in
    record {
      paths = floored.has.paths;
      floors = floors_joined q c.loop.work.boxed.masks c.loop.work.names c.join_all.new.names c.loop.chosen.costs c.loop.invariant.work.names c.join_all.ensures.joined floored.has.floors;
    }

pub returns-clause-joined : goal.returns-clause-joined
returns-clause-joined g c =
    subst (AreJoined c.args.work.now.names) (sym c.search_group.ensures.names) (joined_twice c.args.work.now.names c.loop.work.names c.join_all.new.names c.loop.invariant.joined c.join_all.ensures.joined)
