use Rattle.std.proofs.Common.{subst, sym}
use Rattle.group_search.specs.Floors.{IsFloored}
use Rattle.group_search.proofs.FloorLaws.{floored_joined}
use Rattle.group_search.proofs.settle.settle_once.Goals as goal

pub returns-in-Settled-clause-round : goal.returns-in-Settled-clause-round
returns-in-Settled-clause-round g c = record {
  floored = floored_joined (g.P.Paths.means.question c.args.problem.now) c.args.work.now.boxed.masks c.args.work.now.names c.meet_clashes.new.work.names c.args.limit c.args.chosen.now c.requires.work.names
      c.meet_clashes.ensures.joined c.requires.floored;
  solves = c.in-Settled.ensures.met;
}

pub search_marked-requires-clause-floored : goal.search_marked-requires-clause-floored
search_marked-requires-clause-floored g c =
    let q = g.P.Paths.means.question c.args.problem.now in
    let names = c.meet_clashes.new.work.names in
    subst (λ b. IsFloored q b.masks names c.args.limit c.args.chosen.now) (sym c.meet_clashes.ensures.boxed)
    (floored_joined q c.args.work.now.boxed.masks c.args.work.now.names names c.args.limit c.args.chosen.now c.requires.work.names c.meet_clashes.ensures.joined c.requires.floored)
