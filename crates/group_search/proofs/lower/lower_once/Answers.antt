use Rattle.std.proofs.Common.{set, refl, ap, ◌∙◌}
use Rattle.group_search.proofs.JoinLaws.{joined_none}
use Rattle.group_search.proofs.LowerLaws.{held_small, once_back, once_floors, once_none}
use Rattle.group_search.proofs.lower.lower_once.Goals as goal

pub below-lower-requires : goal.below-lower-requires
below-lower-requires g c = record {
  small = held_small (g.P.Paths.means.question c.args.problem.now) c.args.work.now.boxed.masks c.args.work.now.names c.args.chosen.now c.args.place c.args.limit
      c.get.result.now c.requires.place c.requires.settled c.get.ensures.item c.requires.work.ready.masks c.requires.work.ready.words;
}

pub returns-then-lower-eq0-clause-joined : goal.returns-then-lower-eq0-clause-joined
returns-then-lower-eq0-clause-joined g c = joined_none c.args.work.now.names

pub settle_again-requires-clause-floors : goal.settle_again-requires-clause-floors
settle_again-requires-clause-floors g c =
    once_floors (g.P.Paths.means.question c.args.problem.now) c.args.work.now.boxed.masks c.args.work.now.names c.args.chosen.now c.args.place c.args.limit
    c.get-before.result.now c.get.result.now c.below-lower.result c.requires.work.ready.masks c.requires.place c.requires.settled c.get-before.ensures.item c.get.ensures.item c.below-lower.ensures
    c.put.new.self.masks c.put.ensures.masks

pub returns-then-not-settle_again-clause-none : goal.returns-then-not-settle_again-clause-none
returns-then-not-settle_again-clause-none g c _ =
    once_none (g.P.Paths.means.question c.args.problem.now) c.args.work.now.boxed.masks c.args.work.now.names c.args.chosen.now c.args.place c.args.limit
    c.get-before.result.now c.get.result.now c.below-lower.result c.requires.work.ready.masks c.requires.place c.requires.settled c.get-before.ensures.item c.get.ensures.item c.below-lower.ensures
    c.put.new.self.masks c.put.ensures.masks (c.if-not-settle_again.ensures.none refl)

pub returns-then-not-settle_again-clause-same : goal.returns-then-not-settle_again-clause-same
returns-then-not-settle_again-clause-same g c _ =
    c.put-then-not-settle_again.ensures.masks ∙ ap (λ m. set m c.args.place c.get-before.result.now) c.settle_again.ensures.masks
    ∙ once_back (g.P.Paths.means.question c.args.problem.now) c.args.work.now.boxed.masks c.args.work.now.names c.args.chosen.now c.args.place c.args.limit
    c.get-before.result.now c.get.result.now c.below-lower.result c.requires.work.ready.masks c.requires.place c.requires.settled c.get-before.ensures.item c.get.ensures.item c.below-lower.ensures
    c.put.new.self.masks c.put.ensures.masks
