use Rattle.std.proofs.Common.{true}
use Rattle.group_search.proofs.HalfLaws.{open_small}
use Rattle.group_search.proofs.find.split.Goals as goal

pub only-requires : goal.only-requires
only-requires g c = record { small = open_small (g.P.Paths.means.question c.args.problem.now) (λ d. true) c.args.boxed.now.masks c.args.pair c.requires.ready.words c.requires.ready.masks c.requires.open }

pub without-requires-clause-small : goal.without-requires-clause-small
without-requires-clause-small g c = open_small (g.P.Paths.means.question c.args.problem.now) (λ d. true) c.args.boxed.now.masks c.args.pair c.requires.ready.words c.requires.ready.masks c.requires.open
