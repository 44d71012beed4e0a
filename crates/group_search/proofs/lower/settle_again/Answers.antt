use Rattle.std.proofs.Common.{◌≡◌, true, slice_index, sym, subst}
use Rattle.cca_base.specs.Sets.{has}
use Rattle.group_search.specs.Floors.{AreJoined, every}
use Rattle.group_search.specs.Questions.{CostsAtLeast}
use Rattle.group_search.specs.declared.columns.Chosen.{Chosen}
use Rattle.group_search.proofs.JoinLaws.{joined_none}
use Rattle.group_search.proofs.LowerLaws.{group_read, other_component}
use Rattle.group_search.proofs.lower.settle_again.Goals as goal

pub search_group-requires-clause-inside : goal.search_group-requires-clause-inside
search_group-requires-clause-inside g c p less own =
    let q = g.P.Paths.means.question c.args.problem.now in
    let names = c.args.work.now.names in
    let group = c.get-group.result.now in
    let named = group_read q (g.met.P.Paths.owned c.args.problem.now) names c.components.result.now c.args.place group c.requires.work.names c.components.ensures c.requires.place c.get-group.ensures.item in
    let there = c.requires.inside p less (other_component names (slice_index q.of p) (slice_index q.of c.args.place) group named own) in
    subst (λ (x : Chosen). has (slice_index c.args.work.now.boxed.masks p) (slice_index x.values p) ≡ true) (sym c.take.ensures) there

pub returns-then-not-search_group-clause-joined : goal.returns-then-not-search_group-clause-joined
returns-then-not-search_group-clause-joined g c = subst (AreJoined c.args.work.now.names) (sym c.search_group.ensures.names) (joined_none c.args.work.now.names)

pub returns-clause-none : goal.returns-clause-none
returns-clause-none g c no_less =
    let q = g.P.Paths.means.question c.args.problem.now in
    subst (λ m. CostsAtLeast q every m c.args.limit) c.search_group.ensures.masks (c.settle.ensures.none no_less)
