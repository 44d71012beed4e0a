use Rattle.std.proofs.Common.{◌≡◌, ◌∷◌}
use Rattle.group_search.specs.Halves.{left_of, weight}
use Rattle.group_search.specs.Searches.{IsSought}
use Rattle.group_search.specs.Works.{AreMembers, IsWork}
use Rattle.group_search.proofs.find.find.Given as goal

abbrev pub invariant-boxes : goal.invariant-boxes
invariant-boxes g l = record {
  space : g.P.Paths.means.is_space l.problem l.space;
  work : IsWork (g.P.Paths.means.question l.problem) l.work;
  names : l.work.names ≡ l.fn.work.names;
  members : AreMembers (g.P.Paths.means.question l.problem) l.fn.work.names l.group l.work.focus.members.items;
  sought : IsSought (g.P.Paths.means.question l.problem) l.fn.work.names l.group l.fn.work.boxed.masks l.limit l.work.boxed.masks l.work.halves.items l.work.best;
}

abbrev pub decreases-boxes : goal.decreases-boxes
decreases-boxes g l = weight (l.work.boxed.masks ∷ left_of l.work.halves.items l.work.boxed.masks)
