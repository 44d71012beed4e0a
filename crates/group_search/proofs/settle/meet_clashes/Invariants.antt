use Rattle.std.proofs.Common.{◌≡◌}
use Rattle.group_search.specs.Floors.{AreJoined}
use Rattle.group_search.specs.Works.{IsWork}
use Rattle.group_search.proofs.settle.meet_clashes.Given as goal

abbrev pub invariant-loop : goal.invariant-loop
invariant-loop g l = record {
  space : g.P.Paths.means.is_space l.problem l.space;
  work : IsWork (g.P.Paths.means.question l.problem) l.work;
  joined : AreJoined l.fn.work.names l.work.names;
  boxed : l.work.boxed ≡ l.fn.work.boxed;
}
