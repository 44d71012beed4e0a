use Rattle.std.proofs.Common.{◌≡◌}
use Rattle.group_search.specs.Floors.{AreJoined, IsFloored}
use Rattle.group_search.specs.Works.{IsWork}
use Rattle.group_search.proofs.settle.settle.Given as goal

abbrev pub invariant-loop : goal.invariant-loop
invariant-loop g l = record {
  space : g.P.Paths.means.is_space l.problem l.space;
  work : IsWork (g.P.Paths.means.question l.problem) l.work;
  joined : AreJoined l.fn.work.names l.work.names;
  masks : l.work.boxed.masks ≡ l.fn.work.boxed.masks;
  floored : IsFloored (g.P.Paths.means.question l.problem) l.work.boxed.masks l.work.names l.limit l.chosen;
}
