use Rattle.std.proofs.Common.{◌≡◌}
use Rattle.group_search.specs.Floors.{IsFloored}
use Rattle.group_search.specs.Works.{IsWork}
use Rattle.group_search.proofs.settle.search_marked.Given as goal

abbrev pub invariant-loop-c : goal.invariant-loop-c
invariant-loop-c g l = record {
  space : g.P.Paths.means.is_space l.problem l.space;
  work : IsWork (g.P.Paths.means.question l.problem) l.work;
  names : l.work.names ≡ l.fn.work.names;
  masks : l.work.boxed.masks ≡ l.fn.work.boxed.masks;
  floored : IsFloored (g.P.Paths.means.question l.problem) l.fn.work.boxed.masks l.fn.work.names l.limit l.chosen;
}
