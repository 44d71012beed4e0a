use Rattle.std.proofs.Common.{◌≡◌, ◌<◌, ◌≤◌, ◌-◌}
use Rattle.group_search.specs.Works.{IsWork}
use Rattle.group_search.proofs.rising.find_rising.Given as goal

abbrev pub invariant-limits : goal.invariant-limits
invariant-limits g l = record {
  space : g.P.Paths.means.is_space l.problem l.space;
  work : IsWork (g.P.Paths.means.question l.problem) l.work;
  names : l.work.names ≡ l.fn.work.names;
  masks : l.work.boxed.masks ≡ l.fn.work.boxed.masks;
  floor : l.floor ≤ l.low;
  low : l.low < l.limit;
}

abbrev pub decreases-limits : goal.decreases-limits
decreases-limits g l = l.limit - l.low
