use Rattle.std.proofs.Common.{◌<◌, ◌≤◌, ◌-◌}
use Rattle.group_search.specs.Bounds.{EachPays}
use Rattle.group_search.specs.Questions.{in_group}
use Rattle.group_search.specs.Works.{HasRoom, KeepsBox}
use Rattle.group_search.proofs.spending.spend_all.Given as goal

abbrev pub invariant-loop-at : goal.invariant-loop-at
invariant-loop-at g l = record {
  kept : KeepsBox l.fn.work l.work;
  room : HasRoom (g.P.Paths.means.question l.problem) l.work.spending;
  least : l.base ≤ l.total;
  less : l.total < l.limit;
  pays : EachPays (g.P.Paths.means.question l.problem) (in_group l.fn.work.names l.fn.group) l.fn.work.boxed.masks l.fn.work.boxed.columns.costs l.work.spending.spent (l.total - l.base);
}
