use Rattle.std.proofs.Common.{get_or}
use Rattle.group_search.specs.Floors.{IsSettled}
use Rattle.group_search.specs.Rooms.{IsShaped}
use Rattle.group_search.specs.Works.{IsWork}
use Rattle.group_search.proofs.LowerLaws.{IsLowering}
use Rattle.group_search.proofs.lower.lower_at.Given as goal

abbrev pub invariant-loop : goal.invariant-loop
invariant-loop g l = record {
  space : g.P.Paths.means.is_space l.problem l.space;
  work : IsWork (g.P.Paths.means.question l.problem) l.work;
  shape : IsShaped (g.P.Paths.means.question l.problem) l.other;
  settled : IsSettled (g.P.Paths.means.question l.problem) l.work.boxed.masks l.work.names l.limit l.chosen;
  lowering : IsLowering l.place (get_or l.chosen.values l.place 0) l.fn.work.boxed.masks l.work.boxed.masks;
}

abbrev pub decreases-loop : goal.decreases-loop
decreases-loop g l = get_or l.chosen.values l.place 0
