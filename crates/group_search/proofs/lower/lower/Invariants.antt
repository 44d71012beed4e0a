use Rattle.group_search.specs.Floors.{IsSettled}
use Rattle.group_search.specs.Lowered.{IsLowered}
use Rattle.group_search.specs.Rooms.{IsShaped}
use Rattle.group_search.specs.Works.{IsWork}
use Rattle.group_search.proofs.LowerLaws.{Cheaper, IsFixed}
use Rattle.group_search.proofs.lower.lower.Given as goal

abbrev pub invariant-loop-place : goal.invariant-loop-place
invariant-loop-place g l = record {
  space : g.P.Paths.means.is_space l.problem l.space;
  work : IsWork (g.P.Paths.means.question l.problem) l.work;
  shape : IsShaped (g.P.Paths.means.question l.problem) l.other;
  settled : IsSettled (g.P.Paths.means.question l.problem) l.work.boxed.masks l.work.names l.limit l.chosen;
  fixed : IsFixed (g.P.Paths.means.question l.problem) l.fn.work.boxed.masks l.place l.chosen.values l.work.boxed.masks;
  lowered : IsLowered (Cheaper (g.P.Paths.means.question l.problem) l.fn.work.boxed.masks l.limit) l.place l.chosen.values;
}
