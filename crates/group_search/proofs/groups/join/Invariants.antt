use Rattle.std.proofs.Common.{◌≡◌, length}
use Rattle.group_search.specs.Floors.{AreJoined}
use Rattle.group_search.proofs.groups.join.Given as goal

abbrev pub invariant-loop-pair : goal.invariant-loop-pair
invariant-loop-pair l = record {
  joined : AreJoined l.initial.names l.names;
  long : length l.names ≡ length l.initial.names;
}
