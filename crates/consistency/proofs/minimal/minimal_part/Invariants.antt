use Rattle.std.proofs.Common.{◌≤◌, length, take}
use Rattle.consistency.specs.Spaces.{IsWorldSpace}
use Rattle.consistency.proofs.Shrinking.{IsShrinking}
use Rattle.consistency.proofs.minimal.minimal_part.Given as goal

abbrev pub invariant-leaving : goal.invariant-leaving
invariant-leaving l = record {
  shrinking : IsShrinking l.rules.model.now l.seen.pairs l.fn.pairs l.kept (take l.count l.left);
  room : l.count ≤ length l.left;
  space : IsWorldSpace l.rules.worlds.now l.space;
}

abbrev pub decreases-leaving : goal.decreases-leaving
decreases-leaving l = l.count
