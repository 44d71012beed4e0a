use Rattle.std.proofs.Common.{IfSome}
use Rattle.world_search.specs.Choices.{IsOpen}
use Rattle.world_search.proofs.activity.most_active.Given as goal

abbrev pub invariant-loop-v : goal.invariant-loop-v
invariant-loop-v l = IfSome l.best (IsOpen l.dom)
