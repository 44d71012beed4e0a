use Rattle.std.proofs.Common.{◌≡◌, take}
use Rattle.policy_tables.proofs.ways.effects_first.Given as goal

abbrev pub invariant-loop-pair : goal.invariant-loop-pair
invariant-loop-pair l = l.sorted ≡ take l.pair-index l.pair-items
