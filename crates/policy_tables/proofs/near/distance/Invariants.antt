use Rattle.std.proofs.Common.{◌-◌}
use Rattle.policy_tables.proofs.Halving.{IsBetween}
use Rattle.policy_tables.proofs.near.distance.Given as goal

abbrev pub invariant-halving : goal.invariant-halving
invariant-halving l = IsBetween l.paths.levels l.from l.to l.low l.high

abbrev pub decreases-halving : goal.decreases-halving
decreases-halving l = l.high - l.low
