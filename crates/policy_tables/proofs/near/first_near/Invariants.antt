use Rattle.std.proofs.Common.{◌<◌, ℕ}
use Rattle.policy_tables.specs.Distances.{NearAt}
use Rattle.policy_tables.proofs.near.first_near.Given as goal

abbrev pub invariant-loop-k : goal.invariant-loop-k
invariant-loop-k l = (j : ℕ) → j < l.k → NearAt l.model l.numbers l.level l.to j → ⊥
