use Rattle.std.proofs.Common.{◌≡◌, ℕ, ◌<◌, false}
use Rattle.acceptance.specs.Falsified.{is_free}
use Rattle.acceptance.proofs.falsified.least_free.Given as goal

-- no value so far is free
abbrev pub invariant-loop-value : goal.invariant-loop-value
invariant-loop-value l = (v : ℕ) → v < l.value → is_free l.literals l.subject v ≡ false
