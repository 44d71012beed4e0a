use Rattle.std.proofs.Common.{◌≡◌, ◌≤◌, length}
use Rattle.cca_base.specs.Relations.{AreExactly}
use Rattle.policy_tables.specs.Leaving.{LeavesMode}
use Rattle.reversibility.specs.Levels.{IsAmong}
use Rattle.policy_tables.proofs.leaving.write_leaving.Given as goal

abbrev pub invariant-loop-k : goal.invariant-loop-k
invariant-loop-k l = AreExactly (λ i. IsAmong l.numbers l.k i × LeavesMode l.model l.from i) l.leaving.items × (length l.leaving.items ≤ l.k) × (l.leaving.room ≡ l.fn.leaving.room)
