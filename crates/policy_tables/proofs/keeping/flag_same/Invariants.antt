use Rattle.std.proofs.Common.{◌≡◌, ◌<◌, ℕ, length}
use Rattle.cca_base.specs.Flags.{IsSet}
use Rattle.policy_tables.specs.Keeping.{HasSameSets}
use Rattle.policy_tables.proofs.keeping.flag_same.Given as goal

abbrev pub invariant-loop-c : goal.invariant-loop-c
invariant-loop-c l = (length l.flags ≡ length l.other.compiled.model.components) × ((c : ℕ) → c < l.c → IsSet l.flags c → HasSameSets l.one l.other c)
