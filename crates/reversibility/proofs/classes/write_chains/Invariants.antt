use Rattle.std.proofs.Common.{◌≡◌, length}
use Rattle.reversibility.specs.Chains.{AreOpenChains}
use Rattle.reversibility.specs.ClassParts.{in_row}
use Rattle.reversibility.proofs.classes.write_chains.Given as goal

-- the chains of the first components
abbrev pub invariant-loop-c : goal.invariant-loop-c
invariant-loop-c l = (length l.chains ≡ length l.rows) × AreOpenChains l.compiled.model l.base.modes (in_row l.rows) l.chains l.c
