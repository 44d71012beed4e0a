use Rattle.std.proofs.Common.{◌<◌, ℕ, slice_index}
use Rattle.reach_laws.specs.Classes.{Stands}
use Rattle.reversibility.specs.ClassParts.{in_row}
use Rattle.reversibility.proofs.classes.Classes.covers.Given as goal

abbrev pub invariant-loop-c : goal.invariant-loop-c
invariant-loop-c l = (k : ℕ) → k < l.c → Stands l.self.compiled.model l.self.base (in_row l.self.rows) k (slice_index l.state.modes k)
