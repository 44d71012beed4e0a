use Rattle.std.proofs.Common.{take}
use Rattle.guard_compiler.specs.Conjunctions.{all_of}
use Rattle.guard_compiler.specs.Wishes.{AreImplicants}
use Rattle.guard_compiler.proofs.wish_parts.wish_by_parts.Given as goal

abbrev pub invariant-loop-part : goal.invariant-loop-part
invariant-loop-part l = AreImplicants l.model (all_of (take l.part-index l.parts)) l.cubes
