use Rattle.std.proofs.Common.{◌≤◌, length, take}
use Rattle.cca_base.specs.Accepted.{AreWays}
use Rattle.cca_base.specs.declared.limits.TheConstants.{MAX_WAYS}
use Rattle.guard_compiler.specs.Conjunctions.{all_of, with_guard}
use Rattle.guard_compiler.proofs.conjunctions.conjunction_implicants.Given as goal

abbrev pub invariant-loop-part : goal.invariant-loop-part
invariant-loop-part l = record {
  ways : AreWays l.model (with_guard l.the_move (all_of (take l.part-index l.parts))) l.cubes;
  few : length l.cubes ≤ MAX_WAYS;
}
