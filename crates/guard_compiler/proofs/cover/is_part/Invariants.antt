use Rattle.std.proofs.Common.{◌≡◌, drop}
use Rattle.guard_compiler.specs.Cover.{is_subsequence}
use Rattle.guard_compiler.proofs.cover.is_part.Given as goal

abbrev pub invariant-loop-pair : goal.invariant-loop-pair
invariant-loop-pair l = is_subsequence l.rest (drop l.pair-index l.pair-items) ≡ is_subsequence l.part l.cube
