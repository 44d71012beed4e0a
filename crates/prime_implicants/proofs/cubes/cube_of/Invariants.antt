use Rattle.std.proofs.Common.{◌≡◌, ◌++◌, length}
use Rattle.prime_implicants.specs.Found.{pairs_listed, pairs_of_key}
use Rattle.prime_implicants.proofs.cubes.cube_of.Given as goal

abbrev pub decreases-loop-rest : goal.decreases-loop-rest
decreases-loop-rest l = length l.rest

abbrev pub invariant-loop-rest : goal.invariant-loop-rest
invariant-loop-rest l = l.cube ++ pairs_listed l.rest ≡ pairs_of_key l.key
