use Rattle.std.proofs.Common.{◌≡◌, drop}
use Rattle.std.specs.Cmp.Lexicographic.{slice_cmp}
use Rattle.cca_base.specs.Cube.{pair_cmp}
use Rattle.guard_compiler.proofs.cover.order_of_pairs.Given as goal

abbrev pub invariant-loop-i : goal.invariant-loop-i
invariant-loop-i l = slice_cmp pair_cmp (drop l.i l.a) (drop l.i l.b) ≡ slice_cmp pair_cmp l.a l.b
