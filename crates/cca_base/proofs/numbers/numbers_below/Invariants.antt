use Rattle.std.proofs.Common.{◌≡◌}
use Rattle.cca_base.specs.Relations.{numbers_below}
use Rattle.cca_base.proofs.numbers.numbers_below.Given as goal

abbrev pub invariant-loop-c : goal.invariant-loop-c
invariant-loop-c l = l.numbers.items ≡ numbers_below l.c
