use Rattle.std.proofs.Common.{◌≡◌, length, take}
use Rattle.cca_base.specs.Relations.{numbers_below}
use Rattle.group_search.proofs.work.name_apart.Given as goal

abbrev pub invariant-loop-c : goal.invariant-loop-c
invariant-loop-c l = record {
  long : length l.names ≡ length l.fn.names;
  done : take l.c l.names ≡ numbers_below l.c;
}
