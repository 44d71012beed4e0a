use Rattle.std.proofs.Common.{◌≡◌, ◌++◌, true}
use Rattle.std.specs.BTreeSet.{btree_set_len}
use Rattle.prime_implicants.specs.Found.{all_keys, cubes_of_keys, is_proper}
use Rattle.prime_implicants.proofs.cubes.cubes_of.Given as goal

abbrev pub invariant-loop-key : goal.invariant-loop-key
invariant-loop-key l =
    record {
      proper : all_keys is_proper l.found.keys ≡ true;
      done : l.cubes ++ cubes_of_keys l.found.keys ≡ cubes_of_keys l.initial.found.keys;
    }

abbrev pub decreases-loop-key : goal.decreases-loop-key
decreases-loop-key l = btree_set_len l.found
