use Rattle.std.proofs.Common.{◌≡◌, length}
use Rattle.script_reader.proofs.PairsRead.{AreReadPairs}
use Rattle.script_reader.proofs.found.found_in.Given as goal

-- the pairs so far stand before those that are ahead, and what was found is found of them
abbrev pub invariant-pairs : goal.invariant-pairs
invariant-pairs l = record {
  read : AreReadPairs l.naming l.context.model l.context.pending.now l.context.mirrored l.fn.start l.ahead l.found l.pairs.items;
  room : l.pairs.room ≡ l.fn.pairs.room;
}

abbrev pub decreases-pairs : goal.decreases-pairs
decreases-pairs l = length l.ahead
