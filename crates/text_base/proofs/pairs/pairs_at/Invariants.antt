use Rattle.std.proofs.Common.{◌-◌, length, map}
use Rattle.text_base.specs.Pairs.{pair_at, shown_pair}
use Rattle.text_base.proofs.ListsRead.{IsReadingList}
use Rattle.text_base.proofs.pairs.pairs_at.Given as goal

abbrev pub invariant-pairs : goal.invariant-pairs
invariant-pairs l = IsReadingList pair_at l.tokens (map shown_pair l.pairs.items) l.at

abbrev pub decreases-pairs : goal.decreases-pairs
decreases-pairs l = length l.tokens - l.at
