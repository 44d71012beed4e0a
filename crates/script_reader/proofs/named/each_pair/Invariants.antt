use Rattle.std.proofs.Common.{◌≡◌, drop, map}
use Rattle.text_base.specs.Pairs.{shown_pair}
use Rattle.script_reader.specs.Named.{stands_for, each_pair}
use Rattle.script_reader.proofs.PairsSoFar.{with_front}
use Rattle.script_reader.proofs.named.each_pair.Given as goal

-- the pairs so far stand before those of what is left
abbrev pub invariant-loop-one : goal.invariant-loop-one
invariant-loop-one l = with_front l.pairs (each_pair (stands_for l.naming l.model) (map shown_pair (drop l.one-index l.named))) ≡ each_pair (stands_for l.naming l.model) (map shown_pair l.named)
