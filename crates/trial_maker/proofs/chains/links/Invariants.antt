use Rattle.std.proofs.Common.{◌≡◌, map}
use Rattle.std.specs.List.{range_with_len}
use Rattle.trial_maker.specs.Chains.{link_at}
use Rattle.trial_maker.proofs.chains.links.Given as goal

-- the components so far
abbrev pub invariant-loop-number : goal.invariant-loop-number
invariant-loop-number l = l.links.items ≡ map link_at (range_with_len 0 l.number)
