use Rattle.std.proofs.Common.{◌*◌, ◌^◌}
use Rattle.std.proofs.Math.Nat.{mod-add-mod}
use Rattle.trial_maker.specs.Draws.{multiplier, increment, next_number}
use Rattle.trial_maker.proofs.draws.next_number.Goals as goal

pub returns : goal.returns
unfolding next_number
returns c = mod-add-mod (c.args.number * multiplier) (2 ^ 64) increment
