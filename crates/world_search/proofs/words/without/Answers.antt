use Rattle.std.proofs.Common.{arith}
use Rattle.world_search.proofs.StoreLaws.{has_without}
use Rattle.world_search.proofs.SettleLaws.{low_member}
use Rattle.world_search.proofs.words.without.Goals as goal

pub returns-then-value-lt-MAX_CHOICES : goal.returns-then-value-lt-MAX_CHOICES
returns-then-value-lt-MAX_CHOICES c a is = has_without c.args.word c.args.value a (omega arith) c.if-value-lt-MAX_CHOICES.true is

pub returns-else-value-lt-MAX_CHOICES : goal.returns-else-value-lt-MAX_CHOICES
returns-else-value-lt-MAX_CHOICES c a is = (is, λ same. let low = low_member c.args.word a (omega arith) is in absurd (omega (arith, low, same)))
