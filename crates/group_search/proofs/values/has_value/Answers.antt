use Rattle.cca_base.specs.declared.limits.TheConstants.{MAX_CHOICES}
use Rattle.cca_base.proofs.SetLaws.{has_above}
use Rattle.std.proofs.Common.{arith}
use Rattle.group_search.proofs.values.has_value.Goals as goal

pub returns-else-value-lt-MAX_CHOICES : goal.returns-else-value-lt-MAX_CHOICES
returns-else-value-lt-MAX_CHOICES c = has_above MAX_CHOICES c.args.word c.args.value (omega arith) c.if-value-lt-MAX_CHOICES.false
