use Rattle.std.proofs.lemmas.Nat.{or_lt}
use Rattle.cca_base.specs.declared.limits.TheConstants.{MAX_CHOICES}
use Rattle.cca_base.proofs.sets.ValueSet.union.Goals as goal

pub invariant_of-result : goal.invariant_of-result
invariant_of-result c = or_lt MAX_CHOICES c.self.inside.bits c.other.inside.bits c.self.invariant c.other.invariant
