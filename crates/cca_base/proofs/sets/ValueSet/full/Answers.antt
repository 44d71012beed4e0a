use Rattle.std.proofs.Common.{arith}
use Rattle.cca_base.proofs.SetLaws.{has_full}
use Rattle.cca_base.proofs.sets.ValueSet.full.Goals as goal

pub returns-clause-members : goal.returns-clause-members
returns-clause-members c = has_full 128 c.args.n (omega (arith, c.requires))
