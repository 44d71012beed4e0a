use Rattle.std.proofs.Common.{refl}
use Rattle.version_laws.proofs.nothing_but_rules.Goals as goal
use Rattle.version_laws.proofs.Kept.{versions_alike}

pub returns-clause-alike : goal.returns-clause-alike
returns-clause-alike c = versions_alike

pub returns-clause-differ : goal.returns-clause-differ
returns-clause-differ c m v = refl
