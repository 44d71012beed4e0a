use Rattle.reach_laws.proofs.Stands.{stands_by_base, repairs_mend_at_once, stuck_stays}
use Rattle.reach_laws.proofs.first_version.Goals as goal

pub returns-clause-stands : goal.returns-clause-stands
returns-clause-stands c = stands_by_base

pub returns-clause-mends : goal.returns-clause-mends
returns-clause-mends c = repairs_mend_at_once

pub returns-clause-stuck : goal.returns-clause-stuck
returns-clause-stuck c = stuck_stays
