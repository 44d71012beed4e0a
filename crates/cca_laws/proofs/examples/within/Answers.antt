use Rattle.cca_laws.proofs.WithinExamples.{observing_ends_no_stretch, mirroring_ends_no_stretch, one_bound_is_stated}
use Rattle.cca_laws.proofs.examples.within.Goals as goal

pub returns-clause-observing : goal.returns-clause-observing
returns-clause-observing c = observing_ends_no_stretch

pub returns-clause-mirroring : goal.returns-clause-mirroring
returns-clause-mirroring c = mirroring_ends_no_stretch

pub returns-clause-one_bound : goal.returns-clause-one_bound
returns-clause-one_bound c = one_bound_is_stated
