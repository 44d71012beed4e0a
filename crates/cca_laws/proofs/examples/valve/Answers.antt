use Rattle.cca_laws.proofs.ValveWellFormed.{valve_is_well_formed}
use Rattle.cca_laws.proofs.ValveExamples.{driver_comes_on, stuck_mends, opening_needs_driver, stuck_is_not_leaned_on, closed_is_leaned_on, opening_for_good, opening_is_allowed}
use Rattle.cca_laws.proofs.examples.valve.Goals as goal

pub returns-clause-driver : goal.returns-clause-driver
returns-clause-driver c = driver_comes_on

pub returns-clause-stuck : goal.returns-clause-stuck
returns-clause-stuck c = stuck_mends

pub returns-clause-opening : goal.returns-clause-opening
returns-clause-opening c = opening_needs_driver

pub returns-clause-stuck_engine : goal.returns-clause-stuck_engine
returns-clause-stuck_engine c = stuck_is_not_leaned_on

pub returns-clause-closed_engine : goal.returns-clause-closed_engine
returns-clause-closed_engine c = closed_is_leaned_on

pub returns-clause-for_good : goal.returns-clause-for_good
returns-clause-for_good c = opening_for_good

pub returns-clause-well_formed : goal.returns-clause-well_formed
returns-clause-well_formed c = valve_is_well_formed

pub returns-clause-allowed : goal.returns-clause-allowed
returns-clause-allowed c = opening_is_allowed
