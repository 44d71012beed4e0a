use Rattle.cca_laws.proofs.CauseExamples.{driver_serves_valve, valve_serves_no_driver}
use Rattle.cca_laws.proofs.examples.causes.Goals as goal

pub returns-clause-driver : goal.returns-clause-driver
returns-clause-driver c = driver_serves_valve

pub returns-clause-valve : goal.returns-clause-valve
returns-clause-valve c = valve_serves_no_driver
