use Rattle.trace_laws.proofs.GoalsServed.{goals_are_served, measured_goals_are_served, promises_are_kept}
use Rattle.trace_laws.proofs.PromisesKept.{promising_traces_hold, promising_traces_keep}
use Rattle.trace_laws.proofs.promises_kept.Goals as goal

pub returns-clause-served : goal.returns-clause-served
returns-clause-served c = goals_are_served

pub returns-clause-measured : goal.returns-clause-measured
returns-clause-measured c = measured_goals_are_served

pub returns-clause-kept : goal.returns-clause-kept
returns-clause-kept c = promises_are_kept

pub returns-clause-promising : goal.returns-clause-promising
returns-clause-promising c = promising_traces_keep

pub returns-clause-held : goal.returns-clause-held
returns-clause-held c = promising_traces_hold
