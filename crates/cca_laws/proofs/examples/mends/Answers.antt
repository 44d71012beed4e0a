use Rattle.cca_laws.proofs.MendCompiled.{mending_is_compiled}
use Rattle.cca_laws.proofs.MendSteps.{going_is_allowed}
use Rattle.cca_laws.proofs.MendGoal.{back_goal_is_mended}
use Rattle.cca_laws.proofs.MendRoute.{route_comes_back}
use Rattle.cca_laws.proofs.examples.mends.Goals as goal

pub returns-clause-compiled : goal.returns-clause-compiled
returns-clause-compiled c = mending_is_compiled

pub returns-clause-going : goal.returns-clause-going
returns-clause-going c = going_is_allowed

pub returns-clause-goal : goal.returns-clause-goal
returns-clause-goal c = back_goal_is_mended

pub returns-clause-route : goal.returns-clause-route
returns-clause-route c = route_comes_back
