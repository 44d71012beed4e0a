use Rattle.window_laws.proofs.Paths.{clash_cuts}
use Rattle.window_laws.proofs.Interleaved.{trajectory_paths}
use Rattle.window_laws.proofs.Joining.{paths_trajectory}
use Rattle.window_laws.proofs.searches.Goals as goal

pub returns-clause-clashes : goal.returns-clause-clashes
returns-clause-clashes c = clash_cuts

pub returns-clause-paths : goal.returns-clause-paths
returns-clause-paths c = paths_trajectory

pub returns-clause-each : goal.returns-clause-each
returns-clause-each c = trajectory_paths
