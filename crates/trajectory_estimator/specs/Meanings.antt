-- What a window's question means.
use Rattle.std.specs.Prelude.{length}
use Rattle.group_search.specs.Meanings.{PathMeaning}
use Rattle.trajectory_estimator.specs.Windows.{window_of}
use Rattle.trajectory_estimator.specs.Spaces.{IsWindowSpace}
use Rattle.trajectory_estimator.specs.declared.space.WindowSpace.{WindowSpace}
use Rattle.trajectory_estimator.specs.declared.paths.WindowPaths.{WindowPaths}

-- the window of its query, and memory for the worlds of its rules and for its components
abbrev pub window_means : PathMeaning WindowPaths WindowSpace
window_means = record { question = λ x. window_of x.query.now; is_space = λ x space. IsWindowSpace x.query.now.worlds (length x.query.now.model.components) space }
