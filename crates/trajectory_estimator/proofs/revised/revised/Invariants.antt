use Rattle.std.proofs.Common.{◌≡◌, ◌<◌, ℕ, List, Some}
use Rattle.std.specs.List.{slice_get}
use Rattle.trajectory_estimator.specs.Asked.{modes_of}
use Rattle.trajectory_estimator.proofs.revised.revised.Given as goal

abbrev pub invariant-loop-at : goal.invariant-loop-at
invariant-loop-at l = (j : ℕ) (u v : List ℕ) → j < l.at → slice_get (modes_of l.old) j ≡ Some u → slice_get (modes_of l.new) j ≡ Some v → u ≡ v
