use Rattle.std.proofs.Common.{sym, subst}
use Rattle.clash_analysis.specs.Laws.{Passes}
use Rattle.clash_analysis.specs.Ends.{AreSets}
use Rattle.clash_analysis.proofs.TrailLaws.{popped, pushed}
use Rattle.clash_analysis.proofs.RoomLaws.{sets_left, trail_fits}
use Rattle.clash_analysis.proofs.laws.trails.Goals as goal

pub returns-clause-push : goal.returns-clause-push
returns-clause-push c want = pushed (Passes want)

pub returns-clause-pop : goal.returns-clause-pop
returns-clause-pop c want = popped (Passes want)

pub returns-clause-fit : goal.returns-clause-fit
returns-clause-fit c want pairs width start dom trail are t =
    (subst (AreSets width) (sym t.leads) (sets_left (Passes want) pairs width start trail are t.entries), trail_fits (Passes want) pairs width start trail are t.entries)
