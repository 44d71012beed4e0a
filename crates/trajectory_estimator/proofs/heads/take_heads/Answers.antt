use Rattle.std.proofs.Common.{◌+◌, sym, subst}
use Rattle.trajectory_estimator.specs.Rests.{row_at}
use Rattle.trajectory_estimator.proofs.HeadLaws.{TakesTo, least_to, nothing_to, takes_all}
use Rattle.trajectory_estimator.proofs.heads.take_heads.Goals.{in-Some, in_default}
use Rattle.trajectory_estimator.proofs.heads.take_heads.Goals as goal

pub loop-to-preserved : goal.loop-to-preserved
loop-to-preserved c =
    let head = c.args.head in
    let leaving = c.args.leaving.now in
    let ahead = c.args.ahead.now in
    let old = c.loop-to.room in
    let to = c.loop-to.to in
    let first = c.args.room.now in
    let now = c.loop-to.invariant in
    let Takes = TakesTo c.args.at head leaving ahead first (to + 1) in
    elim c.match-step_to.branch [
      | in-Some w ↦
          let took = w.take_head in
          subst Takes (sym w.room-is) (least_to c.args.at head leaving ahead first old to now took.new.room w.in-Some.step w.in-Some.ensures took.ensures.kept took.ensures.less took.ensures.taken)
      | in_default w ↦ subst Takes (sym w.room-is) (nothing_to c.args.at head leaving ahead first old to now w.in_default.ensures)
    ]

pub returns-clause-taken : goal.returns-clause-taken
returns-clause-taken c = takes_all c.args.leaving.now c.args.ahead.now (row_at c.loop-to.room c.args.at) c.args.head c.loop-to.to c.loop-to-test.false c.loop-to.invariant.taken
