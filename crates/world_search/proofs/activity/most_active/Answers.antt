use Rattle.std.proofs.Common.{slice_index, arith}
use Rattle.world_search.proofs.SettleLaws.{some_member}
use Rattle.world_search.proofs.activity.most_active.Goals as goal
use Rattle.world_search.proofs.activity.most_active.Goals.{then-activity-v+then-without-ne0, else-activity-v}

pub loop-v-preserved : goal.loop-v-preserved
loop-v-preserved c =
    let v = c.loop-v.v in
    elim c.if-activity-v.branch [
      | then-activity-v+then-without-ne0 w ↦
          let other = some_member w.without.result (omega arith) w.if-without-ne0.true in
          let both = w.without.ensures other.0 other.1 in
          let left = c.requires.left v c.loop-v-test.true in
          rw w.best-is (record {
            subject = c.loop-v-test.true;
            small = c.requires.sets.small v (slice_index c.args.trial.now v) left;
            left = left;
            other = (other.0, both.1, both.0);
          })
      | else-activity-v w ↦ rw w.best-is c.loop-v.invariant
    ]
