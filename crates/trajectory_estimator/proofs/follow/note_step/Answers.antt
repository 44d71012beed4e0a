use Rattle.std.proofs.Common.{length, ap, arith}
use Rattle.std.proofs.lemmas.List.{length-set}
use Rattle.trajectory_estimator.specs.PlaceLaws.{length-places}
use Rattle.trajectory_estimator.proofs.follow.note_step.Goals as goal

pub set-requires : goal.set-requires
set-requires c = omega (arith, c.mode_place.ensures.within, c.requires.shape.values, length-places c.args.asked.now.query.now)

pub set-requires-2 : goal.set-requires-2
set-requires-2 c =
    omega (
      arith,
      c.gate_place.ensures.within,
      c.requires.shape.values,
      length-places c.args.asked.now.query.now,
      ap length c.set.ensures,
      length-set c.args.columns.now.values c.mode_place.result c.args.step.to,
    )
