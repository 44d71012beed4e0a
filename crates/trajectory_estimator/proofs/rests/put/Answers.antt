use Rattle.std.proofs.Common.{◌+◌, ◌*◌, length, get_or, None, ap, ◌∙◌}
use Rattle.std.proofs.lemmas.List.{length-set}
use Rattle.trajectory_estimator.specs.Rests.{row_at}
use Rattle.trajectory_estimator.proofs.RowLaws.{put_here, put_kept, put_others}
use Rattle.trajectory_estimator.proofs.rests.put.Goals as goal

pub returns-clause-kept : goal.returns-clause-kept
returns-clause-kept c = (
  ap length c.set.ensures ∙ length-set c.args.room.now (c.args.at * 64 + c.args.mode) c.args.cost,
  λ other differs. ap (λ l. row_at l other) c.set.ensures ∙ put_kept 64 c.args.room.now c.args.at c.args.mode c.args.cost c.requires.mode other differs,
)

pub returns-clause-here : goal.returns-clause-here
returns-clause-here c = ap (λ l. get_or (row_at l c.args.at) c.args.mode None) c.set.ensures ∙ put_here 64 c.args.room.now c.args.at c.args.mode c.args.cost c.requires.mode c.requires.row

pub returns-clause-others : goal.returns-clause-others
returns-clause-others c = λ other differs.
    ap (λ l. get_or (row_at l c.args.at) other None) c.set.ensures ∙ put_others 64 c.args.room.now c.args.at c.args.mode c.args.cost c.requires.mode other differs
