use Rattle.std.proofs.Common.{length, sym, ap, subst, ◌∙◌}
use Rattle.successors.specs.Choices.{AreLeast}
use Rattle.trajectory_estimator.specs.Changes.{AreChangesOf}
use Rattle.trajectory_estimator.proofs.StillLaws.{anchor_mode, no_failures, not_true, still_by}
use Rattle.trajectory_estimator.proofs.still.is_still.Goals as goal

pub row-requires-clause-mode : goal.row-requires-clause-mode
unfolding AreChangesOf
row-requires-clause-mode c =
    let own = anchor_mode c.args.query.now c.anchor.result.now.modes c.args.component c.get-from.result.now c.anchor.ensures.state c.anchor.ensures.value c.requires c.get-from.ensures.value in
    (c.changes.ensures c.args.component c.get-from.result.now own.1).mode

pub row-requires-clause-component : goal.row-requires-clause-component
unfolding AreChangesOf
row-requires-clause-component c =
    let own = anchor_mode c.args.query.now c.anchor.result.now.modes c.args.component c.get-from.result.now c.anchor.ensures.state c.anchor.ensures.value c.requires c.get-from.ensures.value in
    (c.changes.ensures c.args.component c.get-from.result.now own.1).component

pub returns : goal.returns
unfolding AreChangesOf
returns c = λ e.
    let q = c.args.query.now in
    let n = c.args.component in
    let from = c.get-from.result.now in
    let own = anchor_mode q c.anchor.result.now.modes n from c.anchor.ensures.state c.anchor.ensures.value c.requires c.get-from.ensures.value in
    let has = c.changes.ensures n from own.1 in
    let none = c.some_failure.ensures (not_true c.some_failure.result e) in
    let sound = no_failures q.model n from c.row.result.now c.anchor.ensures.asked.model (ap length c.row.ensures ∙ has.full)
    (subst (AreLeast q.model.failures n from) (sym c.row.ensures) has.least) none in
    still_by q n from own.0 (c.is_moved.ensures c.if-is_moved.false) sound
