use Rattle.std.proofs.Common.{◌≡◌, ◌+◌, None, Some, length, slice_index_or, sym, ap, subst, arith}
use Rattle.trajectory_estimator.specs.Rests.{IsFollowed, IsLeastFrom, KeepsValues}
use Rattle.trajectory_estimator.proofs.FilledRows.{rests_few}
use Rattle.trajectory_estimator.proofs.FollowLaws.{IsFollowing, followed, following_more, following_none, kept_shape, many_records, no_walk, own_cheap, paid_kept, row_behind}
use Rattle.trajectory_estimator.proofs.follow.follow.Goals as goal

pub loop-at-init : goal.loop-at-init
loop-at-init c = following_none c.args.asked.now c.anchor-mode.result c.args.columns.now c.anchor-mode.ensures.value c.anchor-mode.ensures.mode

pub row_of-requires : goal.row_of-requires
row_of-requires c =
    let count = many_records c.args.asked.now.query.now c.records-at-end.result.now c.records-at-end.ensures.value in
    omega (arith, c.requires.rests.full, ap length c.loop-at.invariant.kept.behind, c.loop-at-test.true, count)

pub step_from-requires-clause-mode : goal.step_from-requires-clause-mode
step_from-requires-clause-mode c = c.loop-at.invariant.has_mode

pub step_from-requires-clause-cheap : goal.step_from-requires-clause-cheap
step_from-requires-clause-cheap c =
    let x = c.args.asked.now in
    let now = c.loop-at in
    let old = c.args.columns.now in
    let row = row_behind x now.at now.mode now.cost old now.columns c.row_of.result.now now.invariant c.row_of.ensures.row in
    let count = many_records x.query.now c.records-at-end.result.now c.records-at-end.ensures.value in
    λ mode rest few e. rests_few x 0 old.behind c.requires.rests c.anchor-mode.ensures.asked.few (now.at + 1) (omega arith) (omega (arith, count, c.loop-at-test.true)) mode rest few
    (subst (λ l. slice_index_or l mode None ≡ Some rest) row e)

pub returns-in_default-clause-kept : goal.returns-in_default-clause-kept
returns-in_default-clause-kept c = c.loop-at.invariant.kept

pub returns-in_default-clause-none : goal.returns-in_default-clause-none
returns-in_default-clause-none c = λ e.
    let x = c.args.asked.now in
    let now = c.loop-at in
    let old = c.args.columns.now in
    let row = row_behind x now.at now.mode now.cost old now.columns c.row_of.result.now now.invariant c.row_of.ensures.row in
    let count = many_records x.query.now c.records-at-end.result.now c.records-at-end.ensures.value in
    no_walk x now.at now.mode now.cost old now.columns c.requires.rests (omega (arith, count, c.loop-at-test.true)) now.invariant
    c.anchor-mode.ensures.asked.model c.anchor-mode.ensures.asked.anchor (subst (λ l. IsLeastFrom x now.at l now.mode None) row c.in_default.ensures)

pub note_step-requires-clause-shape : goal.note_step-requires-clause-shape
note_step-requires-clause-shape c = kept_shape c.args.asked.now c.args.columns.now c.loop-at.columns c.loop-at.invariant.kept c.requires.shape

pub overflow_add-cost : goal.overflow_add-cost
overflow_add-cost c =
    let x = c.args.asked.now in
    let now = c.loop-at in
    let old = c.args.columns.now in
    let row = row_behind x now.at now.mode now.cost old now.columns c.row_of.result.now now.invariant c.row_of.ensures.row in
    let count = many_records x.query.now c.records-at-end.result.now c.records-at-end.ensures.value in
    let least = subst (λ l. IsLeastFrom x now.at l now.mode (Some c.in-Some.step)) row c.in-Some.ensures in
    let own = own_cheap x now.at now.mode now.cost old now.columns c.requires.rests (omega (arith, count, c.loop-at-test.true)) now.invariant c.in-Some.step
    c.anchor-mode.ensures.asked.model c.requires.shape least in
    omega (arith, own, now.invariant.cheap, c.loop-at-test.true, c.records-at-end.ensures.few)

pub loop-at-preserved : goal.loop-at-preserved
loop-at-preserved c =
    let x = c.args.asked.now in
    let now = c.loop-at in
    let old = c.args.columns.now in
    let row = row_behind x now.at now.mode now.cost old now.columns c.row_of.result.now now.invariant c.row_of.ensures.row in
    let count = many_records x.query.now c.records-at-end.result.now c.records-at-end.ensures.value in
    let least = subst (λ l. IsLeastFrom x now.at l now.mode (Some c.in-Some.step)) row c.in-Some.ensures in
    subst (IsFollowing x (now.at + 1) c.in-Some.step.to (now.cost + c.in-Some.step.own) old) (sym c.note_step.ensures)
    (following_more x now.at now.mode now.cost old now.columns c.requires.rests (omega (arith, count, c.loop-at-test.true)) now.invariant c.in-Some.step
    c.anchor-mode.ensures.asked.model c.requires.shape least)

pub set-requires : goal.set-requires
set-requires c = omega (arith, c.loop-at.invariant.kept.costs_full, c.requires.shape.costs, c.args.asked.now.within)

pub returns-clause-kept : goal.returns-clause-kept
returns-clause-kept c =
    let x = c.args.asked.now in
    let now = c.loop-at in
    let count = many_records x.query.now c.records-at-end.result.now c.records-at-end.ensures.value in
    subst (λ costs. KeepsValues x c.args.columns.now (record now.columns { costs = costs })) (sym c.set.ensures)
    (paid_kept x now.at now.mode now.cost c.args.columns.now now.columns c.requires.rests c.requires.shape now.invariant (omega (arith, count, c.loop-at-test.false)))

pub returns-clause-walk : goal.returns-clause-walk
returns-clause-walk c = λ e.
    let x = c.args.asked.now in
    let now = c.loop-at in
    let count = many_records x.query.now c.records-at-end.result.now c.records-at-end.ensures.value in
    subst (λ costs. IsFollowed x c.args.columns.now (record now.columns { costs = costs })) (sym c.set.ensures)
    (followed x now.at now.mode now.cost c.args.columns.now now.columns c.requires.rests c.requires.shape now.invariant (omega (arith, count, c.loop-at-test.false))
    c.anchor-mode.ensures.asked.model c.anchor-mode.ensures.asked.anchor)
