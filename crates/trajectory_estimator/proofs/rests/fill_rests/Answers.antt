use Rattle.std.proofs.Common.{◌≡◌, ℕ, ◌+◌, ◌-◌, length, sym, ap, subst, ◌∙◌, arith}
use Rattle.std.proofs.lemmas.List.{length-map}
use Rattle.trajectory_estimator.specs.Asked.{entry_of}
use Rattle.trajectory_estimator.specs.Rests.{AreRestsFrom}
use Rattle.trajectory_estimator.proofs.FilledRows.{rests_few, rests_more, rests_none}
use Rattle.trajectory_estimator.proofs.rests.fill_rests.Goals as goal

pub loop-done-init : goal.loop-done-init
loop-done-init c =
    let x = c.args.asked.now in
    let count : length x.query.now.records ≡ length c.records-count.result.now = sym (ap length c.records-count.ensures.value) ∙ length-map c.records-count.result.now entry_of in
    let all : length x.query.now.records ≡ length c.records-count.result.now - 0 = omega (arith, count) in
    subst (λ bound. AreRestsFrom x bound c.fill_last.new.room) all
    (rests_none x c.fill_last.new.room (c.fill_last.ensures.full ∙ c.requires.full) c.fill_last.ensures.last)

pub fill_row-requires-clause-full : goal.fill_row-requires-clause-full
fill_row-requires-clause-full c = c.loop-done.invariant.full

pub fill_row-requires-clause-cheap : goal.fill_row-requires-clause-cheap
fill_row-requires-clause-cheap c =
    let x = c.args.asked.now in
    let count : length x.query.now.records ≡ length c.records-count.result.now = sym (ap length c.records-count.ensures.value) ∙ length-map c.records-count.result.now entry_of in
    let done : ℕ = c.loop-done.done in
    rests_few x (length c.records-count.result.now - done) c.loop-done.room c.loop-done.invariant c.records-count.ensures.asked.few (length c.records-count.result.now - 1 - done + 1)
    (omega arith) (omega (arith, count, c.loop-done-test.true))

pub loop-done-preserved : goal.loop-done-preserved
loop-done-preserved c =
    let x = c.args.asked.now in
    let count : length x.query.now.records ≡ length c.records-count.result.now = sym (ap length c.records-count.ensures.value) ∙ length-map c.records-count.result.now entry_of in
    let done : ℕ = c.loop-done.done in
    let at : ℕ = length c.records-count.result.now - 1 - done in
    let bound : length c.records-count.result.now - done ≡ at + 1 = omega (arith, c.loop-done-test.true) in
    let next : at ≡ length c.records-count.result.now - (done + 1) = omega (arith, c.loop-done-test.true) in
    subst (λ n. AreRestsFrom x n c.fill_row.new.room) next
    (rests_more x at c.loop-done.room c.fill_row.new.room (subst (λ n. AreRestsFrom x n c.loop-done.room) bound c.loop-done.invariant) (omega (arith, count, c.loop-done-test.true))
    c.fill_row.ensures.kept c.fill_row.ensures.totals c.fill_row.ensures.cheap)

pub returns : goal.returns
returns c =
    let none : length c.records-count.result.now - c.loop-done.done ≡ 0 = omega (arith, c.loop-done-test.false) in
    subst (λ n. AreRestsFrom c.args.asked.now n c.loop-done.room) none c.loop-done.invariant
