use Rattle.std.proofs.Common.{◌<◌, ◌+◌, length, ap, arith}
use Rattle.std.proofs.lemmas.List.{length-map}
use Rattle.trajectory_estimator.specs.Asked.{entry_of}
use Rattle.trajectory_estimator.specs.Rests.{row_at}
use Rattle.trajectory_estimator.proofs.HeadLaws.{heads_behind, heads_more, rests_cheap}
use Rattle.trajectory_estimator.proofs.heads.fill_heads.Goals as goal

pub fill_behind-requires-clause-cheap : goal.fill_behind-requires-clause-cheap
fill_behind-requires-clause-cheap c =
    let x = c.args.asked.now in
    let count = length-map c.records-at-end.result.now entry_of in
    let same = ap length c.records-at-end.ensures.value in
    rests_cheap x c.args.rests.now c.row_of.result.now (c.loop-at.at + 1) c.requires.rests c.records-at-end.ensures.asked.few (omega (arith, c.loop-at-test.true, count, same)) c.row_of.ensures.row

pub loop-at-preserved : goal.loop-at-preserved
loop-at-preserved c =
    let x = c.args.asked.now in
    let at = c.loop-at.at in
    let old = c.loop-at.room in
    let new = c.fill_behind.new.room in
    let asked = c.records-at-end.ensures.asked in
    let within : at < length x.query.now.records = omega (arith, c.loop-at-test.true, length-map c.records-at-end.result.now entry_of, ap length c.records-at-end.ensures.value) in
    heads_more x at old new c.loop-at.invariant c.fill_behind.ensures.kept
    (heads_behind x c.args.rests.now (row_at old at) (row_at new (at + 1)) at c.row_of.result asked.model asked.anchor c.requires.rests within c.row_of.ensures.row c.fill_behind.ensures.taken
    (c.loop-at.invariant.each at (omega arith)))
