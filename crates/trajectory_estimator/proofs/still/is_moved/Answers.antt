use Rattle.std.proofs.Common.{◌≡◌, ◌<◌, length, get_or, sym, subst, ◌∙◌, arith}
use Rattle.trajectory_estimator.specs.Steps.{NoOwn}
use Rattle.trajectory_estimator.specs.Walks.{record_at}
use Rattle.trajectory_estimator.proofs.GateCosts.{read_command}
use Rattle.trajectory_estimator.proofs.StillLaws.{is_gone, records_full, unmoved_more}
use Rattle.trajectory_estimator.proofs.still.is_moved.Goals as goal

pub loop-at-init : goal.loop-at-init
loop-at-init c = λ at less. absurd (omega (arith, less))

pub loop-at-preserved : goal.loop-at-preserved
loop-at-preserved c =
    let q = c.args.query.now in
    let n = c.args.component in
    let from = c.args.from in
    let at = c.loop-at.at in
    let records = c.records-records.result.now in
    let command = (get_or records at c.index-records-at.result).command in
    let within : at < length q.records = omega (arith, c.loop-at-test.true, records_full q records c.records-records.ensures.value) in
    let read : command ≡ (record_at q at).command = read_command q at records c.index-records-at.result c.records-records.ensures.value within in
    let none : NoOwn c.model.result.now n command from = c.own_target-own.ensures.none (is_gone c.own_target-own.result (sym c.is_some.ensures ∙ c.if-is_some.false)) in
    unmoved_more q n from at (subst (λ m. NoOwn m n (record_at q at).command from) c.model.ensures.value (subst (λ k. NoOwn c.model.result.now n k from) read none)) c.loop-at.invariant

pub returns : goal.returns
returns c = λ e at less. c.loop-at.invariant at (omega (arith, less, c.loop-at-test.false, records_full c.args.query.now c.records-records.result.now c.records-records.ensures.value))
