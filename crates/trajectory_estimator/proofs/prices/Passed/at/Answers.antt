use Rattle.std.proofs.Common.{◌≡◌, ℕ, slice_index, sym, subst, ap, arith}
use Rattle.trajectory_estimator.specs.Asked.{Asked}
use Rattle.trajectory_estimator.specs.Rests.{KeepsTaken, TakesIn}
use Rattle.trajectory_estimator.specs.Steps.{IsStep}
use Rattle.trajectory_estimator.specs.Walks.{gate_place, mode_place}
use Rattle.trajectory_estimator.proofs.PriceLaws.{from_more, from_none, keeps_all, takes_steps}
use Rattle.trajectory_estimator.proofs.prices.Passed.at.Goals as goal
use Rattle.trajectory_estimator.proofs.prices.Passed.at.Goals.{in-Some, in_default}

pub loop-from-init : goal.loop-from-init
loop-from-init c =
    from_none c.args.asked.now c.args.at c.args.heads.now c.ahead-ahead.result
    (slice_index c.args.values.now (mode_place c.args.asked.now.query.now c.args.asked.now.component c.args.at)) (slice_index c.args.values.now (gate_place c.args.asked.now.query.now c.args.asked.now.component c.args.at))
    _ (ap (slice_index c.args.values.now) c.mode_place.ensures.value) (ap (slice_index c.args.values.now) c.gate_place.ensures.value)

pub loop-from-preserved : goal.loop-from-preserved
loop-from-preserved c =
    let x = c.args.asked.now in
    let q : Asked = x.query.now in
    let at : ℕ = c.args.at in
    let from : ℕ = c.loop-from.from in
    let mode : ℕ = slice_index c.args.values.now (mode_place q x.component at) in
    let gate : ℕ = slice_index c.args.values.now (gate_place q x.component at) in
    let old = c.loop-from.passed in
    let new = c.match-heads-from.passed in
    elim c.match-heads-from.branch [
      | in-Some w ↦
          from_more x at c.args.heads.now c.ahead-ahead.result mode gate from old new c.loop-from.invariant (subst (KeepsTaken old) (sym w.passed-is) w.take_from.ensures.kept) (λ head s is step.
          let same : w.in-Some.head ≡ head = cc (is, w.in-Some.is) in
          let left = subst (λ k. IsStep q x.component at k c.ahead-ahead.result s) (sym w.of-leaving.ensures.from) step in
          subst (TakesIn head s) (sym w.passed-is) (subst (λ k. TakesIn k s w.take_from.new.self) same (w.take_from.ensures.taken q x.component at w.of-leaving.ensures.leaving s left)))
      | in_default w ↦
          from_more x at c.args.heads.now c.ahead-ahead.result mode gate from old new c.loop-from.invariant (subst (KeepsTaken old) (sym w.passed-is) (keeps_all old))
          (λ head s is step. absurd (w.in_default.not-Some head is))
    ]

pub returns-clause-mode : goal.returns-clause-mode
returns-clause-mode c = c.loop-from.invariant.own_mode

pub returns-clause-gate : goal.returns-clause-gate
returns-clause-gate c = c.loop-from.invariant.own_gate

pub returns-clause-taken : goal.returns-clause-taken
returns-clause-taken c =
    let x = c.args.asked.now in
    takes_steps x c.args.at c.args.heads.now c.args.behind.now c.ahead-ahead.result
    (slice_index c.args.values.now (mode_place x.query.now x.component c.args.at)) (slice_index c.args.values.now (gate_place x.query.now x.component c.args.at))
    c.loop-from.from c.loop-from.passed c.ahead-ahead.ensures c.loop-from.invariant (λ from mode. omega (arith, c.loop-from-test.false, c.modes-from-end.ensures.modes, mode))
