use Rattle.std.proofs.Common.{◌+◌, ℕ, List, Option, None, slice_index_or, sym, ap, subst, ◌∙◌, arith}
use Rattle.trajectory_estimator.specs.Steps.{IsStep}
use Rattle.trajectory_estimator.proofs.HeadLaws.{FillsFrom, fills_more, fills_none}
use Rattle.trajectory_estimator.proofs.heads.fill_behind.Goals.{in-Some, in_default}
use Rattle.trajectory_estimator.proofs.heads.fill_behind.Goals as goal

pub loop-from-preserved : goal.loop-from-preserved
loop-from-preserved c =
    let x = c.args.asked.now in
    let at = c.args.at in
    let behind = c.args.behind.now in
    let first = c.args.room.now in
    let old = c.loop-from.room in
    let from = c.loop-from.from in
    let ahead = c.ahead-ahead.result in
    let Fills = FillsFrom x at behind first (from + 1) in
    let row = ap (λ (r : List (Option ℕ)). slice_index_or r from None) (sym c.row_of.ensures.row) in
    elim c.match-row_of-from.branch [
      | in-Some w ↦
          let took = w.take_heads in
          let leaving = w.of-leaving.ensures in
          subst Fills (sym w.room-is)
          (fills_more x at behind first old from c.loop-from.invariant took.new.room w.in-Some.head ahead c.ahead-ahead.ensures (row ∙ w.in-Some.is) took.ensures.kept took.ensures.less
          (λ s step. took.ensures.taken x.query.now x.component at leaving.leaving s (subst (λ i. IsStep x.query.now x.component at i ahead s) (sym leaving.from) step)))
      | in_default w ↦ subst Fills (sym w.room-is) (fills_none x at behind first old from c.loop-from.invariant (row ∙ w.in_default.is))
    ]

pub returns-clause-taken : goal.returns-clause-taken
returns-clause-taken c ahead from head s is mode stands step =
    c.loop-from.invariant.taken ahead from head s is (omega (arith, mode, c.loop-from-test.false, c.modes-from-end.ensures.modes)) stands step
