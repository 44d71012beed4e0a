use Rattle.std.proofs.Common.{◌≡◌, ℕ, ◌+◌, ◌≤◌, IfSome, Option, Some, None, List, slice_index_or, subst, ◌∙◌, arith}
use Rattle.cca_base.specs.declared.limits.TheConstants.{MAX_COST}
use Rattle.trajectory_estimator.specs.Rests.{IsLeastFrom, MayStand, modes_of, row_at, total_of}
use Rattle.trajectory_estimator.specs.Steps.{AreCheap}
use Rattle.trajectory_estimator.specs.declared.step.Step.{Step}
use Rattle.trajectory_estimator.proofs.FilledRows.{all_cheap, all_totals, same_behind, written_more, written_none}
use Rattle.trajectory_estimator.proofs.rests.fill_row.Goals as goal

pub loop-from-init : goal.loop-from-init
loop-from-init c = written_none c.args.asked.now c.args.at c.args.room.now

pub row_of-requires : goal.row_of-requires
row_of-requires c = omega (arith, c.loop-from.invariant.kept.0, c.requires.full, c.requires.at)

pub total_from-total-requires-clause-cheap : goal.total_from-total-requires-clause-cheap
total_from-total-requires-clause-cheap c =
    let same = c.row_of.ensures.row ∙ same_behind c.args.asked.now c.args.at c.loop-from.from c.args.room.now c.loop-from.room c.loop-from.invariant in
    λ mode rest few e. c.requires.cheap mode rest few (subst (λ row. slice_index_or row mode None ≡ Some rest) same e)

pub loop-from-preserved : goal.loop-from-preserved
loop-from-preserved c =
    let x = c.args.asked.now in
    let at : ℕ = c.args.at in
    let from : ℕ = c.loop-from.from in
    let old : List (Option ℕ) = c.args.room.now in
    let same : c.row_of.result.now ≡ row_at old (at + 1) = c.row_of.ensures.row ∙ same_behind x at from old c.loop-from.room c.loop-from.invariant in
    let total : Option ℕ = c.total_from-total.result in
    written_more x at from old c.loop-from.room c.put.new.room total c.loop-from.invariant c.put.ensures.kept c.put.ensures.here c.put.ensures.others
    (subst (λ row. MayStand x at from → (step : Option Step) × IsLeastFrom x at row from step × (total ≡ total_of step)) same c.total_from-total.ensures.total)
    (subst (λ row. (most : ℕ) → AreCheap (modes_of x) most row → IfSome total (λ n. n ≤ most + MAX_COST)) same c.total_from-total.ensures.cheap)

pub returns-clause-kept : goal.returns-clause-kept
returns-clause-kept c = c.loop-from.invariant.kept

pub returns-clause-totals : goal.returns-clause-totals
returns-clause-totals c = all_totals c.args.asked.now c.args.at c.loop-from.from c.args.room.now c.loop-from.room (omega (arith, c.modes-from-end.ensures.modes)) c.loop-from.invariant

pub returns-clause-cheap : goal.returns-clause-cheap
returns-clause-cheap c = all_cheap c.args.asked.now c.args.at c.loop-from.from c.args.room.now c.loop-from.room (omega (arith, c.modes-from-end.ensures.modes)) c.loop-from.invariant
