use Rattle.std.proofs.Common.{◌≡◌, length, refl, sym, ap, subst, ◌∙◌, arith}
use Rattle.std.proofs.lemmas.List.{length-map}
use Rattle.trajectory_estimator.specs.Asked.{entry_of}
use Rattle.trajectory_estimator.specs.Rests.{modes_of}
use Rattle.trajectory_estimator.proofs.FilledRows.{AreNothing, nothing_more, nothing_none}
use Rattle.trajectory_estimator.proofs.rests.fill_last.Goals as goal

pub loop-mode-init : goal.loop-mode-init
loop-mode-init c = record { full = refl; last = nothing_none (length c.records-count.result.now) c.args.room.now }

pub put-requires-clause-row : goal.put-requires-clause-row
put-requires-clause-row c =
    omega (arith, c.loop-mode.invariant.full, c.requires.full, length-map c.records-count.result.now entry_of, ap length c.records-count.ensures.value)

pub loop-mode-preserved : goal.loop-mode-preserved
loop-mode-preserved c = record {
  full = c.put.ensures.kept.0 ∙ c.loop-mode.invariant.full;
  last = nothing_more (length c.records-count.result.now) c.loop-mode.mode c.loop-mode.room c.put.new.room c.loop-mode.invariant.last c.put.ensures.here c.put.ensures.others;
}

pub returns-clause-full : goal.returns-clause-full
returns-clause-full c = c.loop-mode.invariant.full

pub returns-clause-last : goal.returns-clause-last
returns-clause-last c = λ mode few.
    let count : length c.records-count.result.now ≡ length c.args.asked.now.query.now.records =
    sym (length-map c.records-count.result.now entry_of) ∙ ap length c.records-count.ensures.value in
    subst (λ at. AreNothing at (modes_of c.args.asked.now) c.loop-mode.room) count
    (λ other less. c.loop-mode.invariant.last other (omega (arith, less, c.modes-mode-end.ensures.modes))) mode few
