use Rattle.std.proofs.Common.{◌≡◌, ◌*◌, ℕ, List, length, map, sym, ap, ◌∙◌, arith}
use Rattle.std.proofs.lemmas.List.{length-map}
use Rattle.trajectory_estimator.specs.Asked.{Asked, entry_of}
use Rattle.trajectory_estimator.specs.PlaceLaws.{length-places}
use Rattle.trajectory_estimator.specs.declared.record.Record.{Record}
use Rattle.trajectory_estimator.proofs.BestSolutions.{first_best, none_best}
use Rattle.trajectory_estimator.proofs.best.best_of.Goals as goal

-- as many modes as the window's states have together
mode_count : (q : Asked) (records : List Record) (count : ℕ) → map entry_of records ≡ q.records → count ≡ length q.model.components
    → length records * count ≡ length q.records * length q.model.components
mode_count q records count all own = ap (λ k. k * count) (sym (length-map records entry_of) ∙ ap length all) ∙ ap (λ k. length q.records * k) own

pub least_solution-requires-clause-masks : goal.least_solution-requires-clause-masks
least_solution-requires-clause-masks c = c.in_ok-masks.ensures.full ∙ sym (length-places c.args.query.now)

pub least_solution-requires-clause-count : goal.least_solution-requires-clause-count
least_solution-requires-clause-count c =
    let own = c.len.ensures ∙ ap length c.components-2.ensures.value ∙ ap (λ m. length m.components) c.model.ensures.value in
    let same = mode_count c.args.query.now c.records.result.now c.len.result c.records.ensures.value own in
    omega (arith, same, length-places c.args.query.now)

pub returns-in-Some-clause-best : goal.returns-in-Some-clause-best
returns-in-Some-clause-best c =
    let own = c.len.ensures ∙ ap length c.components-2.ensures.value ∙ ap (λ m. length m.components) c.model.ensures.value in
    let same = mode_count c.args.query.now c.records.result.now c.len.result c.records.ensures.value own in
    let answer = rw (same, c.in-Some.is) at c.in_ok-chosen.ensures.answer in
    rw (c.in_ok-trajectory_of-in-Some.ensures.states, c.in_ok-trajectory_of-in-Some.ensures.cost)
    (first_best c.args.query.now c.in_ok-masks.masks c.alloc-alloc.ensures.model c.alloc-alloc.ensures.anchor c.in_ok-masks.ensures c.in-Some.chosen answer)

pub returns-clause-best : goal.returns-clause-best
returns-clause-best c =
    let answer = rw c.in-None.is at c.in_ok-chosen.ensures.answer in
    none_best c.args.query.now c.in_ok-masks.masks c.alloc-alloc.ensures.model c.alloc-alloc.ensures.anchor c.in_ok-masks.ensures (length c.records.result.now * c.len.result) answer
