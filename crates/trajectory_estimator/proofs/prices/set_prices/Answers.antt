use Rattle.std.proofs.Common.{◌≡◌, ℕ, ◌+◌, ◌<◌, ◌≤◌, ◌∙◌, List, length, set, slice_index, refl, sym, subst, ap, arith}
use Rattle.std.proofs.lemmas.List.{length-map, length-set}
use Rattle.std.proofs.lemmas.Option.{get_or_from_slice_get}
use Rattle.group_search.specs.Columns.{CostsMore}
use Rattle.group_search.specs.declared.columns.Columns.{Columns}
use Rattle.trajectory_estimator.specs.Asked.{Asked, entry_of}
use Rattle.trajectory_estimator.specs.PlaceLaws.{length-places}
use Rattle.trajectory_estimator.specs.Rests.{AreInside, IsAhead, TakesSteps, row_at, whole_cost}
use Rattle.trajectory_estimator.specs.Walks.{gate_place, mode_place}
use Rattle.trajectory_estimator.specs.declared.prices.Passed.{Passed}
use Rattle.trajectory_estimator.specs.declared.step.Ahead.{Ahead}
use Rattle.trajectory_estimator.proofs.PriceLaws.{cheap_behind, more_prices, no_prices, other_gate_costs, other_mode_costs}
use Rattle.trajectory_estimator.proofs.prices.set_prices.Goals as goal

pub loop-at-init : goal.loop-at-init
loop-at-init c = no_prices c.args.asked.now c.args.columns.now

pub row_of-requires : goal.row_of-requires
row_of-requires c =
    let all : length c.records-at-end.result.now ≡ length c.args.asked.now.query.now.records = sym (length-map c.records-at-end.result.now entry_of) ∙ ap length c.records-at-end.ensures.value in
    omega (arith, all, c.loop-at-test.true, ap length c.loop-at.invariant.kept.before, c.requires.heads.full)

pub row_of-requires-in-loop-at : goal.row_of-requires-in-loop-at
row_of-requires-in-loop-at c =
    let all : length c.records-at-end.result.now ≡ length c.args.asked.now.query.now.records = sym (length-map c.records-at-end.result.now entry_of) ∙ ap length c.records-at-end.ensures.value in
    omega (arith, all, c.loop-at-test.true, ap length c.loop-at.invariant.kept.behind, c.requires.rests.full)

pub at-passed-requires-clause-values : goal.at-passed-requires-clause-values
at-passed-requires-clause-values c =
    ap length (c.as_slice.ensures ∙ c.loop-at.invariant.kept.values) ∙ c.requires.shape.values ∙ length-places c.args.asked.now.query.now

pub at-passed-requires-clause-cheap : goal.at-passed-requires-clause-cheap
at-passed-requires-clause-cheap c =
    let all : length c.records-at-end.result.now ≡ length c.args.asked.now.query.now.records = sym (length-map c.records-at-end.result.now entry_of) ∙ ap length c.records-at-end.ensures.value in
    cheap_behind c.args.asked.now c.args.columns.now.behind c.requires.rests c.records-at-end.ensures.asked.few c.loop-at.at (omega (arith, all, c.loop-at-test.true))
    c.row_of-in-loop-at.result.now (c.row_of-in-loop-at.ensures.row ∙ ap (λ l. row_at l (c.loop-at.at + 1)) c.loop-at.invariant.kept.behind)

pub set-requires : goal.set-requires
set-requires c =
    omega (arith, c.mode_place.ensures.within, c.loop-at.invariant.kept.full, c.requires.shape.prices, length-places c.args.asked.now.query.now)

pub set-requires-in-loop-at : goal.set-requires-in-loop-at
set-requires-in-loop-at c =
    omega (
      arith,
      c.gate_place.ensures.within,
      c.loop-at.invariant.kept.full,
      c.requires.shape.prices,
      length-places c.args.asked.now.query.now,
      ap length c.set.ensures ∙ length-set c.loop-at.columns.prices c.mode_place.result c.price_of.result,
    )

pub loop-at-preserved : goal.loop-at-preserved
loop-at-preserved c =
    let x = c.args.asked.now in
    let q : Asked = x.query.now in
    let first : Columns = c.args.columns.now in
    let old : Columns = c.loop-at.columns in
    let at : ℕ = c.loop-at.at in
    let kept = c.loop-at.invariant.kept in
    let p : Passed = c.at-passed.result in
    let all : length c.records-at-end.result.now ≡ length q.records = sym (length-map c.records-at-end.result.now entry_of) ∙ ap length c.records-at-end.ensures.value in
    let below : at < length q.records = omega (arith, all, c.loop-at-test.true) in
    let mode : ℕ = mode_place q x.component at in
    let gate : ℕ = gate_place q x.component at in
    let ahead : Ahead = record { modes = slice_index x.masks.now mode; gates = slice_index x.masks.now gate; rests = c.row_of-in-loop-at.result } in
    let heads_are = c.row_of.ensures.row ∙ ap (λ l. row_at l at) kept.before in
    let rests_are = c.row_of-in-loop-at.ensures.row ∙ ap (λ l. row_at l (at + 1)) kept.behind in
    let is : IsAhead x at (row_at first.behind (at + 1)) ahead = record { modes = refl; gates = refl; rests = rests_are } in
    let takes : TakesSteps x at (row_at first.before at) (row_at first.behind (at + 1)) p =
    subst (λ l. TakesSteps x at (row_at first.before at) l p) rests_are (subst (λ l. TakesSteps x at l c.row_of-in-loop-at.result.now p) heads_are c.at-passed.ensures.taken) in
    let asked = c.records-at-end.ensures.asked in
    let paid : slice_index old.costs x.component ≡ c.get-cost.result.now =
    ap (λ l. slice_index l x.component) kept.costs ∙ get_or_from_slice_get first.costs x.component c.get-cost.result.now 0 c.get-cost.ensures.value in
    let least : (values : List ℕ) (own : ℕ → ℕ) → AreInside x values own → c.get-cost.result.now ≤ whole_cost x own =
    λ values own inside. omega (arith, c.requires.least values own inside, get_or_from_slice_get first.costs x.component c.get-cost.result.now 0 c.get-cost.ensures.value) in
    more_prices x first old at c.price_of.result c.price_of-in-loop-at.result c.set-in-loop-at.new.self below c.requires.shape c.loop-at.invariant
    (c.set-in-loop-at.ensures ∙ ap (λ k. set c.set.new.self k c.price_of-in-loop-at.result) c.gate_place.ensures.value
    ∙ ap (λ l. set l gate c.price_of-in-loop-at.result) (c.set.ensures ∙ ap (λ k. set old.prices k c.price_of.result) c.mode_place.ensures.value))
    (λ values own inside differs. subst (λ n. CostsMore c.price_of.result n (whole_cost x own)) (sym paid) (c.price_of.ensures (whole_cost x own) (least values own inside)
    (other_mode_costs x asked.model asked.anchor first.behind first.before c.requires.rests c.requires.heads at ahead p below is takes values own inside
    (λ e. differs (e ∙ c.at-passed.ensures.mode ∙ ap (λ l. slice_index l mode) c.as_slice.ensures)))))
    (λ values own inside differs. subst (λ n. CostsMore c.price_of-in-loop-at.result n (whole_cost x own)) (sym paid) (c.price_of-in-loop-at.ensures (whole_cost x own) (least values own inside)
    (other_gate_costs x asked.model asked.anchor first.behind first.before c.requires.rests c.requires.heads at ahead p below is takes values own inside
    (λ e. differs (e ∙ c.at-passed.ensures.gate ∙ ap (λ l. slice_index l gate) c.as_slice.ensures)))))

pub returns-clause-kept : goal.returns-clause-kept
returns-clause-kept c = c.loop-at.invariant.kept

pub returns-clause-priced : goal.returns-clause-priced
returns-clause-priced c =
    let all : length c.records-at-end.result.now ≡ length c.args.asked.now.query.now.records = sym (length-map c.records-at-end.result.now entry_of) ∙ ap length c.records-at-end.ensures.value in
    λ values own inside at less. c.loop-at.invariant.priced values own inside at (omega (arith, all, c.loop-at-test.false, less))
