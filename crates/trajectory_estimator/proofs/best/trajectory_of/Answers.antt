use Rattle.std.proofs.Common.{◌≡◌, ℕ, suc, ◌+◌, ◌*◌, ◌-◌, List, [], ◌∷◌, ◌++◌, length, map, take, drop, sym, ap, ◌∙◌, arith}
use Rattle.std.proofs.lemmas.List.{length-map, map_push}
use Rattle.cca_base.specs.Relations.{numbers_below}
use Rattle.cca_base.proofs.PathLaws.{length-numbers}
use Rattle.cca_base.specs.declared.state.State.{State}
use Rattle.trajectory_estimator.specs.Asked.{Asked, entry_of, modes_of}
use Rattle.trajectory_estimator.specs.Windows.{state_at}
use Rattle.trajectory_estimator.proofs.BestSolutions.{cheap_walk}
use Rattle.trajectory_estimator.proofs.best.trajectory_of.Goals as goal

-- one state more
next_states : (q : Asked) (values : List ℕ) (states more : List State) (s : State) (at count : ℕ) → modes_of states ≡ map (state_at q values) (numbers_below at) → more ≡ states ++ s ∷ []
    → count ≡ length q.model.components → s.modes ≡ take (at * count + count - at * count) (drop (at * count) values) → modes_of more ≡ map (state_at q values) (numbers_below (at + 1))
next_states q values states more s at count before pushed own modes =
    let less : at * count + count - at * count ≡ count = omega arith in
    let row : s.modes ≡ state_at q values at = modes ∙ ap (λ k. take k (drop (at * count) values)) less ∙ ap (λ k. take k (drop (at * k) values)) own in
    let next : suc at ≡ at + 1 = omega arith in
    ap modes_of pushed ∙ map_push (λ (x : State). x.modes) states s ∙ ap (λ l. l ++ s.modes ∷ []) before ∙ ap (λ l. map (state_at q values) (numbers_below at) ++ l ∷ []) row
    ∙ sym (map_push (state_at q values) (numbers_below at) at) ∙ ap (λ k. map (state_at q values) (numbers_below k)) next

pub loop-at-init : goal.loop-at-init
loop-at-init c = ap (map (λ s. s.modes)) c.new-states.ensures

pub loop-at-preserved : goal.loop-at-preserved
loop-at-preserved c =
    let own = c.len-count.ensures ∙ ap length c.components.ensures.value ∙ ap (λ m. length m.components) c.model.ensures.value in
    next_states c.args.query.now c.args.chosen.now.values c.loop-at.states c.push.new.self c.in_ok-state_of.field-0 c.loop-at.at c.len-count.result
    c.loop-at.invariant c.in_ok-push.ensures.ok own (rw c.as_slice.ensures at c.in_ok-state_of.ensures)

pub group_cost-cost-requires-clause-few : goal.group_cost-cost-requires-clause-few
group_cost-cost-requires-clause-few c = let w = c.components.ensures.well_formed.limits.components in
    omega (arith, w, ap length c.as_slice-2.ensures.value, ap length c.in_ok-components.ensures, length-numbers c.len-count.result, c.len-count.ensures, ap length c.components.ensures.value)

pub group_cost-cost-requires-clause-costs : goal.group_cost-cost-requires-clause-costs
group_cost-cost-requires-clause-costs c =
    let all : length c.as_slice-2.result.now ≡ length c.args.query.now.model.components =
    ap length (c.as_slice-2.ensures.value ∙ c.in_ok-components.ensures) ∙ length-numbers c.len-count.result ∙ c.len-count.ensures ∙ ap length c.components.ensures.value
    ∙ ap (λ m. length m.components) c.model.ensures.value in
    ap length c.as_slice-3.ensures ∙ c.requires.full ∙ sym all

pub group_cost-cost-requires-clause-cheap : goal.group_cost-cost-requires-clause-cheap
group_cost-cost-requires-clause-cheap c d within is =
    let all : length c.as_slice-2.result.now ≡ length c.args.query.now.model.components =
    ap length (c.as_slice-2.ensures.value ∙ c.in_ok-components.ensures) ∙ length-numbers c.len-count.result ∙ c.len-count.ensures ∙ ap length c.components.ensures.value
    ∙ ap (λ m. length m.components) c.model.ensures.value in
    rw c.as_slice-3.ensures
    (cheap_walk c.args.query.now c.args.chosen.now.values c.args.chosen.now.costs c.alloc-alloc.ensures c.requires d (omega (arith, within, all)))

pub returns-clause-states : goal.returns-clause-states
returns-clause-states c =
    let over = c.loop-at-test.false in
    let within = c.loop-at.auto.at-end in
    let all : c.loop-at.at ≡ length c.args.query.now.records =
    omega (arith, over, within, length-map c.records-at-end.result.now entry_of, ap length c.records-at-end.ensures.value) in
    c.loop-at.invariant ∙ ap (λ k. map (state_at c.args.query.now c.args.chosen.now.values) (numbers_below k)) all

pub returns-clause-cost : goal.returns-clause-cost
returns-clause-cost c =
    let all : length c.as_slice-2.result.now ≡ length c.args.query.now.model.components =
    ap length (c.as_slice-2.ensures.value ∙ c.in_ok-components.ensures) ∙ length-numbers c.len-count.result ∙ c.len-count.ensures ∙ ap length c.components.ensures.value
    ∙ ap (λ m. length m.components) c.model.ensures.value in
    rw (c.as_slice-3.ensures, all) at c.group_cost-cost.ensures.cost
