use Rattle.std.proofs.Common.{◌-◌, ℕ, List, [], Contains, sym, subst, ◌∙◌}
use Rattle.std.proofs.lemmas.Option.{get_or_from_slice_get}
use Rattle.causal_graph.specs.Search.{IsNearest}
use Rattle.causal_graph.proofs.ShownCycle.{next_at, stepping_more, stepping_done}
use Rattle.causal_graph.proofs.cycle.shortest.Goals as goal

pub unreachable-requires : goal.unreachable-requires
unreachable-requires c =
    let is_row = get_or_from_slice_get c.args.needs.now c.steps.at c.get.result.now [] c.get.ensures.value ∙ sym c.as_slice.ensures in
    let next = next_at c.args.needs.now c.args.target c.args.distances.now c.requires.distances c.steps.at c.steps.left c.steps.invariant.left_is c.steps-test.true in
    c.in_default.ensures next.0 (subst (λ (r : List ℕ). Contains r next.0) is_row next.1) next.2

pub steps-preserved : goal.steps-preserved
steps-preserved c =
    let is_row = get_or_from_slice_get c.args.needs.now c.steps.at c.get.result.now [] c.get.ensures.value ∙ sym c.as_slice.ensures in
    let near = subst (λ (r : List ℕ). IsNearest r c.args.distances.now (c.steps.left - 1) c.in-Some.next) (sym is_row) c.in-Some.ensures in
    rw c.in_ok-push-2.ensures.ok (stepping_more c.args.needs.now c.args.target c.args.distances.now c.requires.distances c.steps.cycle c.steps.at c.steps.left c.in-Some.next c.steps.invariant c.steps-test.true near)

pub returns : goal.returns
returns c = rw c.in_ok-push-3.ensures.ok (stepping_done c.args.needs.now c.args.target c.args.distances.now c.requires.distances c.steps.cycle c.steps.at c.steps.left c.steps.invariant c.steps-test.false)
