use Rattle.std.proofs.Common.{get_or, None, Some, arith}
use Rattle.std.proofs.lemmas.Bool.{leb-true}
use Rattle.group_search.specs.Answers.{NoneLower}
use Rattle.group_search.proofs.FloorLaws.{cost_said, parts}
use Rattle.group_search.proofs.StayLaws.{keeps_never, keeps_some, value_read}
use Rattle.group_search.proofs.staying.keeps_value.Goals as goal

pub overflow_sub-others : goal.overflow_sub-others
overflow_sub-others g c =
    let q = g.P.Paths.means.question c.args.problem.now in
    let names = c.args.work.now.names in
    let own = cost_said c.group_cost-2.result q.count names c.args.chosen.now.costs c.as_slice-names.result.now c.as_slice-costs.result.now (Some (get_or c.as_slice-names.result.now (get_or c.components.result.now c.args.place 0) 0)) c.group_cost-2.ensures.cost c.as_slice-names.ensures c.as_slice-costs.ensures c.requires.work.names in
    let all = cost_said c.group_cost.result q.count names c.args.chosen.now.costs c.as_slice-names.result.now c.as_slice-costs.result.now None c.group_cost.ensures.cost c.as_slice-names.ensures c.as_slice-costs.ensures c.requires.work.names in
    omega (arith, own, all, parts q.count names (get_or c.as_slice-names.result.now (get_or c.components.result.now c.args.place 0) 0) c.args.chosen.now.costs)

pub returns-in-None : goal.returns-in-None
returns-in-None g c e =
    let w = c.args.work.now in
    value_read c.args.chosen.now.values c.args.place c.get-value.result.now (NoneLower (g.P.Paths.means.question c.args.problem.now) w.boxed.masks c.args.limit c.args.place) (omega (arith, c.requires.place, c.requires.settled.floored.has.paths.places)) c.get-value.ensures.item
    (keeps_never (g.P.Paths.means.question c.args.problem.now) (g.met.P.Paths.owned c.args.problem.now) w.boxed c.requires.work.ready w.names c.args.chosen.now c.requires.settled.floored.has.floors c.requires.work.names
    c.as_slice-names.result.now c.components.result.now c.as_slice-names.ensures c.components.ensures (record { item = c.args.place; value = c.get-value.result.now }) c.requires.place
    c.in-Some.ensures.stand c.args.limit c.in-None.ensures.more)

pub returns-in-Some-price_of : goal.returns-in-Some-price_of
returns-in-Some-price_of g c e =
    let w = c.args.work.now in
    value_read c.args.chosen.now.values c.args.place c.get-value.result.now (NoneLower (g.P.Paths.means.question c.args.problem.now) w.boxed.masks c.args.limit c.args.place) (omega (arith, c.requires.place, c.requires.settled.floored.has.paths.places)) c.get-value.ensures.item
    (keeps_some (g.P.Paths.means.question c.args.problem.now) (g.met.P.Paths.owned c.args.problem.now) w.boxed c.requires.work.ready w.names c.args.chosen.now c.requires.settled.floored.has.floors c.requires.work.names
    c.as_slice-names.result.now c.components.result.now c.as_slice-names.ensures c.components.ensures (record { item = c.args.place; value = c.get-value.result.now }) c.requires.place
    c.in-Some.ensures.stand c.as_slice-costs.result.now c.in-Some.least c.group_cost.result c.group_cost-2.result c.in-Some-price_of.price c.args.limit c.as_slice-costs.ensures
    c.in-Some.ensures.cost c.group_cost.ensures.cost c.group_cost-2.ensures.cost c.in-Some-price_of.ensures.more (omega (arith, leb-true c.args.limit c.saturating_add-in-Some-price_of.result e, c.saturating_add-in-Some-price_of.ensures, c.saturating_add.ensures)))
