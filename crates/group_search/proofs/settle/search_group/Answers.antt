use Rattle.std.proofs.Common.{Some, None, refl, subst, ◌∙◌, arith}
use Rattle.group_search.specs.Takings.{IsTaken}
use Rattle.group_search.proofs.FloorLaws.{cost_said, none_on_group, parts}
use Rattle.group_search.proofs.TakenLaws.{taken_floored, taken_solves}
use Rattle.group_search.proofs.settle.search_group.Goals as goal

pub overflow_sub-below : goal.overflow_sub-below
overflow_sub-below g c =
    let q = g.P.Paths.means.question c.args.problem.now in
    let names = c.args.work.now.names in
    let costs = c.args.chosen.now.costs in
    let own = cost_said c.group_cost-floor.result q.count names costs c.as_slice.result.now c.as_slice-2.result.now (Some c.args.group) c.group_cost-floor.ensures.cost c.as_slice.ensures c.as_slice-2.ensures c.requires.work.names in
    let all = cost_said c.group_cost-total.result q.count names costs c.as_slice-3.result.now c.as_slice-4.result.now None c.group_cost-total.ensures.cost c.as_slice-3.ensures c.as_slice-4.ensures c.requires.work.names in
    omega (arith, own, all, parts q.count names c.args.group costs)

pub find_rising-requires-clause-floor : goal.find_rising-requires-clause-floor
find_rising-requires-clause-floor g c =
    let q = g.P.Paths.means.question c.args.problem.now in
    let names = c.args.work.now.names in
    let costs = c.args.chosen.now.costs in
    let own = cost_said c.group_cost-floor.result q.count names costs c.as_slice.result.now c.as_slice-2.result.now (Some c.args.group) c.group_cost-floor.ensures.cost c.as_slice.ensures c.as_slice-2.ensures c.requires.work.names in
    let all = cost_said c.group_cost-total.result q.count names costs c.as_slice-3.result.now c.as_slice-4.result.now None c.group_cost-total.ensures.cost c.as_slice-3.ensures c.as_slice-4.ensures c.requires.work.names in
    omega (arith, own, all, parts q.count names c.args.group costs, c.requires.less)

pub returns-then-not-find_rising-clause-none : goal.returns-then-not-find_rising-clause-none
returns-then-not-find_rising-clause-none g c _ =
    let q = g.P.Paths.means.question c.args.problem.now in
    let names = c.args.work.now.names in
    let costs = c.args.chosen.now.costs in
    let floor = c.group_cost-floor.result in
    let total = c.group_cost-total.result in
    let own = cost_said floor q.count names costs c.as_slice.result.now c.as_slice-2.result.now (Some c.args.group) c.group_cost-floor.ensures.cost c.as_slice.ensures c.as_slice-2.ensures c.requires.work.names in
    let all = cost_said total q.count names costs c.as_slice-3.result.now c.as_slice-4.result.now None c.group_cost-total.ensures.cost c.as_slice-3.ensures c.as_slice-4.ensures c.requires.work.names in
    none_on_group q c.args.work.now.boxed.masks names costs c.args.group c.args.limit total floor all own c.requires.floors.floors (c.if-not-find_rising.ensures.none refl)

pub returns-clause-found : goal.returns-clause-found
returns-clause-found g c _ =
    let q = g.P.Paths.means.question c.args.problem.now in
    let names = c.args.work.now.names in
    let old = c.args.chosen.now in
    let floor = c.group_cost-floor.result in
    let total = c.group_cost-total.result in
    let found = c.find_rising.new.work.best.found in
    let new = c.take_paths.new.chosen in
    let own = cost_said floor q.count names old.costs c.as_slice.result.now c.as_slice-2.result.now (Some c.args.group) c.group_cost-floor.ensures.cost c.as_slice.ensures c.as_slice-2.ensures c.requires.work.names in
    let all = cost_said total q.count names old.costs c.as_slice-3.result.now c.as_slice-4.result.now None c.group_cost-total.ensures.cost c.as_slice-3.ensures c.as_slice-4.ensures c.requires.work.names in
    let is = c.if-not-find_rising.ensures in
    let taken : IsTaken q.of names (Some c.args.group) found old new =
    subst (λ l. IsTaken q.of l (Some c.args.group) found old new) (c.as_slice-5.ensures ∙ c.find_rising.ensures.names) (subst (λ of. IsTaken of c.as_slice-5.result.now (Some c.args.group) found old new) c.components-components.ensures c.take_paths.ensures) in
    taken_floored q c.args.work.now.boxed.masks names c.args.group c.args.limit total floor found old new c.requires.work.names (g.met.P.Paths.own_places c.args.problem.now) taken (is.find refl) c.requires.floors c.requires.inside
    all own (is.less refl) (is.least refl)

pub returns-clause-whole : goal.returns-clause-whole
returns-clause-whole g c _ whole =
    let q = g.P.Paths.means.question c.args.problem.now in
    let names = c.args.work.now.names in
    let old = c.args.chosen.now in
    let found = c.find_rising.new.work.best.found in
    let new = c.take_paths.new.chosen in
    let find = c.if-not-find_rising.ensures.find refl in
    let taken : IsTaken q.of names (Some c.args.group) found old new =
    subst (λ l. IsTaken q.of l (Some c.args.group) found old new) (c.as_slice-5.ensures ∙ c.find_rising.ensures.names) (subst (λ of. IsTaken of c.as_slice-5.result.now (Some c.args.group) found old new) c.components-components.ensures c.take_paths.ensures) in
    taken_solves q names (Some c.args.group) found old new taken c.requires.work.names (g.met.P.Paths.owned c.args.problem.now) whole find.paths c.requires.floors.paths (find.whole whole)
