use Rattle.std.proofs.lemmas.Result.{err_from_is_err_and}
use Rattle.cca_base.specs.Shown.{IsShownCycle}
use Rattle.causal_graph.proofs.ModelNeeds.{models_have_rows, orders_are_of_models, cycles_are_of_models}
use Rattle.cca_base.specs.State.{HasWorlds}
use Rattle.acceptance.proofs.RefusalSteps.{stop_of_ways, cycle_refused, deep_refused, compiled}
use Rattle.acceptance.proofs.accepting.parts_by.Goals as goal

pub returns-in_err-ways-clause-refused : goal.returns-in_err-ways-clause-refused
returns-in_err-ways-clause-refused c =
    let worlds : HasWorlds c.args.model.now = rw c.in_default.is at c.in_ok-cube.ensures in
    let p = err_from_is_err_and c.from_residual-in_err-ways.result c.from_residual-in_err-ways.ensures.1 in
    rw (p.1, p.2) (stop_of_ways c.args.model.now worlds c.in_err-ways.field-0.0 c.in_err-ways.ensures.refused)

pub order-requires-clause-rows : goal.order-requires-clause-rows
order-requires-clause-rows c = models_have_rows c.args.model.now c.in_ok-needs.needs c.in_ok-needs.ensures.needs

pub bounds_of-requires-clause-order : goal.bounds_of-requires-clause-order
bounds_of-requires-clause-order c =
    (orders_are_of_models c.args.model.now c.in_ok-needs.needs c.in-Effects.order c.in_ok-needs.ensures.well_formed c.in_ok-needs.ensures.needs (rw c.in-Effects.is at c.in_ok-list.ensures.order)).1

pub returns-in-Cycle-clause-refused : goal.returns-in-Cycle-clause-refused
returns-in-Cycle-clause-refused c =
    let m = c.args.model.now in
    let worlds : HasWorlds m = rw c.in_default.is at c.in_ok-cube.ensures in
    let shown : IsShownCycle m c.in-Cycle.list = cycles_are_of_models m c.in_ok-needs.needs c.in-Cycle.list c.in_ok-needs.ensures.well_formed c.in_ok-needs.ensures.needs (rw c.in-Cycle.is at c.in_ok-list.ensures.order) in
    rw c.refused-in-Cycle.ensures (cycle_refused m c.in_ok-ways.ways c.in-Cycle.list worlds c.in_ok-ways.ensures.ways shown)

pub returns-in_ok-one-in-PassAt-clause-refused : goal.returns-in_ok-one-in-PassAt-clause-refused
returns-in_ok-one-in-PassAt-clause-refused c =
    let m = c.args.model.now in
    let worlds : HasWorlds m = rw c.in_default.is at c.in_ok-cube.ensures in
    let acyclic = (orders_are_of_models m c.in_ok-needs.needs c.in-Effects.order c.in_ok-needs.ensures.well_formed c.in_ok-needs.ensures.needs (rw c.in-Effects.is at c.in_ok-list.ensures.order)).0 in
    rw (c.refused-in-PassAt.ensures, c.in_ok-one-in-PassAt.ensures)
    (deep_refused m c.in_ok-ways.ways c.in-PassAt.c worlds c.in_ok-ways.ensures.ways acyclic (rw c.in-PassAt.is at c.in_ok-c-in-Effects.ensures))

pub returns-in-Fit-clause-compiled : goal.returns-in-Fit-clause-compiled
returns-in-Fit-clause-compiled c =
    let m = c.args.model.now in
    let order = c.in-Effects.order in
    let good = c.in_ok-needs.ensures.well_formed in
    let worlds : HasWorlds m = rw c.in_default.is at c.in_ok-cube.ensures in
    let orders = orders_are_of_models m c.in_ok-needs.needs order good c.in_ok-needs.ensures.needs (rw c.in-Effects.is at c.in_ok-list.ensures.order) in
    let bounds = rw c.in-Fit.is at c.in_ok-c-in-Effects.ensures in
    compiled m c.in_ok-ways.ways order c.in-Fit.bounds good c.requires.complete worlds c.in_ok-ways.ensures.ways orders.0 orders.1 bounds.0 bounds.1
