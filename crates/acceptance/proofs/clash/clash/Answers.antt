use Rattle.acceptance.proofs.FirstWorldless.{first_worldless}
use Rattle.acceptance.proofs.RefusalSteps.{clash_of}
use Rattle.acceptance.proofs.clash.clash.Goals as goal

pub returns-in_default : goal.returns-in_default
returns-in_default c = rw c.in_default.is at (first_worldless _ _ _ c.in_ok-states.ensures c.in_ok-state.ensures)

pub returns : goal.returns
returns c =
    let first = first_worldless _ _ _ c.in_ok-states.ensures c.in_ok-state.ensures in
    clash_of c.args.model.now c.in-Some.state.modes c.new.result c.in_ok-cube.cube c.new.ensures (rw c.in-Some.is at first) c.in_ok-cube.ensures.some c.in_ok-cube.ensures.none
