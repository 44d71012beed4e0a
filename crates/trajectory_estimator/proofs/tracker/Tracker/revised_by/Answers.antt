use Rattle.std.proofs.Common.{◌+◌, ◌-◌, List, length, drop, take, refl, ap, arith}
use Rattle.cca_base.specs.declared.state.State.{State}
use Rattle.trajectory_estimator.proofs.Ticking.{last_within, revises_last}
use Rattle.trajectory_estimator.proofs.tracker.Tracker.revised_by.Goals as goal

pub slice_bounds-revised-count : goal.slice_bounds-revised-count
slice_bounds-revised-count c = omega (arith, last_within c.self.invariant.0 c.self.view_is c.self.inside.last c.args.gone refl c.requires.awake c.requires.gone, ap length c.as_slice.ensures)

pub slice_bounds-revised-start : goal.slice_bounds-revised-start
slice_bounds-revised-start c = omega (arith, last_within c.self.invariant.0 c.self.view_is c.self.inside.last c.args.gone refl c.requires.awake c.requires.gone, ap length c.as_slice.ensures)

pub returns : goal.returns
returns c =
    let t = c.self.inside in
    let all = c.as_slice.result.now in
    revises_last c.self.invariant.0 c.self.view_is t.last (take (length all - c.args.gone) (drop c.args.gone all)) c.args.states.now c.args.gone (t.ticks + 1 - (length c.args.states.now - 1)) c.revised.result refl
    c.requires.gone c.requires.some refl (ap (λ (l : List State). take (length l - c.args.gone) (drop c.args.gone l)) c.as_slice.ensures) c.revised.ensures
