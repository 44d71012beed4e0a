use Rattle.std.proofs.Common.{length, map, refl, sym, ap, subst, ◌∙◌, arith}
use Rattle.trajectory_estimator.specs.Asked.{AreValues, entry_of}
use Rattle.trajectory_estimator.specs.NextWindows.{IsWindowIn}
use Rattle.trajectory_estimator.specs.Tracked.{Tracked}
use Rattle.trajectory_estimator.specs.declared.next_window.NextWindow.{NextWindow}
use Rattle.trajectory_estimator.proofs.Ticking.{going_within, window_good, window_is}
use Rattle.trajectory_estimator.proofs.tracker.Tracker.next_window.Goals as goal

pub records_with-requires : goal.records_with-requires
records_with-requires c =
    omega (arith, going_within c.self.invariant.0 c.self.view_is c.self.inside.records c.going-gone.result refl c.going-gone.ensures, ap length c.as_slice.ensures)

pub returns-clause-good : goal.returns-clause-good
returns-clause-good c =
    let entry = entry_of c.args.entry in
    let w : NextWindow = record { gone = c.going-gone.result; anchor = c.in_ok-anchor.anchor; records = c.in_ok-records.records } in
    let next = window_is c.self.invariant.0 c.self.view_is entry c.as_slice.result.now w (ap (map entry_of) (sym c.as_slice.ensures)) c.going-gone.ensures c.in_ok-anchor.ensures c.in_ok-records.ensures in
    let awake = ap (λ (t : Tracked). t.state.holding) c.self.view_is ∙ c.requires.awake in
    let own = subst (λ (t : Tracked). AreValues t.compiled.model entry) (sym c.self.view_is) c.requires.values in
    subst (λ (t : Tracked). IsWindowIn t.compiled.model w) c.self.view_is (window_good c.self.invariant.0 c.self.view_is entry w awake own next)
