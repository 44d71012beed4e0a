use Rattle.std.proofs.Common.{refl, ap, ◌∙◌}
use Rattle.trajectory_estimator.specs.Tracked.{Tracked, stands}
use Rattle.trajectory_estimator.proofs.Ticking.{gone_is}
use Rattle.window_laws.specs.Ticks.{TrackerState, going}
use Rattle.trajectory_estimator.proofs.tracker.Tracker.going.Goals as goal

pub returns : goal.returns
returns c =
    let t = c.self.inside in
    let x : TrackerState = stands t.anchor t.records t.last t.ticks t.holding in
    gone_is t.records c.len.result c.saturating_sub.result x refl c.len.ensures c.saturating_sub.ensures ∙ ap (λ (s : Tracked). going s.state) c.self.view_is
