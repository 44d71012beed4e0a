use Rattle.std.proofs.Common.{ap, subst, ◌∙◌}
use Rattle.trajectory_estimator.specs.Asked.{entry_of}
use Rattle.trajectory_estimator.specs.Tracked.{TicksBy, answer_of}
use Rattle.trajectory_estimator.specs.declared.record.Record.{Record}
use Rattle.window_laws.specs.Ticks.{Ticks}
use Rattle.watch_form.specs.WatchMachine.{WatchState}
use Rattle.watch_form.proofs.WatchSteps.{tracking_is}
use Rattle.watch_form.proofs.watching.Watching.tick.Goals as goal

pub returns : goal.returns
returns c =
    let old = c.self.inside.tracker in
    let new = c.tick.new.self in
    let answer = c.in_ok-answer.answer in
    let by = subst (λ (r : Record). TicksBy old (entry_of r) new answer) c.replace-entry.ensures.value c.in_ok-answer.ensures.ok in
    let ticks = subst (λ (x : WatchState). Ticks x.compiled.model x.state x.pending new.state (answer_of answer)) c.self.view_is by.ticks in
    let compiled = by.compiled ∙ ap (λ (x : WatchState). x.compiled) c.self.view_is in
    let none = ap entry_of c.replace-entry.ensures.after ∙ c.nothing_pending.ensures in
    (new.state, ticks, tracking_is c.args.self.now new.compiled new.state (entry_of c.replace-entry.new.dest) compiled none)
