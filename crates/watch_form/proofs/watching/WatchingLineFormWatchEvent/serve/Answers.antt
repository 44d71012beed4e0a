use Rattle.std.proofs.Common.{refl, sym, ap, subst, ◌∙◌}
use Rattle.cca_base.specs.Accepted.{CompiledModel}
use Rattle.line_machine.specs.Next.{GoesOn}
use Rattle.trajectory_estimator.specs.Tracked.{answer_of}
use Rattle.watch_lines.specs.declared.watch_event.WatchEvent.{WatchEvent}
use Rattle.watch_form.specs.Answered.{answer_line}
use Rattle.watch_form.specs.WatchMachine.{WatchState, ServesEvent}
use Rattle.watch_form.proofs.WatchSteps.{ticked}
use Rattle.watch_form.proofs.watching.WatchingLineFormWatchEvent.serve.Goals as goal

pub returns-in_ok-told-in-Tick-clause-serves : goal.returns-in_ok-told-in-Tick-clause-serves
returns-in_ok-told-in-Tick-clause-serves c =
    let x = c.args.self.now in
    let y = c.tick.new.self in
    let answer = answer_of c.in_ok-answer-in-Tick.answer in
    let number = c.self-in-Tick.inside.ticks in
    let text = answer_line c.model-model.result.now (record { tick = number; answer = answer }) in
    let model = c.model-model.ensures.value ∙ ap (λ (b : CompiledModel). b.model) c.compiled.ensures.value ∙ ap (λ (w : WatchState). w.compiled.model) c.self-in-Tick.view_is in
    let count = c.self-in-Tick.invariant.3 ∙ ap (λ (w : WatchState). w.state.ticks) c.self-in-Tick.view_is in
    let is = ticked x y answer c.model-model.result.now number text c.in_ok-answer-in-Tick.ensures model count refl in
    record {
      text = text;
      is = subst (λ (e : WatchEvent). ServesEvent e x (GoesOn y) text) (sym c.in-Tick.is) is;
      behind = c.in_ok-told-in-Tick.ensures.ok;
    }
