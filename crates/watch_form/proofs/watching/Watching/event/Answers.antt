use Rattle.std.proofs.Common.{◌≤◌, ◌^◌, length, ap, sym, subst, ◌∙◌}
use Rattle.std.specs.Option.{is_some}
use Rattle.cca_base.specs.Accepted.{CompiledModel}
use Rattle.cca_base.specs.PlantModel.{PlantModel}
use Rattle.watch_lines.specs.WatchEvents.{IsWatchEventOf}
use Rattle.watch_form.specs.WatchMachine.{WatchState}
use Rattle.cca_base.proofs.CommandPlaces.{few_commands}
use Rattle.cca_base.specs.Refusals.{Answers}
use Rattle.watch_form.proofs.watching.Watching.event.Goals as goal

pub read_watch_line-requires-clause-few : goal.read_watch_line-requires-clause-few
read_watch_line-requires-clause-few c =
    let model = c.new.ensures ∙ c.model-model.ensures.value ∙ ap (λ (b : CompiledModel). b.model) c.compiled.ensures.value in
    subst (λ (m : PlantModel). length m.commands ≤ 2 ^ 16) (sym model) (few_commands c.self.inside.tracker.compiled c.compiled.ensures.compiled)

pub returns-clause-answer : goal.returns-clause-answer
returns-clause-answer c =
    let model = c.new.ensures ∙ c.model-model.ensures.value ∙ ap (λ (b : CompiledModel). b.model) c.compiled.ensures.value in
    let here = rw (model, c.as_slice.ensures, c.is_some.ensures) at c.read_watch_line.ensures.answer in
    subst (λ (x : WatchState). Answers c.read_watch_line.result (IsWatchEventOf x.compiled.model x.pending.seen (is_some x.pending.command) c.args.line.now)) c.self.view_is here
