use Rattle.std.proofs.Common.{ap, sym, subst, ◌∙◌}
use Rattle.std.proofs.lemmas.List.Elements.{All-nil}
use Rattle.cca_base.specs.PlantModel.{PlantModel}
use Rattle.formula_syntax.specs.Lookups.{NamesFit}
use Rattle.model_syntax.specs.Reader.{NumbersFit}
use Rattle.trajectory_estimator.specs.Asked.{AreValues}
use Rattle.trajectory_estimator.specs.Tracked.{Tracked}
use Rattle.watch_form.proofs.watching.WatchingOpensLinesWatchEvent.open.Goals as goal

pub invariant_of-result : goal.invariant_of-result
invariant_of-result c =
    let t = c.in_ok-tracker.ensures in
    let model = ap (λ (x : Tracked). x.compiled.model) t in (
      subst (NamesFit c.into_parts-compiled.result.1) (sym model) c.into_parts-compiled.ensures.fit,
      subst (λ (m : PlantModel). NumbersFit c.in_ok-places.places m.commands) (c.model.ensures.value ∙ sym model) c.in_ok-places.ensures,
      subst (AreValues c.in_ok-tracker.tracker.compiled.model) (sym c.nothing_pending.ensures) (All-nil _),
      sym (ap (λ (x : Tracked). x.state.ticks) t),
    )
