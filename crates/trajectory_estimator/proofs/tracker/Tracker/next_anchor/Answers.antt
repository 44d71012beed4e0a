use Rattle.std.proofs.Common.{◌≡◌, refl, ap, ◌∙◌}
use Rattle.std.proofs.lemmas.Result.{IfOk-weaker}
use Rattle.cca_base.specs.declared.state.State.{State}
use Rattle.trajectory_estimator.proofs.Ticking.{anchor_slides, anchor_stays, has_last}
use Rattle.window_laws.specs.Ticks.{next_anchor}
use Rattle.trajectory_estimator.proofs.tracker.Tracker.next_anchor.Goals as goal

pub get-requires : goal.get-requires
get-requires c = has_last c.self.invariant.0 c.self.view_is c.self.inside.last c.args.gone refl c.requires.awake c.requires.gone c.if-gone-eq0.false

pub returns-then-gone-eq0 : goal.returns-then-gone-eq0
returns-then-gone-eq0 c =
    IfOk-weaker c.copy.result (λ (s : State). s ≡ c.self.inside.anchor) (λ (s : State). s.modes ≡ next_anchor c.args.self.now.state)
    (λ s copied. ap (λ (t : State). t.modes) copied ∙ anchor_stays c.self.invariant.0 c.self.view_is c.args.gone c.requires.gone c.if-gone-eq0.true) c.copy.ensures

pub returns : goal.returns
returns c =
    IfOk-weaker c.copy-2.result (λ (s : State). s ≡ c.get.result.now) (λ (s : State). s.modes ≡ next_anchor c.args.self.now.state)
    (λ s copied. ap (λ (t : State). t.modes) copied ∙ anchor_slides c.self.invariant.0 c.self.view_is c.self.inside.last c.get.result.now c.args.gone refl c.requires.gone c.if-gone-eq0.false c.get.ensures.value)
    c.copy-2.ensures
