use Rattle.std.proofs.Common.{ℕ, ap, ◌∙◌}
use Rattle.std.specs.Global.{Vec}
use Rattle.trial_maker.proofs.WholeText.{whole_text}
use Rattle.trial_maker.proofs.whole.trial.Goals as goal

pub returns : goal.returns
returns c =
    c.of.ensures ∙ ap (λ (bytes : Vec ℕ). bytes.items) c.into_bytes.ensures.value
    ∙ whole_text _ _ _ _ _ c.new-out.ensures.bytes c.in_ok-push_setup.ensures.0 c.in_ok-push_setup.ensures.1 c.in_ok-push_ticks.ensures.0
