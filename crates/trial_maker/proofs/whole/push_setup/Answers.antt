use Rattle.std.proofs.Common.{◌∙◌}
use Rattle.std.proofs.lemmas.Result.{on_ok_weaker}
use Rattle.trial_maker.proofs.WholeText.{setup_text, setup_number}
use Rattle.trial_maker.proofs.whole.push_setup.Goals as goal

pub returns : goal.returns
returns c =
    let all = c.as_slice-links.ensures.value ∙ c.in_ok-links.ensures in
    let moves = c.in_ok-push_moves.ensures in
    let failures = c.in_ok-push_failures.ensures in
    on_ok_weaker c.push_mirrors.result (λ mirrors. (
      setup_text _ _ _ _ _ _ _ _ all c.in_ok-push_plant.ensures moves.0 moves.1 failures.0 mirrors,
      setup_number _ _ _ _ all moves.1 failures.1,
    )) c.push_mirrors.ensures
