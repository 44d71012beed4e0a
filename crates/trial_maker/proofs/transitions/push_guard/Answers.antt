use Rattle.std.proofs.Common.{◌∙◌, append_assoc}
use Rattle.std.proofs.lemmas.Result.{on_ok_weaker}
use Rattle.trial_maker.proofs.Guards.{later_guard}
use Rattle.trial_maker.proofs.transitions.push_guard.Goals as goal

pub returns-clause-text : goal.returns-clause-text
returns-clause-text c =
    let later = later_guard c.args.link c.args.draws.now.number c.if-link-eq0.false in
    let mode = c.mode_name-mode.ensures in
    let drawn = c.draw.ensures.value in
    on_ok_weaker c.write.result (λ e. e ∙ rw (later, mode, drawn) (simp append_assoc)) c.write.ensures.bytes
