use Rattle.std.proofs.Common.{◌∙◌}
use Rattle.std.specs.Fmt.{decimal}
use Rattle.std.specs.String.{string_bytes}
use Rattle.trial_maker.specs.Chains.{digits_text}
use Rattle.trial_maker.specs.TransitionLines.{guard_of, transition_line}
use Rattle.trial_maker.proofs.TransitionText.{three_parts}
use Rattle.trial_maker.proofs.transitions.push_transition.Goals as goal

pub returns-clause-text : goal.returns-clause-text
unfolding transition_line
returns-clause-text c =
    let guard = c.in_ok-push_guard.ensures.text in
    let front = c.in_ok-write.ensures.bytes in
    c.in_ok-push_str.ensures.bytes
    ∙ rw (guard, front) (three_parts (string_bytes c.args.out.now) c.args.word.now (digits_text c.args.link) c.args.modes.now (decimal c.args.number) (guard_of c.args.link c.args.draws.now.number).0)
