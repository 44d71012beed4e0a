use Rattle.byte_buffer.proofs.Pushing.{continues_then}
use Rattle.trace_text.specs.LineWords.{mode_words}
use Rattle.trace_text.specs.Words.{behind_spaces}
use Rattle.trace_text.proofs.LeftToPush.{both_left}
use Rattle.trace_text.proofs.report.push_modes.Goals as goal

pub loop-i-preserved : goal.loop-i-preserved
loop-i-preserved c =
    let component = c.index-components-i in
    let mode = c.in-Some.ensures.lookup in
    let left = both_left (λ xs ks. behind_spaces (mode_words xs ks)) c.args.components.now c.args.modes.now c.loop-i.i component.result c.in-Some.mode.now c.loop-i-test.true component.is mode.3.0 mode.1 in
    let pushed = rw (c.bytes.ensures, c.as_slice-names.ensures) at c.in_ok-push_choice_word.ensures in
    continues_then left c.loop-i.invariant pushed
