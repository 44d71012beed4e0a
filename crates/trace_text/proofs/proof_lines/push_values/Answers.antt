use Rattle.byte_buffer.proofs.Pushing.{continues_then}
use Rattle.trace_text.specs.LineWords.{value_words}
use Rattle.trace_text.specs.Words.{behind_spaces}
use Rattle.trace_text.proofs.LeftToPush.{both_left}
use Rattle.trace_text.proofs.proof_lines.push_values.Goals as goal

pub loop-i-preserved : goal.loop-i-preserved
loop-i-preserved c =
    let variable = c.index-variables-i in
    let value = c.in-Some.ensures.lookup in
    let left = both_left (λ xs ks. behind_spaces (value_words xs ks)) c.args.variables.now c.args.values.now c.loop-i.i variable.result c.in-Some.value.now c.loop-i-test.true variable.is value.3.0 value.1 in
    let pushed = rw (c.bytes.ensures, c.as_slice-names.ensures) at c.in_ok-push_choice_word.ensures in
    continues_then left c.loop-i.invariant pushed
