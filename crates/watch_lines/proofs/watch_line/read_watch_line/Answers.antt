use Rattle.script_reader.proofs.OneSaid.{line_answer}
use Rattle.watch_lines.specs.Items.{grammar}
use Rattle.watch_lines.specs.WatchEvents.{Applies, IsNamed}
use Rattle.watch_lines.proofs.EventsFit.{answer_fits}
use Rattle.watch_lines.proofs.watch_line.read_watch_line.Goals as goal

pub returns-in-Ok-clause-answer : goal.returns-in-Ok-clause-answer
returns-in-Ok-clause-answer c =
    let k = c.args.context.now in
    line_answer grammar (IsNamed k.script.model) (Applies k.script.model k.script.pending.now k.sent) c.args.line.now c.in-Ok.tokens.items c.tokens_event.result c.in-Ok.ensures (rw c.as_slice.ensures.value at c.tokens_event.ensures)

pub returns-in-Ok-clause-fits : goal.returns-in-Ok-clause-fits
returns-in-Ok-clause-fits c =
    let k = c.args.context.now in
    answer_fits k.script.model k.script.pending.now k.sent c.args.line.now c.tokens_event.result (returns-in-Ok-clause-answer c)
