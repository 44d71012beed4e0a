use Rattle.script_reader.proofs.OneSaid.{line_answer}
use Rattle.want_lines.specs.Items.{grammar}
use Rattle.want_lines.specs.Requests.{Applies, IsNamed}
use Rattle.want_lines.proofs.RequestsFit.{answer_fits}
use Rattle.want_lines.proofs.want_line.read_request.Goals as goal

pub returns-in-Ok-clause-answer : goal.returns-in-Ok-clause-answer
returns-in-Ok-clause-answer c = line_answer grammar (IsNamed c.args.model.now) (Applies c.args.model.now) c.args.line.now c.in-Ok.tokens.items c.tokens_request.result c.in-Ok.ensures (rw c.as_slice.ensures.value at c.tokens_request.ensures)

pub returns-in-Ok-clause-fits : goal.returns-in-Ok-clause-fits
returns-in-Ok-clause-fits c = answer_fits c.args.model.now c.args.line.now c.tokens_request.result (returns-in-Ok-clause-answer c)
