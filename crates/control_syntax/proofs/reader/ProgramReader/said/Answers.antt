use Rattle.script_reader.proofs.OneSaid.{line_answer}
use Rattle.control_syntax.specs.Codes.{Applies, IsNamed}
use Rattle.control_syntax.specs.Items.{grammar}
use Rattle.control_syntax.proofs.reader.ProgramReader.said.Goals as goal

pub returns-in-Ok : goal.returns-in-Ok
returns-in-Ok c =
    line_answer grammar (IsNamed c.args.model.now) (Applies c.args.model.now c.args.self.now) c.args.text.now c.in-Ok.tokens.items c.tokens_said.result c.in-Ok.ensures (rw c.as_slice.ensures.value at c.tokens_said.ensures)
