use Rattle.trace_text.proofs.OneTextEach.{lines_are_told_apart}
use Rattle.trace_text.proofs.line_laws.line_laws.Goals as goal

pub returns : goal.returns
returns c = record { told_apart = lines_are_told_apart }
