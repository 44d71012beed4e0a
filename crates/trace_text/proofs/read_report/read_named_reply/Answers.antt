use Rattle.std.proofs.Common.{rules}
use Rattle.trace_text.proofs.ReadReports.{no_unreachable}
use Rattle.trace_text.proofs.read_report.read_named_reply.Goals as goal

pub returns-in-None-read_pair : goal.returns-in-None-read_pair
returns-in-None-read_pair c = no_unreachable c.args.model.now c.args.kind.now c.args.word.now (search rules) c.in-None-read_pair.ensures
