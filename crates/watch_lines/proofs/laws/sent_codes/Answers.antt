use Rattle.watch_lines.proofs.SentCodes as codes
use Rattle.watch_lines.proofs.laws.sent_codes.Goals as goal

pub returns : goal.returns
returns c = codes.sent_codes
