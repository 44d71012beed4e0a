use Rattle.model_syntax.proofs.HeaderLine.{header_is_no_longer}
use Rattle.model_syntax.proofs.ShorterLines.{lines_are_no_longer}
use Rattle.model_syntax.proofs.shorter.lines_are_no_longer.Goals as goal

pub returns : goal.returns
returns c = record { items = lines_are_no_longer; header = header_is_no_longer }
