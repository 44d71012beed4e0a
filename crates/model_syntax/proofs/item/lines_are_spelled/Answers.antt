use Rattle.model_syntax.proofs.ItemGrammar.{item_again, item_written}
use Rattle.model_syntax.proofs.item.lines_are_spelled.Goals as goal

pub returns : goal.returns
returns c = record { read = item_again; spelled = item_written }
