use Rattle.script_reader.proofs.ItemGrammar.{item_again, item_written}
use Rattle.script_reader.proofs.laws.lines_are_spelled.Goals as goal

pub returns : goal.returns
returns c = record { read = item_again; spelled = item_written }
