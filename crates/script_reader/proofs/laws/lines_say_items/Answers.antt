use Rattle.script_reader.proofs.LinesSayItems.{nothing_said, item_said, malformed_said}
use Rattle.script_reader.proofs.laws.lines_say_items.Goals as goal

pub returns : goal.returns
returns c = record { nothing = nothing_said; item = item_said; malformed = malformed_said }
