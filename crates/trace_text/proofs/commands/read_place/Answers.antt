use Rattle.trace_text.proofs.ReadWords.{place_is_read}
use Rattle.trace_text.proofs.commands.read_place.Goals as goal

pub returns : goal.returns
returns c = place_is_read c.args.model.now.commands c.args.word.now c.place_by.result c.place_by.ensures
