use Rattle.trace_text.proofs.ReadWords.{place_is_read}
use Rattle.trace_text.proofs.read_parts.read_name.Goals as goal

pub returns : goal.returns
returns c = place_is_read c.args.names.now c.args.word.now c.place_of.result c.place_of.ensures.place
