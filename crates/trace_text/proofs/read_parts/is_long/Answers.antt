use Rattle.list_laws.proofs.WordsByPlace.{only_word}
use Rattle.trace_text.proofs.read_parts.is_long.Goals as goal

pub returns-in-len1 : goal.returns-in-len1
returns-in-len1 c = only_word c.args.words.now _ c.as_slice.result.now _ c.eq.result c.in-len1.len_at_least c.in-len1.len_below c.eq.ensures c.as_slice.ensures
