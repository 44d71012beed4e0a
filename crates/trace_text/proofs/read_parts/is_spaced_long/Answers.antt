use Rattle.list_laws.proofs.WordsByPlace.{no_bytes, second_word}
use Rattle.trace_text.proofs.read_parts.is_spaced_long.Goals as goal

pub returns-then-is_empty : goal.returns-then-is_empty
returns-then-is_empty c =
    second_word c.args.words.now _ c.as_slice.result.now _ c.eq.result c.in-len2.len_at_least c.in-len2.len_below (no_bytes _ c.is_empty.result c.is_empty.ensures c.if-is_empty.true) c.eq.ensures
    c.as_slice.ensures
