use Rattle.std.proofs.Common.{Bor, List, ℕ, []}
use Rattle.list_laws.proofs.WordsByPlace.{one_word}
use Rattle.trace_text.proofs.read_report.read_reply.Goals as goal

pub returns-in-len1 : goal.returns-in-len1
returns-in-len1 c =
    let none : Bor (List ℕ) = record { ref_ptr = (0, 0); now = [] } in rw (one_word c.args.words.now none c.in-len1.len_at_least c.in-len1.len_below) (c.read_bare_reply.ensures c.args.model.now)
