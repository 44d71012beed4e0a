use Rattle.std.proofs.Common.{◌≡◌, rules}
use Rattle.text_base.specs.Tokens.{tokens_of}
use Rattle.script_reader.specs.Asked.{said_with}
use Rattle.script_reader.specs.EventLines.{event_by, by_tokens}
use Rattle.script_reader.proofs.AskedItems.{asks_what_may_come}
use Rattle.script_reader.proofs.asking.read_event_in.Goals as goal

pub returns-in-Some-next-clause-may_come : goal.returns-in-Some-next-clause-may_come
returns-in-Some-next-clause-may_come c =
    let k = c.args.context.now in
    let said : said_with c.item_asked.new.pairs.items c.map.result ≡ by_tokens (event_by c.args.goals k.model k.pending.now k.mirrored) (tokens_of c.args.line.now) = search rules in
    asks_what_may_come k.model k.pending.now k.mirrored c.args.goals (tokens_of c.args.line.now) c.item_asked.new.pairs.items c.map.result said
