use Rattle.std.proofs.Common.{ap, map, refl, sym, ◌∙◌}
use Rattle.std.specs.Option.{option_map}
use Rattle.text_base.specs.Lexemes.{lexeme_of}
use Rattle.script_reader.specs.Items.{shown_item}
use Rattle.watch_lines.proofs.EventsOfWords.{item_answer, no_item}
use Rattle.watch_lines.proofs.watch_line.script_event.Goals as goal

pub returns-in-Some : goal.returns-in-Some
returns-in-Some c =
    let k = c.args.context.now in
    let read = sym c.in_ok-item.ensures ∙ ap (option_map shown_item) c.in-Some.is in
    item_answer k.script.model k.script.pending.now k.sent (map lexeme_of c.args.tokens.now) c.requires.other (shown_item c.in-Some.item) c.item_event.result read c.item_event.ensures

pub returns-in-None : goal.returns-in-None
returns-in-None c =
    let k = c.args.context.now in
    let none = sym (ap (option_map shown_item) c.in-None.is) ∙ c.in_ok-item.ensures in
    rw c.refused.ensures (no_item k.script.model k.script.pending.now k.sent (map lexeme_of c.args.tokens.now) c.requires.other none, refl)
