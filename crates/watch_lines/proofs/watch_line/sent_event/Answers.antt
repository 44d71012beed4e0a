use Rattle.std.proofs.Common.{map, refl}
use Rattle.text_base.specs.Lexemes.{lexeme_of}
use Rattle.watch_lines.proofs.EventsOfWords.{says_unformed, says_unknown, says_twice, says_sent}
use Rattle.watch_lines.proofs.watch_line.sent_event.Goals as goal

pub returns-in_default : goal.returns-in_default
returns-in_default c =
    let k = c.args.context.now in
    rw c.refused.ensures (says_unformed k.script.model k.script.pending.now k.sent (map lexeme_of c.args.rest.now) c.in_default.ensures, refl)

pub returns-in_default-command_of : goal.returns-in_default-command_of
returns-in_default-command_of c =
    let k = c.args.context.now in
    let none = rw c.model.ensures at c.in_default-command_of.ensures in
    rw c.refused-in_default-command_of.ensures
    (says_unknown k.script.model k.script.pending.now k.sent (map lexeme_of c.args.rest.now) c.in-Some.name.now c.in-Some.ensures none, refl)

pub returns-then-context : goal.returns-then-context
returns-then-context c =
    let k = c.args.context.now in
    let some = rw c.model.ensures at c.in-Some-command_of.ensures in
    rw c.refused-then-context.ensures
    (says_twice k.script.model k.script.pending.now k.sent (map lexeme_of c.args.rest.now) c.in-Some.name.now c.in-Some.ensures c.in-Some-command_of.command some c.if-context.true, refl)

pub returns : goal.returns
returns c =
    let k = c.args.context.now in
    let some = rw c.model.ensures at c.in-Some-command_of.ensures in
    says_sent k.script.model k.script.pending.now k.sent (map lexeme_of c.args.rest.now) c.in-Some.name.now c.in-Some.ensures c.in-Some-command_of.command some c.if-context.false
