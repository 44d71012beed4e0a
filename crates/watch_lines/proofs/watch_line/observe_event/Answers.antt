use Rattle.std.proofs.Common.{map, refl}
use Rattle.text_base.specs.Pairs.{shown_pair}
use Rattle.watch_lines.proofs.EventsOfWords.{values_unknown, values_refused, values_taken}
use Rattle.watch_lines.proofs.watch_line.observe_event.Goals as goal

pub returns-in_default : goal.returns-in_default
returns-in_default c =
    let k = c.args.context.now in
    let e = rw c.in_default.is at c.in_ok-pairs.ensures in
    rw c.refused.ensures (values_unknown k.script.model k.script.pending.now k.sent (map shown_pair c.args.named.now) e, refl)

pub returns-in-Some-observe_code : goal.returns-in-Some-observe_code
returns-in-Some-observe_code c =
    let k = c.args.context.now in
    let e = rw c.in-Some.is at c.in_ok-pairs.ensures in
    let code = rw (c.requires.unmirrored, c.as_slice.ensures) at c.in-Some-observe_code.ensures in
    rw c.refused-in-Some-observe_code.ensures
    (values_refused k.script.model k.script.pending.now k.sent (map shown_pair c.args.named.now) c.in-Some.pairs e c.in-Some-observe_code.code code, refl)

pub returns-in-None : goal.returns-in-None
returns-in-None c =
    let k = c.args.context.now in
    let e = rw c.in-Some.is at c.in_ok-pairs.ensures in
    let none = rw (c.requires.unmirrored, c.as_slice.ensures) at c.in-None.ensures in
    values_taken k.script.model k.script.pending.now k.sent (map shown_pair c.args.named.now) c.in-Some.pairs e none
