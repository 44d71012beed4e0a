use Rattle.std.proofs.Common.{◌≡◌, true, false, refl, sym, ◌∙◌, arith}
use Rattle.std.proofs.lemmas.Bool.{not-true, not-false}
use Rattle.text_base.specs.Pairs.{shown_pair}
use Rattle.script_reader.proofs.PairsFound.{IsFoundWith, pair_noted, none_noted, nothing_noted, has_room}
use Rattle.script_reader.proofs.found.note.Goals as goal

pub returns-then-found-clause-found : goal.returns-then-found-clause-found
returns-then-found-clause-found c = λ before h.
    let k = c.args.context.now in
    nothing_noted c.args.naming k.model k.pending.now k.mirrored before (shown_pair c.args.named.now) c.args.found c.args.pairs.now.items c.args.pairs.now.items c.if-found.true h

pub returns-in_default-clause-found : goal.returns-in_default-clause-found
returns-in_default-clause-found c = λ before h.
    let k = c.args.context.now in
    none_noted c.args.naming k.model k.pending.now k.mirrored before (shown_pair c.args.named.now) _ c.args.pairs.now.items c.in_default.ensures refl

pub push-requires : goal.push-requires
push-requires c =
    let k = c.args.context.now in
    let twice = rw c.as_slice.ensures.items at c.found_with-with_pair.ensures.twice in
    let before = c.requires.known in
    let room = has_room c.args.naming k.model k.pending.now k.mirrored before.0 (shown_pair c.args.named.now) c.in-Some.pair c.args.found c.args.pairs.now.items before.1 c.in-Some.ensures c.if-found.false (sym twice ∙ not-true c.found_with-with_pair.result.twice c.if-not-with_pair.true) in
    omega (arith, room, c.requires.room)

pub returns-then-not-with_pair-clause-found : goal.returns-then-not-with_pair-clause-found
returns-then-not-with_pair-clause-found c = λ before h.
    let k = c.args.context.now in
    let e = c.found_with-with_pair.ensures in
    let twice = rw c.as_slice.ensures.items at e.twice in
    let with_pair : IsFoundWith c.args.naming k.model k.pending.now k.mirrored c.in-Some.pair c.args.found c.args.pairs.now.items c.found_with-with_pair.result =
    record { unknown = e.unknown; unfit = e.unfit; twice = twice; is_pending = e.pending; is_mirrored = e.mirrored } in
    pair_noted c.args.naming k.model k.pending.now k.mirrored before (shown_pair c.args.named.now) c.in-Some.pair c.args.found c.found_with-with_pair.result c.args.pairs.now.items c.push.new.self.items c.in-Some.ensures c.if-found.false with_pair (λ _. c.push.ensures.items) h

pub returns-else-not-with_pair-clause-found : goal.returns-else-not-with_pair-clause-found
returns-else-not-with_pair-clause-found c = λ before h.
    let k = c.args.context.now in
    let e = c.found_with-with_pair.ensures in
    let twice = rw c.as_slice.ensures.items at e.twice in
    let with_pair : IsFoundWith c.args.naming k.model k.pending.now k.mirrored c.in-Some.pair c.args.found c.args.pairs.now.items c.found_with-with_pair.result =
    record { unknown = e.unknown; unfit = e.unfit; twice = twice; is_pending = e.pending; is_mirrored = e.mirrored } in
    pair_noted c.args.naming k.model k.pending.now k.mirrored before (shown_pair c.args.named.now) c.in-Some.pair c.args.found c.found_with-with_pair.result c.args.pairs.now.items c.args.pairs.now.items c.in-Some.ensures c.if-found.false with_pair
    (λ once. let no : true ≡ false = sym (not-false c.found_with-with_pair.result.twice c.if-not-with_pair.false) ∙ once in absurd cc) h
