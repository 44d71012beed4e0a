use Rattle.std.proofs.Common.{map, refl, sym}
use Rattle.text_base.specs.Lexemes.{lexeme_of}
use Rattle.text_base.specs.Pairs.{shown_pair}
use Rattle.want_lines.proofs.RequestsOfWords.{at_unformed, says_at_unknown, says_twice, says_at}
use Rattle.want_lines.proofs.want_line.at_request.Goals as goal

pub returns-in_default : goal.returns-in_default
returns-in_default c =
    let e = rw c.in_default.is at c.in_ok-named.ensures in
    rw c.refused.ensures (at_unformed c.args.model.now (map lexeme_of c.args.rest.now) e, refl)

pub returns-in_default-2 : goal.returns-in_default-2
returns-in_default-2 c =
    let e = rw c.in-Some.is at c.in_ok-named.ensures in
    let f = rw (c.in_default-2.is, c.as_slice.ensures.value) at c.in_ok-pairs.ensures in
    rw c.refused-in_default-2.ensures (says_at_unknown c.args.model.now (map lexeme_of c.args.rest.now) (map shown_pair c.in-Some.named.items) e f, refl)

pub returns-then-has_item_twice : goal.returns-then-has_item_twice
returns-then-has_item_twice c =
    let e = rw c.in-Some.is at c.in_ok-named.ensures in
    let f = rw (c.in-Some-2.is, c.as_slice.ensures.value) at c.in_ok-pairs.ensures in
    rw c.refused-then-has_item_twice.ensures (says_twice c.args.model.now (map lexeme_of c.args.rest.now) (map shown_pair c.in-Some.named.items) e c.in-Some-2.pairs f (sym (rw c.as_slice-2.ensures at c.if-has_item_twice.ensures)), refl)

pub returns : goal.returns
returns c =
    let e = rw c.in-Some.is at c.in_ok-named.ensures in
    let f = rw (c.in-Some-2.is, c.as_slice.ensures.value) at c.in_ok-pairs.ensures in
    says_at c.args.model.now (map lexeme_of c.args.rest.now) (map shown_pair c.in-Some.named.items) e c.in-Some-2.pairs f (sym (rw c.as_slice-2.ensures at c.if-has_item_twice.ensures))
