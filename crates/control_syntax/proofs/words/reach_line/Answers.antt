use Rattle.std.proofs.Common.{map, refl}
use Rattle.text_base.specs.Lexemes.{lexeme_of}
use Rattle.text_base.specs.Pairs.{shown_pair}
use Rattle.control_syntax.proofs.LineWords.{reach_says, reach_unformed, reach_unknown}
use Rattle.control_syntax.proofs.words.reach_line.Goals as goal

pub returns-in_default : goal.returns-in_default
returns-in_default c =
    let e = rw c.in_default.is at c.in_ok-named.ensures in
    rw c.refused.ensures (reach_unformed c.args.model.now (map lexeme_of c.args.rest.now) e, refl)

pub returns-in-Some-2 : goal.returns-in-Some-2
returns-in-Some-2 c =
    let e = rw c.in-Some.is at c.in_ok-named.ensures in
    let f = rw (c.in-Some-2.is, c.as_slice.ensures.value) at c.in_ok-pairs.ensures in
    reach_says c.args.model.now (map lexeme_of c.args.rest.now) (map shown_pair c.in-Some.named.items) e c.in-Some-2.pairs f

pub returns : goal.returns
returns c =
    let e = rw c.in-Some.is at c.in_ok-named.ensures in
    let f = rw (c.in-None.is, c.as_slice.ensures.value) at c.in_ok-pairs.ensures in
    rw c.refused-in-None.ensures (reach_unknown c.args.model.now (map lexeme_of c.args.rest.now) (map shown_pair c.in-Some.named.items) e f, refl)
