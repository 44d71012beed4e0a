use Rattle.std.proofs.Common.{◌<◌, ◌^◌, map, refl, arith}
use Rattle.text_base.specs.Lexemes.{lexeme_of}
use Rattle.text_base.specs.Pairs.{shown_pair}
use Rattle.want_lines.proofs.RequestsOfWords.{weight_unformed, weight_no_number, says_unknown, says_great, says_weight}
use Rattle.want_lines.proofs.want_line.weight_request.Goals as goal

pub returns-in_default : goal.returns-in_default
returns-in_default c = rw c.refused.ensures (weight_unformed c.args.model.now (map lexeme_of c.args.rest.now) c.in_default.ensures, refl)

pub returns-in_default-read_number : goal.returns-in_default-read_number
returns-in_default-read_number c =
    rw c.refused-in_default-read_number.ensures
    (weight_no_number c.args.model.now (map lexeme_of c.args.rest.now) (shown_pair c.in-Some.named) c.in-Some.digits.now c.in-Some.ensures c.in_default-read_number.ensures.none, refl)

pub returns-in_default-stands_for : goal.returns-in_default-stands_for
returns-in_default-stands_for c =
    let small : c.in-Some-read_number.weight < 2 ^ 128 = omega arith in
    rw c.refused-in_default-stands_for.ensures
    (says_unknown c.args.model.now (map lexeme_of c.args.rest.now) (shown_pair c.in-Some.named) c.in-Some.digits.now c.in-Some-read_number.weight c.in-Some.ensures small c.in-Some-read_number.ensures.some c.in_default-stands_for.ensures, refl)

pub returns-then-weight : goal.returns-then-weight
returns-then-weight c =
    let small : c.in-Some-read_number.weight < 2 ^ 128 = omega arith in
    rw c.refused-then-weight.ensures (
      says_great c.args.model.now (map lexeme_of c.args.rest.now) (shown_pair c.in-Some.named) c.in-Some.digits.now c.in-Some-read_number.weight c.in-Some.ensures small c.in-Some-read_number.ensures.some c.in-Some-stands_for.pair
          c.in-Some-stands_for.ensures
          (omega (arith, c.if-weight.true)),
      refl,
    )

pub returns : goal.returns
returns c =
    let small : c.in-Some-read_number.weight < 2 ^ 128 = omega arith in
    says_weight c.args.model.now (map lexeme_of c.args.rest.now) (shown_pair c.in-Some.named) c.in-Some.digits.now c.in-Some-read_number.weight c.in-Some.ensures small c.in-Some-read_number.ensures.some c.in-Some-stands_for.pair
    c.in-Some-stands_for.ensures
    (omega (arith, c.if-weight.false))
