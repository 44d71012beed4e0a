use Rattle.std.proofs.Common.{◌<◌, ◌^◌, map, refl, arith}
use Rattle.text_base.specs.Lexemes.{lexeme_of}
use Rattle.control_syntax.proofs.LineWords.{repeat_high, repeat_low, repeat_no_number, repeat_says, repeat_unformed}
use Rattle.control_syntax.proofs.words.repeat_line.Goals as goal
use Rattle.control_syntax.proofs.words.repeat_line.Goals.{then-rounds-lt1-via-then-rounds-lt1, then-rounds-lt1-via-else-rounds-lt1+then-rounds}

pub returns-in_default : goal.returns-in_default
returns-in_default c = rw c.refused.ensures (repeat_unformed c.args.model.now (map lexeme_of c.args.rest.now) c.in_default.ensures, refl)

pub returns-in_default-read_number : goal.returns-in_default-read_number
returns-in_default-read_number c =
    rw c.refused-in_default-read_number.ensures (repeat_no_number c.args.model.now (map lexeme_of c.args.rest.now) c.in-Some.digits.now c.in-Some.ensures c.in_default-read_number.ensures.none, refl)

pub returns-then-rounds-lt1 : goal.returns-then-rounds-lt1
returns-then-rounds-lt1 c =
    let n = c.in-Some-read_number.rounds in
    let small : n < 2 ^ 128 = omega arith in
    let is = c.in-Some-read_number.ensures.some in
    elim c.then-rounds-lt1.branch [
      | then-rounds-lt1-via-then-rounds-lt1 w ↦
          rw c.refused-then-rounds-lt1.ensures (repeat_low c.args.model.now (map lexeme_of c.args.rest.now) c.in-Some.digits.now c.in-Some.ensures n small is w.if-rounds-lt1.true, refl)
      | then-rounds-lt1-via-else-rounds-lt1+then-rounds w ↦
          rw c.refused-then-rounds-lt1.ensures
          (repeat_high c.args.model.now (map lexeme_of c.args.rest.now) c.in-Some.digits.now c.in-Some.ensures n small is (omega (arith, w.if-rounds.true)), refl)
    ]

pub returns : goal.returns
returns c =
    let n = c.in-Some-read_number.rounds in
    let small : n < 2 ^ 128 = omega arith in
    repeat_says c.args.model.now (map lexeme_of c.args.rest.now) c.in-Some.digits.now c.in-Some.ensures n small c.in-Some-read_number.ensures.some (omega (arith, c.if-rounds-lt1.false)) (omega (arith, c.if-rounds.false))
