-- The line of a No for each reason.
use Rattle.std.proofs.Common.{◌≡◌, ◌+◌, ◌<◌, ℕ, [], ◌∷◌, refl, arith}
use Rattle.std.specs.Fmt.{decimal}
use Rattle.std.proofs.lemmas.Fmt.{decimal_digit}
use Rattle.form_examples.specs.CheckExamples.{ReasonsAreNamed}

pub reasons_are_named : ReasonsAreNamed
reasons_are_named =
    let seven : decimal 7 ≡ 55 ∷ [] = decimal_digit 7 (omega arith) in
    record {
      line = rw (seven, decimal_digit 1 (omega arith)) refl;
      cost = rw (seven, decimal_digit 2 (omega arith)) refl;
      world = rw (seven, decimal_digit 3 (omega arith)) refl;
      step = rw (seven, decimal_digit 4 (omega arith)) refl;
      plan = rw (seven, decimal_digit 5 (omega arith)) refl;
      goal = rw (seven, decimal_digit 6 (omega arith)) refl;
      back = rw (seven) refl;
      answer = rw (seven, decimal_digit 8 (omega arith)) refl;
      long = rw (seven, decimal_digit 9 (omega arith)) refl;
    }
