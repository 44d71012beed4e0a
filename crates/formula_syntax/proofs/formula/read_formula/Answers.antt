use Rattle.std.proofs.Common.{map, false, refl}
use Rattle.text_base.specs.Lexemes.{lexeme_of}
use Rattle.formula_syntax.proofs.SoundReadings.{read_is_answer, sound_is_formula}
use Rattle.formula_syntax.proofs.formula.read_formula.Goals as goal

pub returns-in-Some-Faulty-clause-answer : goal.returns-in-Some-Faulty-clause-answer
returns-in-Some-Faulty-clause-answer c =
    let h = rw (c.in-Some-Faulty.is, c.in-Some-Faulty.field-0-is) at c.in_ok-read_freely.ensures in
    rw c.refused-in-Some-Faulty.ensures (read_is_answer c.args.model.now (map lexeme_of c.args.tokens.now) _ h, refl)

pub returns-in-Some-Sound-clause-answer : goal.returns-in-Some-Sound-clause-answer
returns-in-Some-Sound-clause-answer c =
    let h = rw (c.in-Some-Sound.is, c.in-Some-Sound.field-0-is) at c.in_ok-read_freely.ensures in
    read_is_answer c.args.model.now (map lexeme_of c.args.tokens.now) _ h

pub returns-in-Some-Sound-clause-formula : goal.returns-in-Some-Sound-clause-formula
returns-in-Some-Sound-clause-formula c =
    let h = rw (c.in-Some-Sound.is, c.in-Some-Sound.field-0-is) at c.in_ok-read_freely.ensures in
    sound_is_formula false c.args.model.now (map lexeme_of c.args.tokens.now) c.in-Some-Sound.formula _ h
