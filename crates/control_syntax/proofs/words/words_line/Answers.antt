use Rattle.std.proofs.Common.{map, true, false, sym}
use Rattle.std.proofs.lemmas.Result.{err_from_is_err_and}
use Rattle.text_base.specs.Lexemes.{lexeme_of}
use Rattle.control_syntax.specs.Items.{Program, Seq, Both, Otherwise, Done, End}
use Rattle.control_syntax.proofs.LineWords.{alone_answers, formula_answers, formula_stops}
use Rattle.control_syntax.proofs.words.words_line.Goals as goal

pub returns-then-is_lexeme-5 : goal.returns-then-is_lexeme-5
returns-then-is_lexeme-5 c = alone_answers c.args.model.now Program (lexeme_of c.args.first.now) (map lexeme_of c.args.rest.now) c.alone.result tt (sym c.if-is_lexeme-5.ensures) c.alone.ensures

pub returns-then-is_lexeme-6 : goal.returns-then-is_lexeme-6
returns-then-is_lexeme-6 c = alone_answers c.args.model.now Seq (lexeme_of c.args.first.now) (map lexeme_of c.args.rest.now) c.alone-then-is_lexeme-6.result tt (sym c.if-is_lexeme-6.ensures) c.alone-then-is_lexeme-6.ensures

pub returns-then-is_lexeme-7 : goal.returns-then-is_lexeme-7
returns-then-is_lexeme-7 c = alone_answers c.args.model.now Both (lexeme_of c.args.first.now) (map lexeme_of c.args.rest.now) c.alone-then-is_lexeme-7.result tt (sym c.if-is_lexeme-7.ensures) c.alone-then-is_lexeme-7.ensures

pub returns-then-is_lexeme-8 : goal.returns-then-is_lexeme-8
returns-then-is_lexeme-8 c = alone_answers c.args.model.now Otherwise (lexeme_of c.args.first.now) (map lexeme_of c.args.rest.now) c.alone-then-is_lexeme-8.result tt (sym c.if-is_lexeme-8.ensures) c.alone-then-is_lexeme-8.ensures

pub returns-then-is_lexeme-9 : goal.returns-then-is_lexeme-9
returns-then-is_lexeme-9 c = alone_answers c.args.model.now Done (lexeme_of c.args.first.now) (map lexeme_of c.args.rest.now) c.alone-then-is_lexeme-9.result tt (sym c.if-is_lexeme-9.ensures) c.alone-then-is_lexeme-9.ensures

pub returns-then-is_lexeme-10 : goal.returns-then-is_lexeme-10
returns-then-is_lexeme-10 c = alone_answers c.args.model.now End (lexeme_of c.args.first.now) (map lexeme_of c.args.rest.now) c.alone-then-is_lexeme-10.result tt (sym c.if-is_lexeme-10.ensures) c.alone-then-is_lexeme-10.ensures

pub returns-in_ok-read_formula : goal.returns-in_ok-read_formula
returns-in_ok-read_formula c =
    formula_answers c.args.model.now false (lexeme_of c.args.first.now) (map lexeme_of c.args.rest.now) (sym c.if-is_lexeme-2.ensures) c.in_ok-read_formula.field-0 (rw c.model.ensures at c.in_ok-read_formula.ensures.answer)

pub returns-in_ok-read_formula-2 : goal.returns-in_ok-read_formula-2
returns-in_ok-read_formula-2 c =
    formula_answers c.args.model.now true (lexeme_of c.args.first.now) (map lexeme_of c.args.rest.now) (sym c.if-is_lexeme-3.ensures) c.in_ok-read_formula-2.field-0 (rw c.model-then-is_lexeme-3.ensures at c.in_ok-read_formula-2.ensures.answer)

pub returns-in_err-read_formula : goal.returns-in_err-read_formula
returns-in_err-read_formula c =
    let h = rw c.model.ensures at c.in_err-read_formula.ensures.answer in
    let p = err_from_is_err_and c.from_residual.result c.from_residual.ensures.1 in
    rw (p.1, p.2) (formula_stops c.args.model.now false (lexeme_of c.args.first.now) (map lexeme_of c.args.rest.now) (sym c.if-is_lexeme-2.ensures) c.in_err-read_formula.field-0.0 h)

pub returns-in_err-read_formula-2 : goal.returns-in_err-read_formula-2
returns-in_err-read_formula-2 c =
    let h = rw c.model-then-is_lexeme-3.ensures at c.in_err-read_formula-2.ensures.answer in
    let p = err_from_is_err_and c.from_residual-in_err-read_formula-2.result c.from_residual-in_err-read_formula-2.ensures.1 in
    rw (p.1, p.2) (formula_stops c.args.model.now true (lexeme_of c.args.first.now) (map lexeme_of c.args.rest.now) (sym c.if-is_lexeme-3.ensures) c.in_err-read_formula-2.field-0.0 h)
