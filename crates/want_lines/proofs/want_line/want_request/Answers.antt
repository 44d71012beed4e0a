use Rattle.std.proofs.Common.{map, Ok}
use Rattle.text_base.specs.Lexemes.{lexeme_of}
use Rattle.want_lines.proofs.RequestsOfWords.{says_wanted, wanted_stop}
use Rattle.want_lines.proofs.want_line.want_request.Goals as goal

pub returns-in-Err : goal.returns-in-Err
returns-in-Err c = wanted_stop c.args.model.now (map lexeme_of c.args.rest.now) c.in-Err.stop (rw c.model.ensures at c.in-Err.ensures.answer)

pub returns-in-Ok : goal.returns-in-Ok
returns-in-Ok c = says_wanted c.args.model.now (map lexeme_of c.args.rest.now) (Ok c.in-Ok.formula) (rw c.model.ensures at c.in-Ok.ensures.answer)
