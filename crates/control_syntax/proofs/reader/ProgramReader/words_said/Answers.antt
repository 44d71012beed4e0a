use Rattle.std.proofs.Common.{◌≡◌, ◌∷◌, Some, None, Result, Err, ap, map, refl, subst, sym}
use Rattle.cca_base.specs.declared.events.Stop.{Stop}
use Rattle.cca_base.specs.Refusals.{Answers}
use Rattle.text_base.specs.Lexemes.{lexeme_of}
use Rattle.control_syntax.specs.declared.line.Line.{Line}
use Rattle.control_syntax.specs.Codes.{IsSaidHere}
use Rattle.control_syntax.specs.Reading.{Reading}
use Rattle.control_syntax.proofs.CodesHere.{code_here, refused_here, stopped_here, taken_here}
use Rattle.control_syntax.proofs.reader.ProgramReader.words_said.Goals as goal

pub returns-in-Some : goal.returns-in-Some
returns-in-Some c =
    let m = c.args.model.now in
    let code = subst (λ (r : Reading). Some c.in-Some.code ≡ code_here m r c.in-Ok.line) c.self.view_is (rw (c.as_slice-blocks.ensures.value, c.model.ensures) at c.in-Some.ensures) in
    rw c.refused.ensures (refused_here m c.args.self.now (lexeme_of c.args.first.now ∷ map lexeme_of c.args.rest.now) c.in-Ok.line c.in-Some.code c.in-Ok.ensures code, refl)

pub returns-in-None : goal.returns-in-None
returns-in-None c =
    let m = c.args.model.now in
    let code = subst (λ (r : Reading). None ≡ code_here m r c.in-Ok.line) c.self.view_is (rw (c.as_slice-blocks.ensures.value, c.model.ensures) at c.in-None.ensures) in
    taken_here m c.args.self.now (lexeme_of c.args.first.now ∷ map lexeme_of c.args.rest.now) c.in-Ok.line c.in-Ok.ensures code

pub returns-in-Err : goal.returns-in-Err
returns-in-Err c =
    let m = c.args.model.now in
    let ls = lexeme_of c.args.first.now ∷ map lexeme_of c.args.rest.now in
    let P : Stop → Type 0 = λ s. Answers (let x : Result Line Stop = Err s in x) (IsSaidHere m c.args.self.now ls) in
    subst P (sym c.stop_here.ensures) (stopped_here m c.args.self.now ls c.self.inside.started c.in-Err.stop (ap (λ (r : Reading). r.started) c.self.view_is) c.in-Err.ensures)
