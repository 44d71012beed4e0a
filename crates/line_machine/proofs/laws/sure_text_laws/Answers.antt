use Rattle.line_machine.proofs.Fronts.{prints_so_far}
use Rattle.line_machine.proofs.RunsAreOne.{IsFixed}
use Rattle.line_machine.proofs.SureTextBegins.{sure_begins_text, sure_begins_sure, decided, sure_is_one, text_is_one, quiet_sure}
use Rattle.line_machine.proofs.laws.sure_text_laws.Goals as goal

pub returns : goal.returns
returns g c =
    let m = g.M.Machine in
    let fixed : IsFixed m = record { steps = g.met.M.Machine.steps_are_one; closes = g.met.M.Machine.closes_are_one } in
    record {
      begins_text = λ s a more x y t e. sure_begins_text m s fixed a more x y t e;
      begins_sure = λ s a more x y t u. sure_begins_sure m s fixed a more x y t u;
      decided = λ s a more x e. decided m s a more x e;
      one_sure = λ s a x y t u. sure_is_one m s fixed a x y t u;
      one_text = λ s a x y e f. text_is_one m s fixed a x y e f;
      quiet = λ s t a x quiet. quiet_sure m quiet s a x t;
      fronts = λ s by_lines. prints_so_far m s by_lines;
    }
