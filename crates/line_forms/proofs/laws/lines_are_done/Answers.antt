use Rattle.line_forms.proofs.Done.{lines_are_done}
use Rattle.line_forms.proofs.laws.lines_are_done.Goals as goal

pub returns : goal.returns
returns g c = lines_are_done g.L.LineForm.means g.met.L.LineForm.said_one g.met.L.LineForm.serves_one
