use Rattle.std.proofs.Common.{Some, subst, sym}
use Rattle.control_syntax.specs.Kept.{MayRunSoFar}
use Rattle.control_syntax.proofs.CodesHere.{room_here}
use Rattle.control_syntax.proofs.SoundLines.{led_sound}
use Rattle.control_syntax.proofs.reader.ProgramReader.line_named.Goals as goal

pub take-requires : goal.take-requires
take-requires c = room_here c.args.model.now c.args.self.now c.args.text.now c.in-Some.line (rw c.in-Some.is at c.in_ok-line.ensures)

pub returns-in-Ok-clause-kept : goal.returns-in-Ok-clause-kept
returns-in-Ok-clause-kept c = λ h.
    let said = rw c.in-Some.is at c.in_ok-line.ensures in
    subst (MayRunSoFar c.args.model.now) (sym c.in-Ok.ensures.ok.1) (led_sound c.args.model.now c.args.self.now c.args.text.now (Some c.in-Some.line) said h)
