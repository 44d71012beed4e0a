use Rattle.line_machine.proofs.RunsAreOne.{IsFixed}
use Rattle.line_machine.proofs.KnownInputs.{streamed, told_tells, told_ends}
use Rattle.line_machine.proofs.driver.drive.Goals as goal

pub returns : goal.returns
returns g c =
    let m = g.M.Machine in
    let fixed : IsFixed m = record { steps = g.met.M.Machine.steps_are_one; closes = g.met.M.Machine.closes_are_one } in
    record {
      streamed = streamed m c.args.machine.now fixed _ _ _ _ c.drive_lines.result c.drive_lines.ensures.driven.driven;
      order = c.drive_lines.ensures.driven;
      text = told_tells m c.args.machine.now fixed _ _ _ _ c.drive_lines.result c.drive_lines.ensures.driven.driven;
      ends = told_ends m c.args.machine.now fixed _ _ _ c.drive_lines.result (told_tells m c.args.machine.now fixed _ _ _ _ c.drive_lines.result c.drive_lines.ensures.driven.driven);
      faults = c.drive_lines.ensures.faults;
    }
