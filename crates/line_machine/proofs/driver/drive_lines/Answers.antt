use Rattle.line_machine.proofs.NotOpened.{no_order}
use Rattle.line_machine.proofs.driver.drive_lines.Goals as goal

pub returns-in_default-clause-driven : goal.returns-in_default-clause-driven
returns-in_default-clause-driven g c = no_order g.M.Machine c.args.machine.now (g.I.Intake.left c.args.source.now) (g.K.Sink.written c.args.sink.now) (g.I.Intake.calls c.args.source.now)

pub returns-in_default-with_capacity-clause-driven : goal.returns-in_default-with_capacity-clause-driven
returns-in_default-with_capacity-clause-driven g c = no_order g.M.Machine c.args.machine.now (g.I.Intake.left c.args.source.now) (g.K.Sink.written c.args.sink.now) (g.I.Intake.calls c.args.source.now)
