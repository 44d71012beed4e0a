use Rattle.std.proofs.Common.{◌≡◌, IfOk, subst}
use Rattle.line_machine.specs.IsDriven.{IsDriven}
use Rattle.line_machine.proofs.NotOpened.{not_opened, no_fault}
use Rattle.line_machine.proofs.opened.drive_opened.Goals as goal

pub returns-in-Ok-clause-driven : goal.returns-in-Ok-clause-driven
returns-in-Ok-clause-driven g c first is =
    let same : c.in-Ok.machine ≡ first = subst (λ r. IfOk r (λ m. m ≡ first)) c.in-Ok.is is in
    subst (λ s. IsDriven g.M.Machine s (g.I.Intake.left c.args.source.now) (g.I.Intake.left c.drive.new.source) (g.K.Sink.written c.args.sink.now) (g.K.Sink.written c.drive.new.sink) (g.I.Intake.calls c.args.source.now) (g.I.Intake.calls c.drive.new.source) c.drive.result) same
    (record { streamed = c.drive.ensures.streamed; order = c.drive.ensures.order; text = c.drive.ensures.text; ends = c.drive.ensures.ends })

pub returns-in-Err-clause-driven : goal.returns-in-Err-clause-driven
returns-in-Err-clause-driven g c first is = not_opened g.M.Machine first (g.I.Intake.left c.args.source.now) (g.K.Sink.written c.args.sink.now) (g.I.Intake.calls c.args.source.now)

pub returns-in-Err-clause-faults : goal.returns-in-Err-clause-faults
returns-in-Err-clause-faults g c = no_fault (g.I.Intake.faults c.args.source.now) (g.K.Sink.faults c.args.sink.now)
