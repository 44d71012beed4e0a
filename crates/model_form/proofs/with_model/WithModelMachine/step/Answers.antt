use Rattle.std.proofs.Common.{subst}
use Rattle.std.specs.Prelude.{IfOk}
use Rattle.byte_buffer.specs.Outs.{Appended}
use Rattle.line_machine.specs.Next.{next_of}
use Rattle.model_form.specs.FormMachine.{FormSteps}
use Rattle.model_form.proofs.with_model.WithModelMachine.step.Goals as goal

pub returns-clause-steps : goal.returns-clause-steps
returns-clause-steps g c =
    subst (λ s. IfOk c.step_rarely.result (λ end. Appended (FormSteps g.F.ModelForm g.B.Machine s c.args.number c.args.line.now (next_of c.step_rarely.new.self end)) c.args.out.now c.step_rarely.new.out))
    c.self.view_is c.step_rarely.ensures.steps
