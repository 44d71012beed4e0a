use Rattle.std.proofs.Common.{◌≡◌, [], refl, sym, subst}
use Rattle.line_machine.specs.Next.{GoesOn}
use Rattle.model_form.specs.FormMachine.{FormSteps}
use Rattle.model_form.specs.FormStates.{Behind}
use Rattle.model_form.proofs.with_model.WithModelMachine.skips_empty.Goals as goal

pub returns-in-Behind-clause-skips : goal.returns-in-Behind-clause-skips
returns-in-Behind-clause-skips g c h n =
    let at : c.args.self.now ≡ Behind c.in-Behind.behind.value = cc in
    let lent : c.deref.result.now ≡ c.in-Behind.behind.value = cc in
    subst (λ s. FormSteps g.F.ModelForm g.B.Machine s n [] (GoesOn s) []) (sym at)
    (GoesOn c.in-Behind.behind.value, subst (λ b. g.B.Machine.steps b n [] (GoesOn b) []) lent (c.skips_empty.ensures.skips h n), refl)
