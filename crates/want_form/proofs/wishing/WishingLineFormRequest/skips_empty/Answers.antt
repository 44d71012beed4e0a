use Rattle.std.proofs.Common.{refl, subst}
use Rattle.cca_base.specs.Accepted.{IsCompiled}
use Rattle.want_form.specs.WishMachine.{WishState}
use Rattle.want_form.proofs.wishing.WishingLineFormRequest.skips_empty.Goals as goal

pub returns : goal.returns
returns c skips = (subst (λ (z : WishState). IsCompiled z.compiled) c.self.view_is (subst IsCompiled c.deref.ensures c.model-model.ensures.compiled), refl)
