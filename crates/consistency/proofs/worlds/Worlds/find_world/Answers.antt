use Rattle.std.proofs.Common.{None, sym, subst}
use Rattle.clause_form.specs.Formulas.{AreClausesOf}
use Rattle.consistency.proofs.Answered.{fits_found}
use Rattle.consistency.proofs.worlds.Worlds.find_world.Goals as goal

pub returns : goal.returns
returns c =
    rw (sym c.as_slice.ensures.pairs, sym c.as_slice-2.ensures) (fits_found c.args.model.now c.as_slice.result.now c.as_slice-2.result.now c.first_found.result (c.first_found.ensures None (subst (AreClausesOf c.args.model.now None None) (sym c.self.view_is) c.requires.of)))
