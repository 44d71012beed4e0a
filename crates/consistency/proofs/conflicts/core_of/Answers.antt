use Rattle.std.proofs.Common.{List, None, sym, subst}
use Rattle.cca_base.specs.declared.cube.Pair.{Pair}
use Rattle.clause_form.specs.Formulas.{AreClausesOf}
use Rattle.world_search.specs.declared.answer.Answer.TheVariants.{Agrees, Clash}
use Rattle.consistency.specs.Cores.{IsFitting}
use Rattle.consistency.proofs.Fitting.{fitting_core, fitting_shows}
use Rattle.consistency.proofs.conflicts.core_of.Goals as goal

pub returns-in-Agrees-clause-none : goal.returns-in-Agrees-clause-none
returns-in-Agrees-clause-none c _ =
    let m = c.args.rules.now.model.now in
    let of = subst (AreClausesOf m None None) (sym c.worlds.view_is) c.args.rules.now.of in
    fitting_shows m c.args.modes.now c.args.seen.now.pairs (subst (λ (ps : List Pair). IsFitting m ps c.args.seen.now.pairs None Agrees) c.as_slice.ensures.pairs
    (subst (λ (ps : List Pair). IsFitting m c.as_slice.result.now ps None Agrees) c.as_slice-2.ensures (c.in-Agrees.ensures.answer None of)))

pub returns-in-Clash-clause-some : goal.returns-in-Clash-clause-some
returns-in-Clash-clause-some c =
    let m = c.args.rules.now.model.now in
    let of = subst (AreClausesOf m None None) (sym c.worlds.view_is) c.args.rules.now.of in
    fitting_core m c.args.modes.now c.args.seen.now.pairs c.in-Clash.blamed (subst (λ (ps : List Pair). IsFitting m ps c.args.seen.now.pairs None (Clash c.in-Clash.blamed)) c.as_slice.ensures.pairs
    (subst (λ (ps : List Pair). IsFitting m c.as_slice.result.now ps None (Clash c.in-Clash.blamed)) c.as_slice-2.ensures (c.in-Clash.ensures.answer None of)))
