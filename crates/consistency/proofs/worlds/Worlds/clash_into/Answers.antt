use Rattle.std.proofs.Common.{None, All, Contains, true, refl, subst, sym}
use Rattle.std.proofs.lemmas.Bool.{both_ways}
use Rattle.list_laws.proofs.Members.{all_from, from_filter}
use Rattle.cca_base.specs.declared.cube.Pair.{Pair}
use Rattle.cca_base.specs.Shown.{Clash}
use Rattle.clash_analysis.specs.Subjects.{is_in}
use Rattle.clause_form.specs.Formulas.{AreClausesOf}
use Rattle.consistency.specs.Cores.{IsCore, pairs_in}
use Rattle.consistency.proofs.Fitting.{fitting_core, fitting_shows, showable_fits}
use Rattle.consistency.proofs.MinimalConflict.{more_clash}
use Rattle.consistency.proofs.worlds.Worlds.clash_into.Goals as goal

pub returns-in-Agrees-clause-none : goal.returns-in-Agrees-clause-none
returns-in-Agrees-clause-none c =
    let m = c.args.model.now in
    let of = subst (AreClausesOf m None None) (sym c.self.view_is) c.requires.of in
    let shows = fitting_shows m c.args.modes.now c.args.seen.now (c.in-Agrees.ensures.answer None of) in
    ((λ e. shows), (λ s. refl))

-- what is written is a part of the modes, as all of a filtered list is
pub returns-in-Clash-clause-part : goal.returns-in-Clash-clause-part
returns-in-Clash-clause-part c _ =
    let set = c.in-Clash.blamed in
    let modes = c.args.modes.now in
    subst (All (Contains modes)) (sym c.write_in.ensures.items)
    (all_from (Contains modes) (pairs_in set modes) (λ q there. (from_filter (λ (p : Pair). is_in set p.item) modes q there).1))

pub returns-in-Clash-clause-clash : goal.returns-in-Clash-clause-clash
returns-in-Clash-clause-clash c _ =
    let m = c.args.model.now in
    let of = subst (AreClausesOf m None None) (sym c.self.view_is) c.requires.of in
    subst (Clash m c.args.seen.now) (sym c.write_in.ensures.items)
    (fitting_core m c.args.modes.now c.args.seen.now c.in-Clash.blamed (c.in-Clash.ensures.answer None of))

pub returns-in-Clash-clause-none : goal.returns-in-Clash-clause-none
returns-in-Clash-clause-none c =
    let m = c.args.model.now in
    let of = subst (AreClausesOf m None None) (sym c.self.view_is) c.requires.of in
    let set = c.in-Clash.blamed in
    let modes = c.args.modes.now in
    let core : IsCore m c.args.seen.now modes set = fitting_core m modes c.args.seen.now set (c.in-Clash.ensures.answer None of) in
    let all = more_clash m c.args.seen.now (pairs_in set modes) modes (λ q there. (from_filter (λ (p : Pair). is_in set p.item) modes q there).1) core in
    ((λ e. absurd (both_ways true e refl)), (λ shows. absurd (showable_fits m modes c.args.seen.now shows all)))
