use Rattle.std.proofs.Common.{List, None, All, Contains, true, refl, subst, sym}
use Rattle.std.proofs.lemmas.Bool.{both_ways}
use Rattle.list_laws.proofs.Members.{all_from, from_filter}
use Rattle.cca_base.specs.declared.cube.Pair.{Pair}
use Rattle.cca_base.specs.Shown.{Clash}
use Rattle.clash_analysis.specs.Subjects.{is_in}
use Rattle.clause_form.specs.Formulas.{AreClausesOf}
use Rattle.world_search.specs.declared.answer.Answer.TheVariants as answers
use Rattle.consistency.specs.Cores.{IsCore, IsFitting, pairs_in}
use Rattle.consistency.proofs.Fitting.{fitting_core, fitting_shows, showable_fits}
use Rattle.consistency.proofs.MinimalConflict.{more_clash}
use Rattle.consistency.proofs.worlds.Worlds.clash_among.Goals as goal

pub returns-in-Agrees-clause-none : goal.returns-in-Agrees-clause-none
returns-in-Agrees-clause-none c =
    let m = c.args.model.now in
    let of = subst (AreClausesOf m None None) (sym c.self.view_is) c.requires.of in
    let shows = fitting_shows m c.args.modes.now c.args.seen.now.pairs
    (subst (λ (ps : List Pair). IsFitting m c.args.modes.now ps None answers.Agrees) c.as_slice.ensures (c.in-Agrees.ensures.answer None of)) in
    ((λ e. shows), (λ s. refl))

-- the cube is a part of the modes, as all of a filtered list is
pub returns-in_ok-cube_in-in-Clash-clause-part : goal.returns-in_ok-cube_in-in-Clash-clause-part
returns-in_ok-cube_in-in-Clash-clause-part c =
    let set = c.in-Clash.blamed in
    let modes = c.args.modes.now in
    subst (All (Contains modes)) (sym c.in_ok-cube_in-in-Clash.ensures)
    (all_from (Contains modes) (pairs_in set modes) (λ q there. (from_filter (λ (p : Pair). is_in set p.item) modes q there).1))

pub returns-in_ok-cube_in-in-Clash-clause-clash : goal.returns-in_ok-cube_in-in-Clash-clause-clash
returns-in_ok-cube_in-in-Clash-clause-clash c =
    let m = c.args.model.now in
    let of = subst (AreClausesOf m None None) (sym c.self.view_is) c.requires.of in
    let set = c.in-Clash.blamed in
    subst (Clash m c.args.seen.now.pairs) (sym c.in_ok-cube_in-in-Clash.ensures) (fitting_core m c.args.modes.now c.args.seen.now.pairs set
    (subst (λ (ps : List Pair). IsFitting m c.args.modes.now ps None (answers.Clash set)) c.as_slice.ensures (c.in-Clash.ensures.answer None of)))

pub returns-in_ok-cube_in-in-Clash-clause-none : goal.returns-in_ok-cube_in-in-Clash-clause-none
returns-in_ok-cube_in-in-Clash-clause-none c =
    let m = c.args.model.now in
    let of = subst (AreClausesOf m None None) (sym c.self.view_is) c.requires.of in
    let set = c.in-Clash.blamed in
    let modes = c.args.modes.now in
    let core : IsCore m c.args.seen.now.pairs modes set = fitting_core m modes c.args.seen.now.pairs set
    (subst (λ (ps : List Pair). IsFitting m modes ps None (answers.Clash set)) c.as_slice.ensures (c.in-Clash.ensures.answer None of)) in
    let all = more_clash m c.args.seen.now.pairs (pairs_in set modes) modes (λ q there. (from_filter (λ (p : Pair). is_in set p.item) modes q there).1) core in
    ((λ e. absurd (both_ways true e refl)), (λ shows. absurd (showable_fits m modes c.args.seen.now.pairs shows all)))
