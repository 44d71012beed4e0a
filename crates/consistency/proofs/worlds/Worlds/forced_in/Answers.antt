use Rattle.std.proofs.Common.{◌∙◌, ℕ, List, None, length, ap, subst, sym}
use Rattle.clause_form.specs.Formulas.{AreClausesOf}
use Rattle.consistency.specs.Search.{IsBackbone}
use Rattle.consistency.proofs.ForcedPairs.{forced_by, no_solution}
use Rattle.consistency.proofs.worlds.Worlds.forced_in.Goals as goal

pub put_first-requires-clause-some : goal.put_first-requires-clause-some
put_first-requires-clause-some c none =
    let m = c.args.model.now in
    let of = subst (AreClausesOf m None None) (sym c.self.view_is) c.requires.of in
    no_solution m c.args.state.now.modes c.self.inside.problem c.see_state.new.space.search.base.items of (rw (sym c.as_slice-modes.ensures) c.see_state.ensures.base) c.requires.state c.requires.world none

pub returns-clause-pairs : goal.returns-clause-pairs
returns-clause-pairs c =
    let m = c.args.model.now in
    let problem = c.self.inside.problem in
    let of = subst (AreClausesOf m None None) (sym c.self.view_is) c.requires.of in
    let found = subst (λ (b : List ℕ). IsBackbone problem.clauses b c.len-components.result c.args.vars c.backbone.new.pairs.items) c.put_first.ensures.base c.backbone.ensures.pairs in
    forced_by m c.args.state.now.modes problem _ _ c.args.vars _ of (rw (sym c.as_slice-modes.ensures) c.see_state.ensures.base)
    (c.len-components.ensures ∙ ap length c.components.ensures.value) c.requires.state c.requires.world found
