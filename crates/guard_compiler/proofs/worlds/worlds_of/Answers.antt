use Rattle.std.proofs.Common.{◌++◌, ◌∙◌, ℕ, List, length, filter, ap, subst, sym}
use Rattle.cca_base.specs.Model.{mode_counts, value_counts}
use Rattle.clause_form.specs.Clauses.{AllBelow}
use Rattle.guard_compiler.specs.Rules.{clauses_in, is_unowned}
use Rattle.guard_compiler.proofs.AskedOfState.{chosen_below}
use Rattle.guard_compiler.proofs.WorldsOfStates.{worlds_of_rules}
use Rattle.guard_compiler.proofs.worlds.worlds_of.Goals as goal

pub project-requires-clause-clauses : goal.project-requires-clause-clauses
project-requires-clause-clauses c =
    let m = c.args.model.now in
    let rules = c.args.rules.now in
    let below : AllBelow (length (mode_counts m ++ value_counts m)) (clauses_in (filter is_unowned rules)) = chosen_below (length (mode_counts m ++ value_counts m)) is_unowned rules c.requires.subjects in
    let here : AllBelow (length c.in_ok-sizes_of.field-0) (clauses_in (filter is_unowned rules)) = subst (λ (z : List ℕ). AllBelow (length z) (clauses_in (filter is_unowned rules))) (sym c.in_ok-sizes_of.ensures) below in
    subst (AllBelow (length c.in_ok-sizes_of.field-0)) (sym (c.in_ok-unowned_of.ensures ∙ ap (λ rs. clauses_in (filter is_unowned rs)) c.as_slice.ensures)) here

pub returns : goal.returns
returns c =
    worlds_of_rules c.args.model.now c.args.rules.now _ c.in_ok-states.states c.len.result (c.len.ensures ∙ ap length c.components.ensures.value) c.requires c.in_ok-sizes_of.ensures
    (c.in_ok-unowned_of.ensures ∙ ap (λ rs. clauses_in (filter is_unowned rs)) c.as_slice.ensures) c.in_ok-states.ensures.clauses c.in_ok-states.ensures.sizes c.in_ok-states.ensures.exact
