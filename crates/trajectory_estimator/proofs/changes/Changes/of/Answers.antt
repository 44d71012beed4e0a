use Rattle.std.proofs.Common.{◌≤◌, ◌+◌, ◌∷◌, [], List, Option, ℕ, All, length, map, sym, ap, subst, ◌∙◌}
use Rattle.std.proofs.lemmas.List.{map-append}
use Rattle.cca_base.specs.declared.model.Component.{Component}
use Rattle.cca_base.specs.State.{IsState}
use Rattle.trajectory_estimator.specs.Changes.{AreNear}
use Rattle.trajectory_estimator.proofs.ChangeTables.{HaveBelow, near_state, tables_none, tables_more, tables_all}
use Rattle.trajectory_estimator.proofs.changes.Changes.of.Goals as goal

pub loop-mode-init : goal.loop-mode-init
loop-mode-init c = tables_none c.args.model.now (map (λ r. r.items) c.new-rows.result.items) (ap (map (λ r. r.items)) c.new-rows.ensures.items)

pub least_costs-requires : goal.least_costs-requires
least_costs-requires c =
    let m = c.args.model.now in
    let near = subst (λ (l : List Component). AreNear l c.loop-mode.mode c.in_ok-modes.modes) (c.as_slice-components.ensures ∙ c.components.ensures.value) c.in_ok-modes.ensures in
    subst (IsState m) (sym c.as_slice.ensures) (near_state m c.loop-mode.mode c.in_ok-modes.modes c.components.ensures.well_formed near)

pub loop-mode-preserved : goal.loop-mode-preserved
loop-mode-preserved c =
    let m = c.args.model.now in
    let near = subst (λ (l : List Component). AreNear l c.loop-mode.mode c.in_ok-modes.modes) (c.as_slice-components.ensures ∙ c.components.ensures.value) c.in_ok-modes.ensures in
    let own = subst (AreNear m.components c.loop-mode.mode) (sym c.as_slice.ensures) near in
    let rows = c.loop-mode.rows.items in
    let table = c.in_ok-least_costs.field-0 in
    let longer = ap (map (λ r. r.items)) c.in_ok-push.ensures.items ∙ map-append (λ r. r.items) rows (table ∷ []) in
    subst (λ (l : List (List (List (Option ℕ)))). HaveBelow m l (c.loop-mode.mode + 1)) (sym longer)
    (tables_more m (map (λ r. r.items) rows) c.loop-mode.mode c.as_slice.result.now table.items own c.in_ok-least_costs.ensures.sizes c.in_ok-least_costs.ensures.least c.loop-mode.invariant)

pub returns : goal.returns
returns c =
    let m = c.args.model.now in
    tables_all m (map (λ r. r.items) c.loop-mode.rows.items) c.loop-mode.mode c.most_modes-mode-end.result c.loop-mode-test.false
    (subst (All (λ (x : Component). length x.modes ≤ c.most_modes-mode-end.result)) (c.as_slice-components.ensures ∙ c.components.ensures.value) c.most_modes-mode-end.ensures.most)
    c.loop-mode.invariant
