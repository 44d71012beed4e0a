use Rattle.std.proofs.Common.{◌∙◌, refl, ℕ, List, [], Some, length, get_or, sym, ap, subst, arith}
use Rattle.cca_base.specs.Choices.{IsRow}
use Rattle.cca_base.specs.declared.choice.Choice.{Choice}
use Rattle.cca_base.proofs.PathLaws.{length-numbers}
use Rattle.mode_estimator.proofs.TickColumns.{nothing, PaysOther, is_column, keeps_others, no_column, none_other, other_pays}
use Rattle.mode_estimator.proofs.tick.TickPathsTickSpace.column.Goals as goal
use Rattle.mode_estimator.proofs.tick.TickPathsTickSpace.column.Goals.{in-None, in-Some-next_in}

pub bounds-masks-at : goal.bounds-masks-at
bounds-masks-at c = omega (arith, c.requires.component, c.requires.masks, length-numbers (length c.args.self.now.rows.now.rows))

pub returns-in_default-clause-none : goal.returns-in_default-clause-none
returns-in_default-clause-none c = λ e.
    no_column c.args.self.now c.args.component c.requires.component c.args.masks.now [] c.get-row.result.now c.get-row.ensures.row c.in_default.ensures

pub bounds-masks-at-2 : goal.bounds-masks-at-2
bounds-masks-at-2 c = omega (arith, c.requires.component, c.requires.masks, length-numbers (length c.args.self.now.rows.now.rows))

pub returns-clause-others : goal.returns-clause-others
returns-clause-others c =
    let x : Choice = get_or c.get-row.result.now c.in-Some.first nothing in
    keeps_others c.args.self.now c.args.component c.requires.component x.mode x.cost c.match-next_in-2.price c.args.columns.now
    (record { values = c.set.new.self; prices = c.set-2.new.self; costs = c.set-3.new.self; behind = c.args.columns.now.behind; before = c.args.columns.now.before }) c.requires.shape
    (record { values = c.set.ensures; prices = c.set-2.ensures; costs = c.set-3.ensures; behind = refl; before = refl })

pub returns-clause-stands : goal.returns-clause-stands
returns-clause-stands c = λ e.
    let row : List Choice = c.get-row.result.now in
    let first : ℕ = c.in-Some.first in
    let mask : ℕ = get_or c.args.masks.now c.args.component 0 in
    let found = c.in-Some.ensures in
    let pays : IsRow row → PaysOther row mask first c.match-next_in-2.price = λ is. elim c.match-next_in-2.branch [
      | in-None w ↦ subst (PaysOther row mask first) (sym w.price-is) (none_other row mask first is found.3 w.in-None.ensures)
      | in-Some-next_in w ↦
          let next = w.in-Some-next_in.ensures in
          subst (PaysOther row mask first) (sym (w.price-is ∙ ap Some w.saturating_sub.ensures)) (other_pays row mask first is found.3 w.in-Some-next_in.next next.3 next.0 next.1)
    ] in
    is_column c.args.self.now c.args.component c.requires.component c.args.masks.now [] row c.get-row.ensures.row first c.match-next_in-2.price c.args.columns.now
    (record { values = c.set.new.self; prices = c.set-2.new.self; costs = c.set-3.new.self; behind = c.args.columns.now.behind; before = c.args.columns.now.before }) c.requires.shape
    (record { values = c.set.ensures; prices = c.set-2.ensures; costs = c.set-3.ensures; behind = refl; before = refl }) found pays
