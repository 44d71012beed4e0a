use Rattle.std.proofs.Common.{◌≤◌, length, sym, subst, arith}
use Rattle.cca_base.specs.Model.{IsComponent}
use Rattle.cca_base.specs.declared.limits.TheConstants.{MAX_CHOICES}
use Rattle.trajectory_estimator.proofs.ChangeTables.{most_more, most_all}
use Rattle.trajectory_estimator.proofs.changes.most_modes.Goals.{then-count-most, else-count-most}
use Rattle.trajectory_estimator.proofs.changes.most_modes.Goals as goal

pub loop-component-preserved : goal.loop-component-preserved
loop-component-preserved c =
    let x = c.component-item.result in
    let i = c.loop-component.component-index in
    let fits : IsComponent x = subst IsComponent (sym c.component-item.is) (c.requires i x c.loop-component-test.true) in
    let few : length x.modes ≤ MAX_CHOICES = fits.modes.few in
    let up : c.loop-component.most ≤ c.if-count-most.most = elim c.if-count-most.branch [
      | then-count-most w ↦ omega (arith, w.most-is, w.if-count-most.true)
      | else-count-most w ↦ omega (arith, w.most-is)
    ] in
    let own : length x.modes ≤ c.if-count-most.most = elim c.if-count-most.branch [
      | then-count-most w ↦ omega (arith, w.most-is, c.len-count.ensures)
      | else-count-most w ↦ omega (arith, w.most-is, w.if-count-most.false, c.len-count.ensures)
    ] in
    let below : c.if-count-most.most ≤ MAX_CHOICES = elim c.if-count-most.branch [
      | then-count-most w ↦ omega (arith, w.most-is, c.len-count.ensures, few)
      | else-count-most w ↦ omega (arith, w.most-is, c.loop-component.invariant.few)
    ] in
    record {
      few = below;
      most = most_more c.args.components.now i c.loop-component.most c.if-count-most.most x c.loop-component-test.true c.component-item.is c.loop-component.invariant.most up own;
    }

pub returns-clause-most : goal.returns-clause-most
returns-clause-most c = most_all c.args.components.now c.loop-component.component-index c.loop-component.most c.loop-component-test.false c.loop-component.invariant.most
