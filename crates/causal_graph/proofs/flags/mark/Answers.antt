use Rattle.std.proofs.Common.{◌<◌, All, subst, arith}
use Rattle.std.proofs.lemmas.List.{take_all}
use Rattle.std.proofs.lemmas.List.Elements.{All-from_get_or}
use Rattle.cca_base.specs.declared.limits.TheConstants.{MAX_ROWS}
use Rattle.causal_graph.specs.Search.{Marks}
use Rattle.causal_graph.proofs.FlagLaws.{marked_none, marked_new, marked_old, marks_narrow}
use Rattle.causal_graph.proofs.flags.mark.Goals.{then-not-flags-at, else-not-flags-at}
use Rattle.causal_graph.proofs.flags.mark.Goals as goal

pub loop-u-init : goal.loop-u-init
loop-u-init c = marked_none c.args.row.now c.args.flags.now

pub loop-u-preserved : goal.loop-u-preserved
loop-u-preserved c =
    elim c.if-not-flags-at.branch [
      | then-not-flags-at w ↦ rw (w.flags-is, w.fresh-is) (marked_new c.args.row.now c.args.flags.now c.loop-u.flags c.loop-u.fresh c.loop-u.u-index c.loop-u.invariant c.loop-u-test.true (omega (arith, c.requires c.loop-u.u-index 0 c.loop-u-test.true, c.loop-u.auto.flags)) w.if-not-flags-at.true)
      | else-not-flags-at w ↦ rw (w.flags-is, w.fresh-is) (marked_old c.args.row.now c.args.flags.now c.loop-u.flags c.loop-u.fresh c.loop-u.u-index c.loop-u.invariant c.loop-u-test.true w.if-not-flags-at.false)
    ]

module _ (c : goal.After-loop-u) where
  marks : Marks c.args.row.now c.args.flags.now c.loop-u.flags
  marks = subst (λ seen. Marks seen c.args.flags.now c.loop-u.flags) (take_all c.loop-u.u-index c.args.row.now (omega arith)) c.loop-u.invariant.marks

pub returns-clause-marks : goal.returns-clause-marks
returns-clause-marks c = marks c

pub returns-clause-fresh : goal.returns-clause-fresh
returns-clause-fresh c = c.loop-u.invariant.fresh_is

pub returns-clause-narrow : goal.returns-clause-narrow
returns-clause-narrow c =
    let small : All (λ u. u < MAX_ROWS) c.args.row.now = All-from_get_or (λ u. u < MAX_ROWS) c.args.row.now 0 (λ i within. omega (arith, c.type_inv.row i)) in
    marks_narrow c.args.row.now c.args.flags.now c.loop-u.flags small (marks c)
