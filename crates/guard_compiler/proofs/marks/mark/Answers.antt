use Rattle.std.proofs.Common.{◌≡◌, ◌<◌, ◌≤◌, ◌∙◌, true, All, length, subst, sym, arith}
use Rattle.std.proofs.lemmas.List.{take_all}
use Rattle.clause_form.specs.declared.clause.Literal.{Literal}
use Rattle.cca_base.specs.Flags.{is_set}
use Rattle.guard_compiler.proofs.MarkLaws.{marked_new, marked_old}
use Rattle.guard_compiler.proofs.marks.mark.Goals.{then-literal-components+then-not-marks-at, else-literal-components, else-literal-components-via-then-literal-components+else-not-marks-at, else-literal-components-via-else-literal-components}
use Rattle.guard_compiler.proofs.marks.mark.Goals as goal

pub loop-literal-preserved : goal.loop-literal-preserved
loop-literal-preserved c =
    let n = c.args.components in
    let literals = c.as_slice-literal-items.result.now in
    let old = c.args.marks.now in
    let now = c.loop-literal.marks in
    let i = c.loop-literal.literal-index in
    let l = c.literal-item.result in
    elim c.if-literal-components.branch [
      | then-literal-components+then-not-marks-at w ↦ rw (w.marks-is, w.fresh-is) (marked_new n literals old now c.loop-literal.fresh i l c.loop-literal.invariant c.loop-literal-test.true c.literal-item.is w.if-literal-components.true
          (let items = c.as_slice-literal-items.ensures in let below : l.subject < length old = subst (λ (z : Literal). z.subject < length old) (sym c.literal-item.is) ((subst (All (λ (z : Literal). z.subject < length old)) (sym items) c.requires) i l c.loop-literal-test.true) in omega (arith, below, c.loop-literal.auto.marks)) w.if-not-marks-at.true)
      | else-literal-components w ↦ elim w.else-literal-components.branch [
        | else-literal-components-via-then-literal-components+else-not-marks-at w2 ↦ rw (w.marks-is, w.fresh-is) (marked_old n literals old now c.loop-literal.fresh i l c.loop-literal.invariant c.loop-literal-test.true c.literal-item.is (λ v. w2.if-not-marks-at.false))
        | else-literal-components-via-else-literal-components w2 ↦ rw (w.marks-is, w.fresh-is) (marked_old n literals old now c.loop-literal.fresh i l c.loop-literal.invariant c.loop-literal-test.true c.literal-item.is (λ v. absurd (omega (arith, w2.if-literal-components.false))))
      ]
    ]

pub returns-clause-over : goal.returns-clause-over
returns-clause-over c =
    let P : Literal → Type 0 = λ l. c.args.components ≤ l.subject → is_set c.loop-literal.marks l.subject ≡ true in
    subst (All P) (take_all c.loop-literal.literal-index c.as_slice-literal-items.result.now c.loop-literal-test.false ∙ c.as_slice-literal-items.ensures) c.loop-literal.invariant.over
