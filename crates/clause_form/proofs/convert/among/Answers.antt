use Rattle.std.proofs.Common.{◌≡◌, ℕ, ◌<◌, ◌++◌, ◌-◌, length, ap, ◌∙◌, slice_index, arith}
use Rattle.std.proofs.lemmas.Result.{IfOk-weaker}
use Rattle.cca_base.specs.Sets.{has}
use Rattle.clause_form.specs.Formulas.{agrees}
use Rattle.clause_form.proofs.Subjects.{at_subject, used_true, used_false}
use Rattle.clause_form.proofs.convert.among.Goals as goal
use Rattle.clause_form.proofs.convert.among.Goals.{then-wanted, else-wanted}

pub returns-clause-means : goal.returns-clause-means
returns-clause-means c =
    let subject = c.number-subject.result in
    let used : (m : ℕ) → m < c.get-size.result → has c.if-wanted.values m ≡ agrees c.args.wanted (has c.args.set m) = λ m n.
    elim c.if-wanted.branch [
      | then-wanted w ↦ used_true c.args.wanted c.args.set c.if-wanted.values _ _ c.get-size.result m w.if-wanted.true w.values-is (w.common-values.ensures.members m) (w.full.ensures.members m) n
      | else-wanted w ↦ used_false c.args.wanted c.args.set c.if-wanted.values _ m w.if-wanted.false w.values-is (w.complement-values.ensures m n)
    ] in
    IfOk-weaker c.single.result _ _
    (λ r h modes values e within.
    let place = ap (slice_index (modes ++ values)) c.number-subject.ensures.value ∙ at_subject c.args.components (length c.args.sizes.now - c.args.components) c.args.subject modes values c.requires.within e in
    h (modes ++ values) within ∙ (used (slice_index (modes ++ values) subject) (omega (arith, c.get-size.ensures.value, within.values subject (omega (arith, c.len.ensures, c.number-subject.ensures.inside)))) ∙ ap (λ (v : ℕ). agrees c.args.wanted (has c.args.set v)) place))
    c.single.ensures.met
