use Rattle.std.proofs.Common.{eqb, sym, refl, ◌∙◌}
use Rattle.std.proofs.lemmas.Bool.{eq-eqb, or_left, or_right}
use Rattle.clash_analysis.specs.Subjects.{is_in}
use Rattle.clash_analysis.proofs.ClashLaws.{back_other, back_resolved, blamed_assumed, blamed_other}
use Rattle.clash_analysis.proofs.blaming.take_back.Goals as goal
use Rattle.clash_analysis.proofs.blaming.take_back.Goals.{in-Assumed, in_default}

pub returns-after-e-clause-clash : goal.returns-after-e-clause-clash
returns-after-e-clause-clash c want pairs trail plain clash =
    back_resolved want pairs c.args.start.now trail c.args.dom.now c.args.learn.now c.args.e.now (is_in c.args.blamed.now) clash c.resolve.new.learn (is_in c.match-e.blamed) c.resolve.ensures
    (elim c.match-e.branch [
      | in-Assumed w ↦ rw w.blamed-is (λ v is. w.with_subject.ensures v ∙ or_right (eqb v c.args.e.now.subject) (is_in c.args.blamed.now v) is)
      | in_default w ↦ rw w.blamed-is (λ v is. is)
    ])
    (elim c.match-e.branch [
      | in-Assumed w ↦ rw w.blamed-is
          (blamed_assumed (is_in w.with_subject.result) c.args.e.now.subject c.args.e.now.why (sym w.in-Assumed.is)
          (w.with_subject.ensures c.args.e.now.subject ∙ or_left (eqb c.args.e.now.subject c.args.e.now.subject) (is_in c.args.blamed.now c.args.e.now.subject) (eq-eqb c.args.e.now.subject c.args.e.now.subject refl)))
      | in_default w ↦ blamed_other (is_in c.match-e.blamed) c.args.e.now.subject c.args.e.now.why (plain c.if-learn-u-ne0.true) w.in_default.not-Assumed
    ])

pub returns-else-learn-u-ne0-clause-clash : goal.returns-else-learn-u-ne0-clause-clash
returns-else-learn-u-ne0-clause-clash c want pairs trail plain clash =
    back_other want pairs c.args.start.now trail c.args.dom.now c.args.learn.now c.args.e.now (is_in c.args.blamed.now) clash c.if-learn-u-ne0.false
