use Rattle.std.proofs.Common.{List, ℕ, subst}
use Rattle.group_search.specs.Bounds.{IsOpen}
use Rattle.group_search.specs.Questions.{in_group}
use Rattle.group_search.specs.declared.choose.Choice.{Choice}
use Rattle.group_search.proofs.ChooseLaws.{is_at, is_some}
use Rattle.group_search.proofs.choose.choose.Goals.{in-Some+in-Some-choice_in+in-Some-best, in-Some+in-Some-choice_in+in_default-best-2, in-Some+in-Some-choice_in+in_default-best, in_default}
use Rattle.group_search.proofs.choose.choose.Goals as goal

pub loop-at-init : goal.loop-at-init
loop-at-init g c = tt

pub loop-at-preserved : goal.loop-at-preserved
loop-at-preserved g c =
    let q = g.P.Paths.means.question c.args.problem.now in
    let work = c.args.work.now in
    let opens : List ℕ → Choice → Type 0 = λ names x. IsOpen q (in_group names c.args.group) work.boxed.masks x.pair in
    let best = c.match-held_cut.best in
    elim c.match-held_cut.branch [
      | in-Some+in-Some-choice_in+in-Some-best w ↦
          is_some (opens work.names) best w.in-Some-best.other w.best-is (is_at (opens work.names) c.loop-at.best w.in-Some-best.other w.in-Some-best.is c.loop-at.invariant)
      | in-Some+in-Some-choice_in+in_default-best-2 w ↦
          is_some (opens work.names) best w.in-Some-choice_in.choice w.best-is (subst (λ names. opens names w.in-Some-choice_in.choice) c.as_slice-names.ensures w.in-Some-choice_in.ensures.some)
      | in-Some+in-Some-choice_in+in_default-best w ↦
          is_some (opens work.names) best w.in-Some-choice_in.choice w.best-is (subst (λ names. opens names w.in-Some-choice_in.choice) c.as_slice-names.ensures w.in-Some-choice_in.ensures.some)
      | in_default w ↦ rw w.best-is c.loop-at.invariant
    ]

pub returns-in-Some-best-2 : goal.returns-in-Some-best-2
returns-in-Some-best-2 g c = rw c.in-Some-best-2.is at c.loop-at.invariant
