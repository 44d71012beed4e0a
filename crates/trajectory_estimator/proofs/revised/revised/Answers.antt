use Rattle.std.proofs.Common.{◌≡◌, not, nat_eq, get_or, Some, inl, inr, refl, sym, ap, ◌∙◌, arith}
use Rattle.std.specs.Cmp.Lexicographic.{pointwise}
use Rattle.std.proofs.lemmas.Bool.{false≢true, not-false}
use Rattle.cca_base.specs.declared.state.State.{State}
use Rattle.trajectory_estimator.proofs.Revising.{alike_all, alike_further, modes_at, modes_decide}
use Rattle.trajectory_estimator.proofs.revised.revised.Goals as goal

pub returns-then-at-old : goal.returns-then-at-old
returns-then-at-old c = alike_all c.args.old.now c.args.new.now c.loop-at.at (inl (omega (arith, c.if-at-old.true))) c.loop-at.invariant

pub returns-then-ne : goal.returns-then-ne
returns-then-ne c =
    let at = c.loop-at.at in
    let old : State = get_or c.args.old.now at c.index-old-at.result in
    let new : State = c.index-new-at.result in (
      at,
      old.modes,
      new.modes,
      refl,
      modes_at c.args.old.now at c.index-old-at.result (omega (arith, c.if-at-old.false)),
      modes_at c.args.new.now at new c.loop-at-test.true ∙ ap (λ (s : State). Some s.modes) (sym c.index-new-at.is),
      λ same. false≢true (sym (ap not ((modes_decide c.as_slice.result.now c.as_slice-in-loop-at.result.now).1
          (c.as_slice.ensures ∙ same ∙ sym c.as_slice-in-loop-at.ensures))) ∙ (sym c.ne.ensures ∙ c.if-ne.true)),
      c.loop-at.invariant,
    )

pub loop-at-preserved : goal.loop-at-preserved
loop-at-preserved c =
    let at = c.loop-at.at in
    let old : State = get_or c.args.old.now at c.index-old-at.result in
    let new : State = c.index-new-at.result in
    let same : old.modes ≡ new.modes = sym c.as_slice.ensures
    ∙ (modes_decide c.as_slice.result.now c.as_slice-in-loop-at.result.now).0 (not-false (pointwise nat_eq c.as_slice.result.now c.as_slice-in-loop-at.result.now) (sym c.ne.ensures ∙ c.if-ne.false))
    ∙ c.as_slice-in-loop-at.ensures in
    alike_further c.args.old.now c.args.new.now at old.modes new.modes c.loop-at.invariant (modes_at c.args.old.now at c.index-old-at.result (omega (arith, c.if-at-old.false)))
    (modes_at c.args.new.now at new c.loop-at-test.true ∙ ap (λ (s : State). Some s.modes) (sym c.index-new-at.is)) same

pub returns : goal.returns
returns c = alike_all c.args.old.now c.args.new.now c.loop-at.at (inr (omega (arith, c.loop-at-test.false))) c.loop-at.invariant
