use Rattle.std.proofs.Common.{◌≡◌, ◌∙◌, length, inl, inr, subst, slice_index, arith}
use Rattle.std.proofs.lemmas.Bool.{cases_lt}
use Rattle.cca_base.specs.Model.{IsInChain}
use Rattle.planner_step.specs.Served.{IsStuck}
use Rattle.conformance_plan.proofs.tabled.stays_stuck.Goals as goal

pub loop-c-preserved : goal.loop-c-preserved
loop-c-preserved c d within stuck = elim (cases_lt d c.loop-c.c) [
  | inl before ↦ c.loop-c.invariant d before stuck
  | inr last ↦
      let same : c.loop-c.c ≡ d = omega (arith, within, last) in
      let stays : IsStuck c.args.tables.now.classes c.args.to.now.modes c.loop-c.c → IsInChain c.args.tables.now.classes.compiled.model.moves c.loop-c.c
      (slice_index c.args.to.now.modes c.loop-c.c) (slice_index c.args.from.now.modes c.loop-c.c) = c.stays_on_chain.ensures c.if-not-stays_on_chain.false in
      subst (λ k. IsStuck c.args.tables.now.classes c.args.to.now.modes k → IsInChain c.args.tables.now.classes.compiled.model.moves k
      (slice_index c.args.to.now.modes k) (slice_index c.args.from.now.modes k)) same stays stuck
]

pub returns : goal.returns
returns c right d stuck =
    let same : c.len-c-end.result ≡ length c.args.tables.now.classes.compiled.model.components =
    c.len-c-end.ensures ∙ (λ i. length (c.components.ensures.value i)) ∙ (λ i. length ((c.model-model.ensures.value i).components))
    ∙ (λ i. length ((c.compiled.ensures.value i).model.components)) ∙ (λ i. length ((c.classes-classes.ensures.value i).compiled.model.components)) in
    c.loop-c.invariant d (omega (arith, stuck.within, c.loop-c-test.false, same)) stuck
