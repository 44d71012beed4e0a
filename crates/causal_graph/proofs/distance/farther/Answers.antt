use Rattle.std.proofs.Common.{◌≡◌, ◌<◌, ◌+◌, ◌⊎◌, ℕ, [], get_or, slice_index, Contains, inl, inr, refl, sym, subst, ◌∙◌, arith}
use Rattle.std.proofs.lemmas.Bool.{both_ways}
use Rattle.std.proofs.lemmas.Option.{get_or_from_slice_get}
use Rattle.causal_graph.proofs.DistanceRound.{farther_none, farther_all, farther_yes, farther_no}
use Rattle.causal_graph.proofs.distance.farther.Goals.{then-distances-v-eq0+then-leads_to, else-distances-v-eq0, else-distances-v-eq0-via-then-distances-v-eq0+else-leads_to, else-distances-v-eq0-via-else-distances-v-eq0}
use Rattle.causal_graph.proofs.distance.farther.Goals as goal

pub loop-v-init : goal.loop-v-init
loop-v-init c = farther_none c.args.needs.now c.args.level c.args.distances.now

pub loop-v-preserved : goal.loop-v-preserved
loop-v-preserved c =
    let rows = c.args.needs.now in
    let level = c.args.level in
    let old = c.args.distances.now in
    let now = c.loop-v.distances in
    let i = c.loop-v.v in
    elim c.if-distances-v-eq0.branch [
      | then-distances-v-eq0+then-leads_to w ↦
          let row : get_or rows i [] ≡ w.as_slice.result.now = get_or_from_slice_get rows i w.get.result.now [] w.get.ensures.value ∙ sym w.as_slice.ensures in
          rw (w.distances-is, w.found-is) (farther_yes rows level old now c.loop-v.found i c.loop-v.invariant c.requires.positive (level + 1) refl
          (omega (arith, c.loop-v-test.true, c.loop-v.auto.distances, c.requires.full, c.len-v-end.ensures)) w.if-distances-v-eq0.true
          (let leads = w.leads_to.ensures.0 w.if-leads_to.true in (leads.0, subst (λ r. Contains r leads.0) (sym row) leads.1, leads.2)))
      | else-distances-v-eq0 w ↦
          let why : (0 < slice_index now i) ⊎ ((u : ℕ) → Contains (get_or rows i []) u → slice_index now u ≡ level → ⊥) =
          elim w.else-distances-v-eq0.branch [
            | else-distances-v-eq0-via-then-distances-v-eq0+else-leads_to w2 ↦
                let row : get_or rows i [] ≡ w2.as_slice.result.now = get_or_from_slice_get rows i w2.get.result.now [] w2.get.ensures.value ∙ sym w2.as_slice.ensures in
                inr (λ u among at. both_ways w2.leads_to.result w2.if-leads_to.false (w2.leads_to.ensures.1 (u, (subst (λ r. Contains r u) row among), at)))
            | else-distances-v-eq0-via-else-distances-v-eq0 w2 ↦ inl (omega (arith, w2.if-distances-v-eq0.false))
          ]
          in
          rw (w.distances-is, w.found-is) (farther_no rows level old now c.loop-v.found i c.loop-v.invariant c.requires.positive why)
    ]

pub returns-clause-step : goal.returns-clause-step
returns-clause-step c = farther_all c.args.needs.now c.args.level c.args.distances.now c.loop-v.distances c.loop-v.found c.loop-v.v (omega (arith, c.len-v-end.ensures)) c.loop-v.invariant

pub returns-clause-fewer : goal.returns-clause-fewer
returns-clause-fewer c = c.loop-v.invariant.fewer
