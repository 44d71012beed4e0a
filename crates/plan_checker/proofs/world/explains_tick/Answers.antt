use Rattle.std.proofs.Common.{ℕ, List, sym, subst}
use Rattle.cca_base.specs.declared.cube.Pair.{Pair}
use Rattle.cca_base.specs.State.{Extends}
use Rattle.cca_base.specs.Trace.{ExecutiveState}
use Rattle.plan_checker.proofs.WorldParts.{explains, agrees}
use Rattle.plan_checker.proofs.world.explains_tick.Goals as goal

pub returns-clause-explains : goal.returns-clause-explains
returns-clause-explains c =
    let m = c.args.rules.now.model.now in
    let x : ExecutiveState = c.args.standing.now in
    let s : List ℕ = c.args.state.now.modes in
    let w : List ℕ = c.args.world.now.values in
    let seen : List Pair = c.in_ok-seen.seen.pairs in (
      λ t. explains m x s w seen c.in_ok-seen.ensures (c.is_world.ensures.0 c.if-not-is_world.false)
          (subst (λ (l : List Pair). Extends w l) c.as_slice.ensures (subst (λ (l : List ℕ). Extends l c.as_slice.result.now) c.as_slice-2.ensures (c.stand_in.ensures.0 t))),
      λ h. c.stand_in.ensures.1
          (subst (λ (l : List ℕ). Extends l c.as_slice.result.now) (sym c.as_slice-2.ensures) (subst (λ (l : List Pair). Extends w l) (sym c.as_slice.ensures) (agrees m x s w seen c.in_ok-seen.ensures h))),
    )
