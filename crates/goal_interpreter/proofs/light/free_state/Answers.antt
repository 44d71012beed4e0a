use Rattle.std.proofs.Common.{◌≡◌, ◌+◌, ◌∙◌, ℕ, length, sym, ap, subst, arith}
use Rattle.std.proofs.lemmas.List.{length_push}
use Rattle.reversibility.specs.ClassParts.{in_row}
use Rattle.goal_interpreter.specs.Choosing.{AreFreeModes, IsFreeMode}
use Rattle.goal_interpreter.proofs.LightModes.{free_is_lightest, one_more_free}
use Rattle.goal_interpreter.proofs.light.free_state.Goals as goal

pub loop-c-preserved : goal.loop-c-preserved
loop-c-preserved c =
    let m = c.args.classes.now.compiled.model in
    let member = in_row c.args.classes.now.rows in
    let modes = c.loop-c.modes in
    let x : ℕ = c.free_mode.result in (
      ap length c.in_ok-push.ensures.ok ∙ length_push modes x ∙ ap (λ n. n + 1) c.loop-c.invariant.0,
      subst (AreFreeModes m member c.args.weights.now.rows c.args.state.now.modes) (sym c.in_ok-push.ensures.ok)
          (one_more_free m member c.args.weights.now.rows c.args.state.now.modes modes x c.loop-c.invariant.1
          (subst (λ d. IsFreeMode m member c.args.weights.now.rows c.args.state.now.modes d x) (sym c.loop-c.invariant.0) c.free_mode.ensures)),
    )

pub returns : goal.returns
returns c =
    let m = c.args.classes.now.compiled.model in
    let all = c.len-c-end.ensures ∙ ap length (c.components-components.ensures.value ∙ ap (λ z. z.components) (c.model.ensures.value ∙ ap (λ z. z.model) c.compiled.ensures.value)) in
    let at_end : c.loop-c.c ≡ c.len-c-end.result = omega (arith, c.loop-c-test.false, c.loop-c.auto.c-end) in
    free_is_lightest m (in_row c.args.classes.now.rows) c.args.weights.now.rows c.args.state.now.modes c.loop-c.modes (c.loop-c.invariant.0 ∙ at_end ∙ all) c.loop-c.invariant.1
