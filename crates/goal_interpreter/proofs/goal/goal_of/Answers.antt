use Rattle.std.proofs.Common.{◌≡◌, ◌<◌, ◌≤◌, ◌∙◌, List, length, slice_get, Some, sym, ap, subst, arith}
use Rattle.std.proofs.lemmas.Option.{get_or_from_slice_get}
use Rattle.cca_base.specs.Model.{is_broken}
use Rattle.wish_laws.proofs.SoundGoals.{goal_is, order_place, pair_more, pair_skip}
use Rattle.goal_interpreter.proofs.goal.goal_of.Goals.{then-not-broken+in_ok-push, else-not-broken}
use Rattle.goal_interpreter.proofs.goal.goal_of.Goals as goal

pub get-value-requires : goal.get-value-requires
get-value-requires c =
    let b = c.args.compiled.now in
    let t = c.args.state.now.modes in
    let at = subst (λ (l : List _). slice_get l c.loop-i.i ≡ Some c.get-item.result.now) c.order-order.ensures.value c.get-item.ensures.value in
    subst (λ n. c.get-item.result.now < n) (sym c.requires.full) (order_place b c.order-order.ensures.compiled.order t c.loop-i.i c.get-item.result.now at)

pub loop-i-preserved : goal.loop-i-preserved
loop-i-preserved c =
    let b = c.args.compiled.now in
    let t = c.args.state.now.modes in
    let item = c.get-item.result.now in
    let value = c.get-value.result.now in
    let ordered = c.order-order.ensures.compiled.order in
    let at : slice_get b.order c.loop-i.i ≡ Some item = subst (λ (l : List _). slice_get l c.loop-i.i ≡ Some item) c.order-order.ensures.value c.get-item.ensures.value in
    let here = get_or_from_slice_get t item value 0 c.get-value.ensures.value in
    let asked : c.broken.result ≡ is_broken b.model.moves item value = c.broken.ensures ∙ ap (λ m. is_broken m.moves item value) c.model-model.ensures.value in
    elim c.if-not-broken.branch [
      | then-not-broken+in_ok-push w ↦ w.pairs-is ∙ w.in_ok-push.ensures.ok ∙ pair_more b ordered t c.loop-i.i item value c.loop-i.pairs at here (sym asked ∙ w.if-not-broken.true) c.loop-i.invariant
      | else-not-broken w ↦ w.pairs-is ∙ pair_skip b ordered t c.loop-i.i item value c.loop-i.pairs at here (sym asked ∙ w.if-not-broken.false) c.loop-i.invariant
    ]

pub returns : goal.returns
returns c =
    let b = c.args.compiled.now in
    let past : length b.order ≤ c.loop-i.i = omega (arith, c.loop-i-test.false, c.len-i-end.ensures, ap length c.order-order.ensures.value) in
    goal_is b c.order-order.ensures.compiled.order c.args.state.now.modes c.loop-i.i c.loop-i.pairs past c.loop-i.invariant
