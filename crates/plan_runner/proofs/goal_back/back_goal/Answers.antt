use Rattle.std.proofs.Common.{◌≡◌, ◌+◌, ◌++◌, ◌∷◌, [], ◌∙◌, ℕ, List, take, slice_get, Some, sym, ap, subst}
use Rattle.list_laws.proofs.GoneThrough.{take_next}
use Rattle.policy_tables.specs.Tables.{TableParts}
use Rattle.plan_runner.specs.WaysBack.{AreBackPairs}
use Rattle.plan_runner.proofs.GoingBack.{back_skip, back_push, order_place}
use Rattle.plan_runner.proofs.goal_back.back_goal.Goals.{in-Some+in_ok-push, in_default}
use Rattle.plan_runner.proofs.goal_back.back_goal.Goals as goal

pub mode_back-requires-clause-within : goal.mode_back-requires-clause-within
mode_back-requires-clause-within c =
    let order_is = c.order-order.ensures.value ∙ ap (λ z. z.order) (c.compiled.ensures.value ∙ ap (λ z. z.compiled) c.classes.ensures.value) in
    order_place c.args.tables.now c.classes.ensures.tables c.args.to.now.modes c.requires c.get-c.result.now c.loop-i.i
    (subst (λ l. slice_get l c.loop-i.i ≡ Some c.get-c.result.now) order_is c.get-c.ensures.value)

pub loop-i-preserved : goal.loop-i-preserved
loop-i-preserved c =
    let t : TableParts = c.args.tables.now in
    let order : List ℕ = t.classes.compiled.order in
    let order_is : c.order-order.result.now ≡ order = c.order-order.ensures.value ∙ ap (λ z. z.order) (c.compiled.ensures.value ∙ ap (λ z. z.compiled) c.classes.ensures.value) in
    let at : slice_get order c.loop-i.i ≡ Some c.get-c.result.now = subst (λ l. slice_get l c.loop-i.i ≡ Some c.get-c.result.now) order_is c.get-c.ensures.value in
    let next : take (c.loop-i.i + 1) order ≡ take c.loop-i.i order ++ c.get-c.result.now ∷ [] = take_next order c.loop-i.i c.get-c.result.now at in
    subst (λ l. AreBackPairs t.classes c.args.to.now.modes l c.match-mode_back.pairs) (sym next)
    (elim c.match-mode_back.branch [
      | in-Some+in_ok-push w ↦
          subst (AreBackPairs t.classes c.args.to.now.modes (take c.loop-i.i order ++ c.get-c.result.now ∷ [])) (sym (w.pairs-is ∙ w.in_ok-push.ensures.ok))
          (back_push t c.classes.ensures.tables c.args.to.now.modes c.requires (take c.loop-i.i order) c.get-c.result.now w.in-Some.value c.loop-i.pairs c.loop-i.invariant w.in-Some.ensures)
      | in_default w ↦
          subst (AreBackPairs t.classes c.args.to.now.modes (take c.loop-i.i order ++ c.get-c.result.now ∷ [])) (sym w.pairs-is)
          (back_skip t c.classes.ensures.tables c.args.to.now.modes c.requires (take c.loop-i.i order) c.get-c.result.now c.loop-i.pairs c.loop-i.invariant w.in_default.ensures)
    ])
