use Rattle.std.proofs.Common.{◌↔◌, Bool, IsTrue, List, refl}
use Rattle.std.proofs.lemmas.Result.{IfOk-weaker}
use Rattle.cca_base.specs.declared.cube.Pair.{Pair}
use Rattle.cca_base.specs.State.{Follows}
use Rattle.cca_base.specs.Steps.{support}
use Rattle.plan_checker.proofs.GuardLaws.{guard_within, follows_along, from_support, has_support, to_support, support_modes}
use Rattle.plan_checker.proofs.guards.guard_follows.Goals as goal

pub returns-then-is_sure-clause-follows : goal.returns-then-is_sure-clause-follows
returns-then-is_sure-clause-follows c = (
  (λ _ t state extends w world. c.is_sure.ensures c.if-is_sure.true t w (has_support c.args.rules.now.model.now c.args.state.now.modes c.args.step.now c.requires.named.source t extends)),
  (λ _. refl),
)

pub follows-requires-clause-modes : goal.follows-requires-clause-modes
follows-requires-clause-modes c =
    support_modes c.args.rules.now.model.now c.args.state.now.modes c.args.step.now.component c.in_ok-modes.modes c.requires.state c.in_ok-modes.ensures

pub follows-requires-clause-formula : goal.follows-requires-clause-formula
follows-requires-clause-formula c = guard_within c.args.rules.now.model.now c.moves-moves.ensures.well_formed c.args.step.now c.requires.named.of_model

pub returns-clause-follows : goal.returns-clause-follows
returns-clause-follows c =
    let m = c.args.rules.now.model.now in
    let s = c.args.state.now.modes in
    let move = c.args.step.now in
    let pairs : List Pair = c.in_ok-modes.modes in
    let at = c.requires.named.source in
    let are = c.in_ok-modes.ensures in
    IfOk-weaker c.follows.result (λ (b : Bool). IsTrue b ↔ Follows m pairs move.guard) (λ (b : Bool). IsTrue b ↔ Follows m (support m s move) move.guard)
    (λ b h. (
      (λ t. follows_along m pairs (support m s move) move.guard (from_support m s move pairs at are) (h.0 t)),
      (λ follows. h.1 (follows_along m (support m s move) pairs move.guard (to_support m s move pairs at are) follows)),
    )) c.follows.ensures.follows
