use Rattle.std.proofs.Common.{◌↔◌, Bool, IsTrue, List, All, sym, subst}
use Rattle.std.proofs.lemmas.Result.{IfOk-weaker}
use Rattle.cca_base.specs.declared.cube.Pair.{Pair}
use Rattle.cca_base.specs.Model.{HasMode}
use Rattle.cca_base.specs.State.{Follows, Holds}
use Rattle.cca_base.proofs.StatePairs.{pairs_have_modes}
use Rattle.cca_base.proofs.HeldFormulas.{follows_holds, holds_follows}
use Rattle.plan_checker.proofs.GuardLaws.{guard_within}
use Rattle.plan_checker.proofs.guards.guard_holds.Goals as goal

pub follows-requires-clause-modes : goal.follows-requires-clause-modes
follows-requires-clause-modes c =
    subst (All (λ (p : Pair). HasMode c.args.rules.now.model.now p.item p.value)) (sym c.in_ok-modes.ensures) (pairs_have_modes c.args.rules.now.model.now c.args.state.now.modes c.requires.state)

pub follows-requires-clause-formula : goal.follows-requires-clause-formula
follows-requires-clause-formula c = guard_within c.args.rules.now.model.now c.moves-moves.ensures.well_formed c.args.step.now c.requires.of_model

pub returns-clause-holds : goal.returns-clause-holds
returns-clause-holds c =
    let m = c.args.rules.now.model.now in
    let s = c.args.state.now.modes in
    let f = c.args.step.now.guard in
    IfOk-weaker c.follows.result (λ (b : Bool). IsTrue b ↔ Follows m c.in_ok-modes.modes f) (λ (b : Bool). IsTrue b ↔ Holds m s f)
    (λ b h. (
      (λ t. follows_holds m s f c.requires.state (subst (λ (l : List Pair). Follows m l f) c.in_ok-modes.ensures (h.0 t))),
      (λ holds. h.1 (subst (λ (l : List Pair). Follows m l f) (sym c.in_ok-modes.ensures) (holds_follows m s f c.requires.state holds))),
    )) c.follows.ensures.follows
