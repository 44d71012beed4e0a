use Rattle.std.proofs.Common.{◌≡◌, ◌<◌, List, length, slice_get, slice_index, Some, sym, ap, subst, ◌∙◌, arith}
use Rattle.cca_base.specs.declared.model.Move.{Move}
use Rattle.cca_base.proofs.MoveIndexLaws.{in_row, row_command}
use Rattle.trajectory_estimator.specs.Steps.{IsOwnTarget, NoOwn}
use Rattle.trajectory_estimator.proofs.OwnMoves.{none_more, none_all, own_here}
use Rattle.trajectory_estimator.proofs.moved.own_target.Goals.{else-own-component-via-then-own-component+else-own-from, else-own-component-via-else-own-component}
use Rattle.trajectory_estimator.proofs.moved.own_target.Goals as goal

pub get-own-requires : goal.get-own-requires
get-own-requires c =
    let row = c.moves_by-number-items.result.now in
    subst (λ (xs : List Move). slice_index row c.loop-number.number-index < length xs) (sym c.moves-moves.ensures.value)
    (in_row c.args.model.now.moves c.in_ok-command.command row c.moves_by-number-items.ensures c.loop-number.number-index c.loop-number-test.true)

pub returns-then-own-from-clause-some : goal.returns-then-own-from-clause-some
returns-then-own-from-clause-some c =
    let m = c.args.model.now in
    let row = c.moves_by-number-items.result.now in
    let number = slice_index row c.loop-number.number-index in
    let x = c.get-own.result.now in
    let at : slice_get m.moves number ≡ Some x = ap (λ (xs : List Move). slice_get xs number) (sym c.moves-moves.ensures.value) ∙ c.get-own.ensures.value in
    let named = row_command m.moves c.in_ok-command.command row c.moves_by-number-items.ensures c.loop-number.number-index x c.loop-number-test.true at in
    subst (λ k. IsOwnTarget m c.args.component k c.args.from x.target) (sym c.in_ok-command.was)
    (own_here m c.args.component c.in_ok-command.command c.args.from number x at named c.if-own-component.true c.if-own-from.true)

pub loop-number-init : goal.loop-number-init
loop-number-init c = λ k less. absurd (omega arith)

pub loop-number-preserved : goal.loop-number-preserved
loop-number-preserved c =
    let m = c.args.model.now in
    let row = c.moves_by-number-items.result.now in
    let n = c.loop-number.number-index in
    let x = c.get-own.result.now in
    let at : slice_get m.moves (slice_index row n) ≡ Some x = ap (λ (xs : List Move). slice_get xs (slice_index row n)) (sym c.moves-moves.ensures.value) ∙ c.get-own.ensures.value in
    none_more m c.args.component c.args.from row n x at
    (λ own source. elim c.else-own-component.branch [
      | else-own-component-via-then-own-component+else-own-from w ↦ w.if-own-from.false source
      | else-own-component-via-else-own-component w ↦ w.if-own-component.false own
    ])
    c.loop-number.invariant

pub returns-clause-none : goal.returns-clause-none
returns-clause-none c none =
    subst (λ k. NoOwn c.args.model.now c.args.component k c.args.from) (sym c.in_ok-command.was)
    (none_all c.args.model.now c.args.component c.in_ok-command.command c.args.from c.moves_by-number-items.result.now c.loop-number.number-index c.moves_by-number-items.ensures
    c.loop-number-test.false c.loop-number.invariant)
