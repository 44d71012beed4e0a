use Rattle.std.proofs.Common.{List, Some, ◌≡◌, ◌<◌, ◌∙◌, length, slice_get, slice_index, not, ◌==◌, refl, sym, ap, subst, arith}
use Rattle.std.proofs.lemmas.Bool.{ne_eqb, eq-eqb, or_right}
use Rattle.cca_base.specs.declared.model.Move.{Move}
use Rattle.cca_base.proofs.MoveIndexLaws.{in_row}
use Rattle.model_syntax.proofs.FaultsByIndex.{new_is_clear, one_clashes, none_clashes}
use Rattle.model_syntax.proofs.faults.is_ambiguous.Goals.{then-y-x-via-then-y-x, then-y-x-via-else-y-x+then-y-x-2}
use Rattle.model_syntax.proofs.faults.is_ambiguous.Goals as goal

pub returns-then-x-len : goal.returns-then-x-len
returns-then-x-len c = sym (new_is_clear c.args.model.now c.commands.ensures.well_formed c.args.x.now (omega (arith, c.if-x-len.true, c.len.ensures, ap length c.commands.ensures.value)))

pub get-y-requires : goal.get-y-requires
get-y-requires c =
    let row = c.moves_by-number-items.result.now in
    subst (λ (xs : List Move). slice_index row c.loop-number.number-index < length xs) (sym c.moves-moves.ensures.value)
    (in_row c.args.model.now.moves c.args.x.now.command row c.moves_by-number-items.ensures c.loop-number.number-index c.loop-number-test.true)

pub returns-then-y-x : goal.returns-then-y-x
returns-then-y-x c =
    let moves = c.args.model.now.moves in
    let row = c.moves_by-number-items.result.now in
    let number = slice_index row c.loop-number.number-index in
    let y = c.get-y.result.now in
    let at : slice_get moves number ≡ Some y = ap (λ (xs : List Move). slice_get xs number) (sym c.moves-moves.ensures.value) ∙ c.get-y.ensures.value in
    sym (one_clashes moves c.args.x.now row c.moves_by-number-items.ensures c.loop-number.number-index y c.loop-number-test.true at (elim c.then-y-x.branch [
      | then-y-x-via-then-y-x w ↦ rw (ne_eqb y.component c.args.x.now.component w.if-y-x.true) refl
      | then-y-x-via-else-y-x+then-y-x-2 w ↦ or_right (not (y.component == c.args.x.now.component)) (y.source == c.args.x.now.source) (eq-eqb y.source c.args.x.now.source w.if-y-x-2.true)
    ]))

pub returns : goal.returns
returns c = sym (none_clashes c.args.model.now.moves c.args.x.now c.moves_by-number-items.result.now c.moves_by-number-items.ensures
    (λ n y within at. c.loop-number.invariant.1 n y (omega (arith, within, c.loop-number-test.false)) at))
