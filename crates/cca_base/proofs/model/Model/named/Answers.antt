use Rattle.std.proofs.Common.{List, Some, slice_get, slice_index, length, ◌≡◌, ◌<◌, ◌∙◌, inl, inr, sym, ap, subst, arith}
use Rattle.std.proofs.lemmas.Bool.{cases_eq}
use Rattle.std.proofs.lemmas.List.Elements.{All-contains}
use Rattle.std.proofs.lemmas.Option.{same_Some, slice_get_within, get_or_from_slice_get}
use Rattle.cca_base.specs.declared.model.Move.{Move}
use Rattle.cca_base.specs.Model.{IsMove}
use Rattle.cca_base.proofs.MoveIndexLaws.{in_row, row_command, none_named}
use Rattle.cca_base.proofs.Within.{mode_within}
use Rattle.cca_base.proofs.model.Model.named.Goals as goal

pub get-x-requires : goal.get-x-requires
get-x-requires c =
    let row = c.moves_by-number-items.result.now in
    subst (λ (xs : List Move). slice_index row c.loop-number.number-index < length xs) (sym c.moves-moves.ensures.value)
    (in_row c.args.self.now.moves c.args.command row c.moves_by-number-items.ensures c.loop-number.number-index c.loop-number-test.true)

pub get-requires : goal.get-requires
get-requires c =
    let m = c.args.self.now in
    let row = c.moves_by-number-items.result.now in
    let number = slice_index row c.loop-number.number-index in
    let x = c.get-x.result.now in
    let at : slice_get m.moves number ≡ Some x = ap (λ (xs : List Move). slice_get xs number) (sym c.moves-moves.ensures.value) ∙ c.get-x.ensures.value in
    let move : IsMove m x = All-contains (IsMove m) m.moves x c.moves-moves.ensures.well_formed.moves (number, slice_get_within m.moves number x at, get_or_from_slice_get m.moves number x x at) in
    omega (arith, c.requires.full, mode_within m x.component x.source move.source)

pub returns-then-get-x-clause-some : goal.returns-then-get-x-clause-some
returns-then-get-x-clause-some c =
    let moves = c.args.self.now.moves in
    let row = c.moves_by-number-items.result.now in
    let number = slice_index row c.loop-number.number-index in
    let x = c.get-x.result.now in
    let at : slice_get moves number ≡ Some x = ap (λ (xs : List Move). slice_get xs number) (sym c.moves-moves.ensures.value) ∙ c.get-x.ensures.value in (
      x,
      at,
      row_command moves c.args.command row c.moves_by-number-items.ensures c.loop-number.number-index x c.loop-number-test.true at,
      c.get.ensures.value ∙ ap Some c.if-get-x.true,
    )

pub loop-number-preserved : goal.loop-number-preserved
loop-number-preserved c =
    let moves = c.args.self.now.moves in
    let row = c.moves_by-number-items.result.now in
    let n = c.loop-number.number-index in
    let x = c.get-x.result.now in (
      c.loop-number.invariant.0,
      λ k less names. elim (cases_eq k n) [
        | inl same ↦
            let at : slice_get moves (slice_index row k) ≡ Some x =
            ap (λ (xs : List Move). slice_get xs (slice_index row k)) (sym c.moves-moves.ensures.value) ∙ ap (λ j. slice_get c.moves-moves.result.now (slice_index row j)) same ∙ c.get-x.ensures.value in
            let own : names.0 ≡ x = same_Some names.0 x (sym names.1 ∙ at) in
            c.if-get-x.false (same_Some c.get.result.now x.source (sym c.get.ensures.value ∙ subst (λ y. slice_get c.args.state.now.modes y.component ≡ Some y.source) own names.3))
        | inr other ↦ c.loop-number.invariant.1 k (omega (arith, less, other)) names
      ],
    )

pub returns-clause-none : goal.returns-clause-none
returns-clause-none c none = none_named c.args.self.now.moves c.args.command c.moves_by-number-items.result.now c.moves_by-number-items.ensures c.args.state.now.modes
    (λ k within. c.loop-number.invariant.1 k (omega (arith, within, c.loop-number-test.false)))
