use Rattle.std.proofs.Common.{ℕ, List, Some, slice_get, slice_index, length, ◌≡◌, ◌<◌, ◌∙◌, inl, inr, sym, ap, subst, arith}
use Rattle.std.proofs.lemmas.Bool.{cases_eq}
use Rattle.std.proofs.lemmas.List.Elements.{All-contains}
use Rattle.std.proofs.lemmas.Option.{same_Some, slice_get_within, get_or_from_slice_get}
use Rattle.cca_base.specs.declared.model.Move.{Move}
use Rattle.cca_base.specs.MoveIndex.{IsMoveBy}
use Rattle.cca_base.specs.Model.{IsMove, WellFormed}
use Rattle.cca_base.specs.PlantModel.{PlantModel}
use Rattle.cca_base.specs.Relations.{AreExactly}
use Rattle.cca_base.proofs.MoveIndexLaws.{in_row, row_command, none_named}
use Rattle.cca_base.proofs.Within.{mode_within}
use Rattle.trajectory_estimator.proofs.KnownModes.{value_stands}
use Rattle.trajectory_estimator.proofs.before.Before.named.Goals as goal

-- the moves that are read are those of the question
its_moves : (m n : PlantModel) (moves : List Move) → n ≡ m → moves ≡ n.moves → moves ≡ m.moves
its_moves m n moves same e = e ∙ ap (λ (x : PlantModel). x.moves) same

component_within : (m n : PlantModel) (number : ℕ) (x : Move) → n ≡ m → WellFormed n → slice_get m.moves number ≡ Some x → x.component < length m.components
component_within m n number x same good at =
    let its : WellFormed m = subst WellFormed same good in
    let move : IsMove m x = All-contains (IsMove m) m.moves x its.moves (number, slice_get_within m.moves number x at, get_or_from_slice_get m.moves number x x at) in
    mode_within m x.component x.source move.source

pub get-step-requires : goal.get-step-requires
get-step-requires c =
    let row = c.moves_by-number-items.result.now in
    subst (λ (xs : List Move). slice_index row c.loop-number.number-index < length xs) (sym c.moves-moves.ensures.value)
    (in_row c.model-model.result.now.moves c.args.command row c.moves_by-number-items.ensures c.loop-number.number-index c.loop-number-test.true)

pub bounds-self-step : goal.bounds-self-step
bounds-self-step c =
    let m = c.args.self.now.paths.query.now.model in
    let number = slice_index c.moves_by-number-items.result.now c.loop-number.number-index in
    let x = c.get-step.result.now in
    let moves = its_moves m c.model-model.result.now c.moves-moves.result.now c.model-model.ensures.value c.moves-moves.ensures.value in
    let at : slice_get m.moves number ≡ Some x = ap (λ (xs : List Move). slice_get xs number) (sym moves) ∙ c.get-step.ensures.value in
    omega (arith, c.args.self.now.full, component_within m c.model-model.result.now number x c.model-model.ensures.value c.moves-moves.ensures.well_formed at)

pub returns-then-self-step-clause-some : goal.returns-then-self-step-clause-some
returns-then-self-step-clause-some c =
    let m = c.args.self.now.paths.query.now.model in
    let row = c.moves_by-number-items.result.now in
    let number = slice_index row c.loop-number.number-index in
    let x = c.get-step.result.now in
    let moves = its_moves m c.model-model.result.now c.moves-moves.result.now c.model-model.ensures.value c.moves-moves.ensures.value in
    let at : slice_get m.moves number ≡ Some x = ap (λ (xs : List Move). slice_get xs number) (sym moves) ∙ c.get-step.ensures.value in
    let within = component_within m c.model-model.result.now number x c.model-model.ensures.value c.moves-moves.ensures.well_formed at in
    let rows : AreExactly (IsMoveBy m.moves c.args.command) row =
    subst (λ (y : PlantModel). AreExactly (IsMoveBy y.moves c.args.command) row) c.model-model.ensures.value c.moves_by-number-items.ensures in (
      x,
      at,
      row_command m.moves c.args.command row rows c.loop-number.number-index x c.loop-number-test.true at,
      value_stands c.args.self.now.modes.now x.component x.source (omega (arith, c.args.self.now.full, within)) c.if-self-step.true,
    )

pub loop-number-preserved : goal.loop-number-preserved
loop-number-preserved c k less names =
    let m = c.args.self.now.paths.query.now.model in
    let row = c.moves_by-number-items.result.now in
    let x = c.get-step.result.now in
    let moves = its_moves m c.model-model.result.now c.moves-moves.result.now c.model-model.ensures.value c.moves-moves.ensures.value in
    elim (cases_eq k c.loop-number.number-index) [
      | inl same ↦
          let at : slice_get m.moves (slice_index row k) ≡ Some x =
          ap (λ (xs : List Move). slice_get xs (slice_index row k)) (sym moves) ∙ ap (λ j. slice_get c.moves-moves.result.now (slice_index row j)) same ∙ c.get-step.ensures.value in
          let own : names.0 ≡ x = same_Some names.0 x (sym names.1 ∙ at) in
          c.if-self-step.false (get_or_from_slice_get c.args.self.now.modes.now x.component x.source 0 (subst (λ (y : Move). slice_get c.args.self.now.modes.now y.component ≡ Some y.source) own names.3))
      | inr other ↦ c.loop-number.invariant k (omega (arith, less, other)) names
    ]

pub returns-clause-none : goal.returns-clause-none
returns-clause-none c none =
    let m = c.args.self.now.paths.query.now.model in
    let row = c.moves_by-number-items.result.now in
    let rows : AreExactly (IsMoveBy m.moves c.args.command) row =
    subst (λ (y : PlantModel). AreExactly (IsMoveBy y.moves c.args.command) row) c.model-model.ensures.value c.moves_by-number-items.ensures in
    none_named m.moves c.args.command row rows c.args.self.now.modes.now (λ k within. c.loop-number.invariant k (omega (arith, within, c.loop-number-test.false)))
