use Rattle.std.proofs.Common.{◌≡◌, ◌<◌, ◌∙◌, ℕ, List, length, slice_get, slice_index, Some, All, refl, sym, ap, subst, arith}
use Rattle.std.proofs.lemmas.Bool.{both_ways, false≢true}
use Rattle.std.proofs.lemmas.Option.{slice_get-get_or}
use Rattle.cca_base.specs.declared.cube.Pair.{Pair}
use Rattle.cca_base.specs.declared.model.Move.{Move}
use Rattle.cca_base.specs.Accepted.{CompiledModel}
use Rattle.reach_laws.specs.Classes.{Test, IsOpen}
use Rattle.reach_laws.proofs.Needed.{move_in}
use Rattle.reversibility.specs.ClassParts.{in_row}
use Rattle.reversibility.specs.Levels.{SomeInside}
use Rattle.reversibility.proofs.OpenMoves.{open_from, open_to, cubes_within, number_in, move_of, one_more, place_of}
use Rattle.reversibility.proofs.open.leaves.Goals.{else-get-mode-via-then-get-mode+else-is_open, else-get-mode-via-else-get-mode}
use Rattle.reversibility.proofs.open.leaves.Goals as goal

-- an entry of a list is that of an equal list
entry : {A : Type 0} {l k : List A} {x : A} (i : ℕ) → l ≡ k → slice_get l i ≡ Some x → slice_get k i ≡ Some x
entry {x = x} i same at = subst (λ z. slice_get z i ≡ Some x) same at

pub get-requires : goal.get-requires
get-requires c =
    let b : CompiledModel = c.args.compiled.now in
    let row : List ℕ = c.moves_of-number-items.result.now in
    let within = number_in b.model c.args.component row c.loop-number.invariant.0 c.loop-number.number-index c.loop-number-test.true in
    omega (arith, within, ap length (c.moves-moves.ensures.value ∙ ap (λ z. z.moves) c.model-model.ensures.value))

pub is_open-requires : goal.is_open-requires
is_open-requires c =
    let b : CompiledModel = c.args.compiled.now in
    let number : ℕ = slice_index c.moves_of-number-items.result.now c.loop-number.number-index in
    subst (All (λ cube. All (λ p. p.item < length c.args.rows.now) cube)) (sym c.as_slice.ensures)
    (cubes_within b c.model-model.ensures.compiled (in_row c.args.rows.now) number c.get.result.now c.get-then-get-mode.result.now
    (entry number (c.moves-moves.ensures.value ∙ ap (λ z. z.moves) c.model-model.ensures.value) c.get.ensures.value) (entry number c.ways.ensures.value c.get-then-get-mode.ensures.value) (length c.args.rows.now) c.requires.full)

pub get-requires-then-get-mode : goal.get-requires-then-get-mode
get-requires-then-get-mode c =
    let b : CompiledModel = c.args.compiled.now in
    let row : List ℕ = c.moves_of-number-items.result.now in
    let within = number_in b.model c.args.component row c.loop-number.invariant.0 c.loop-number.number-index c.loop-number-test.true in
    omega (arith, within, c.model-model.ensures.compiled.ways_full, ap length c.ways.ensures.value)

pub returns-then-is_open : goal.returns-then-is_open
returns-then-is_open c =
    let b : CompiledModel = c.args.compiled.now in
    let member : Test = in_row c.args.rows.now in
    let row : List ℕ = c.moves_of-number-items.result.now in
    let k : ℕ = c.loop-number.number-index in
    let number : ℕ = slice_index row k in
    let m : Move = c.get.result.now in
    let at : slice_get b.model.moves number ≡ Some m = entry number (c.moves-moves.ensures.value ∙ ap (λ z. z.moves) c.model-model.ensures.value) c.get.ensures.value in
    let some : SomeInside member c.get-then-get-mode.result.now = subst (SomeInside member) c.as_slice.ensures (c.is_open.ensures.0 c.if-is_open.true) in (
      (λ _. (
        m.target,
        record {
          move = m;
          of_model = move_in b.model number m at;
          own = move_of b.model c.args.component row c.loop-number.invariant.0 k c.loop-number-test.true m at;
          source = c.if-get-mode.true;
          target = refl;
          open_move = open_from b c.model-model.ensures.compiled member number m c.get-then-get-mode.result.now at (entry number c.ways.ensures.value c.get-then-get-mode.ensures.value) some;
        },
      )),
      (λ _. refl),
    )

pub loop-number-preserved : goal.loop-number-preserved
loop-number-preserved c =
    let b : CompiledModel = c.args.compiled.now in
    let member : Test = in_row c.args.rows.now in
    let number : ℕ = slice_index c.moves_of-number-items.result.now c.loop-number.number-index in
    let m : Move = c.get.result.now in
    let move_at : slice_get b.model.moves number ≡ Some m = entry number (c.moves-moves.ensures.value ∙ ap (λ z. z.moves) c.model-model.ensures.value) c.get.ensures.value in (
      c.loop-number.invariant.0,
      one_more b.model.moves (λ z. z.source ≡ c.args.mode → IsOpen b.model member z → ⊥) c.moves_of-number-items.result.now c.loop-number.number-index m move_at
          (λ source open_one. elim c.else-get-mode.branch [
            | else-get-mode-via-then-get-mode+else-is_open v ↦
                let cubes : List (List Pair) = v.get-then-get-mode.result.now in
                both_ways v.is_open.result v.if-is_open.false (v.is_open.ensures.1 (subst (SomeInside member) (sym v.as_slice.ensures)
                (open_to b c.model-model.ensures.compiled member number m cubes move_at (entry number v.ways.ensures.value v.get-then-get-mode.ensures.value) open_one)))
            | else-get-mode-via-else-get-mode v ↦ v.if-get-mode.false source
          ]) c.loop-number.invariant.1,
    )

pub returns : goal.returns
returns c = (
  (λ f. absurd (false≢true f)),
  (λ h.
      let b : CompiledModel = c.args.compiled.now in
      let row : List ℕ = c.moves_of-number-items.result.now in
      let o = h.1 in
      let at : slice_get b.model.moves o.of_model.0 ≡ Some o.move = slice_get-get_or b.model.moves o.of_model.0 o.move o.of_model.1 ∙ ap (λ x. Some x) o.of_model.2 in
      let place = place_of b.model c.args.component row c.loop-number.invariant.0 o.of_model.0 o.move at o.own in
      absurd (c.loop-number.invariant.1 place.0 o.move (omega (arith, place.1, c.loop-number-test.false)) (subst (λ i. slice_get b.model.moves i ≡ Some o.move) (sym place.2) at) o.source o.open_move)),
)
