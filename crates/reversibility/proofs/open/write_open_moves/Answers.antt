use Rattle.std.proofs.Common.{◌≡◌, ◌∙◌, ◌<◌, ◌+◌, ℕ, List, [], ◌∷◌, ◌++◌, length, slice_get, slice_index, Some, All, sym, ap, subst, arith, length-append}
use Rattle.std.proofs.lemmas.Bool.{both_ways}
use Rattle.bounded_list.specs.Bounded.{Bounded}
use Rattle.cca_base.specs.declared.cube.Pair.{Pair}
use Rattle.cca_base.specs.Accepted.{CompiledModel}
use Rattle.cca_base.specs.Relations.{AreExactly}
use Rattle.reach_laws.specs.Classes.{Test}
use Rattle.reversibility.specs.ClassParts.{in_row}
use Rattle.reversibility.specs.Levels.{SomeInside, IsAmong, IsOpenNumber}
use Rattle.reversibility.proofs.Exactly.{some_no, some_yes, all_among}
use Rattle.reversibility.proofs.OpenMoves.{open_from, open_to, cubes_within, number_in, move_at, move_of, row_few, place_of, number_yes, number_no}
use Rattle.reversibility.proofs.open.write_open_moves.Goals.{then-is_open, else-is_open}
use Rattle.reversibility.proofs.open.write_open_moves.Goals as goal

pub get-requires : goal.get-requires
get-requires c =
    let b : CompiledModel = c.args.compiled.now in
    let row : List ℕ = c.moves_of-number-items.result.now in
    let within = number_in b.model c.args.component row c.loop-number.invariant.row c.loop-number.number-index c.loop-number-test.true in
    omega (arith, within, c.model-model.ensures.compiled.ways_full, ap length c.ways.ensures.value)

-- the move that stands at the place, and its ways
pub is_open-requires : goal.is_open-requires
is_open-requires c =
    let b : CompiledModel = c.args.compiled.now in
    let row : List ℕ = c.moves_of-number-items.result.now in
    let number : ℕ = slice_index row c.loop-number.number-index in
    let at = move_at b.model c.args.component row c.loop-number.invariant.row c.loop-number.number-index c.loop-number-test.true in
    let ways_at : slice_get b.ways number ≡ Some c.get.result.now = subst (λ (l : List (List (List Pair))). slice_get l number ≡ Some c.get.result.now) c.ways.ensures.value c.get.ensures.value in
    subst (All (λ cube. All (λ p. p.item < length c.args.rows.now) cube)) (sym c.as_slice.ensures)
    (cubes_within b c.model-model.ensures.compiled (in_row c.args.rows.now) number at.0 c.get.result.now at.1 ways_at (length c.args.rows.now) c.requires.full)

pub push-requires : goal.push-requires
push-requires c =
    let few = row_few c.args.compiled.now.model c.model-model.ensures.compiled.accepted.well_formed c.args.component c.moves_of-number-items.result.now c.loop-number.invariant.row in
    omega (arith, few, c.loop-number.invariant.few, c.loop-number-test.true, c.loop-number.invariant.room, c.clear.ensures.room, c.requires.room)

pub loop-number-preserved : goal.loop-number-preserved
loop-number-preserved c =
    let b : CompiledModel = c.args.compiled.now in
    let is = c.model-model.ensures.compiled in
    let member : Test = in_row c.args.rows.now in
    let own : ℕ = c.args.component in
    let row : List ℕ = c.moves_of-number-items.result.now in
    let k : ℕ = c.loop-number.number-index in
    let number : ℕ = slice_index row k in
    let numbers : List ℕ = c.loop-number.numbers.items in
    let Q : ℕ → Type 0 = IsOpenNumber b.model member own in
    let exact = c.loop-number.invariant.row in
    let cubes : List (List Pair) = c.get.result.now in
    let at = move_at b.model own row exact k c.loop-number-test.true in
    let ways_at : slice_get b.ways number ≡ Some cubes = subst (λ (l : List (List (List Pair))). slice_get l number ≡ Some cubes) c.ways.ensures.value c.get.ensures.value in
    elim c.if-is_open.branch [
      | then-is_open w ↦
          let some : SomeInside member cubes = subst (SomeInside member) c.as_slice.ensures (c.is_open.ensures.0 w.if-is_open.true) in
          let pushed : c.if-is_open.numbers.items ≡ numbers ++ number ∷ [] = ap (λ (z : Bounded ℕ). z.items) w.numbers-is ∙ w.push.ensures.items in record {
            row = exact;
            noted = subst (AreExactly (λ i. IsAmong row (k + 1) i × Q i)) (sym pushed)
                (some_yes Q row exact.rising k numbers c.loop-number.invariant.noted c.loop-number-test.true
                (number_yes b.model is.accepted.well_formed member own number at.0 at.1 (move_of b.model own row exact k c.loop-number-test.true at.0 at.1) (open_from b is member number at.0 cubes at.1 ways_at some)));
            few = omega (arith, ap length pushed, length-append numbers (number ∷ []), c.loop-number.invariant.few);
            room = ap (λ (z : Bounded ℕ). z.room) w.numbers-is ∙ w.push.ensures.room ∙ c.loop-number.invariant.room;
          }
      | else-is_open w ↦
          let same : c.if-is_open.numbers.items ≡ numbers = ap (λ (z : Bounded ℕ). z.items) w.numbers-is in record {
            row = exact;
            noted = subst (AreExactly (λ i. IsAmong row (k + 1) i × Q i)) (sym same)
                (some_no Q row exact.rising k numbers c.loop-number.invariant.noted
                (number_no b.model is.accepted.well_formed member own number at.0 at.1 (λ _ open_one.
                both_ways c.is_open.result w.if-is_open.false (c.is_open.ensures.1 (subst (SomeInside member) (sym c.as_slice.ensures) (open_to b is member number at.0 cubes at.1 ways_at open_one))))));
            few = omega (arith, ap length same, c.loop-number.invariant.few);
            room = ap (λ (z : Bounded ℕ). z.room) w.numbers-is ∙ c.loop-number.invariant.room;
          }
    ]

pub returns-clause-numbers : goal.returns-clause-numbers
returns-clause-numbers c =
    let b : CompiledModel = c.args.compiled.now in
    let row : List ℕ = c.moves_of-number-items.result.now in
    let Q : ℕ → Type 0 = IsOpenNumber b.model (in_row c.args.rows.now) c.args.component in
    all_among Q row c.loop-number.number-index c.loop-number.numbers.items c.loop-number.invariant.noted
    (λ i open_one.
    let place = place_of b.model c.args.component row c.loop-number.invariant.row i open_one.move open_one.move_at open_one.own in
    (place.0, omega (arith, place.1, c.loop-number-test.false), place.2))
