-- The faults of a move that the model's index tells.
use Rattle.std.proofs.Common.{◌≡◌, ◌<◌, ◌≤◌, ◌==◌, ◌&&◌, ◌||◌, ℕ, Bool, true, false, not, inl, inr, List, length, slice_get, slice_index, Some, Contains, refl, sym, ap, ◌∙◌, arith}
use Rattle.std.specs.List.{list_any}
use Rattle.std.proofs.lemmas.Bool.{cases_Bool, both_ways, and_parts, and_from, eqb-true, eq-eqb, cases_eq, ne_eqb}
use Rattle.std.proofs.lemmas.Option.{same_Some, slice_get_within, slice_get-get_or, get_or_from_slice_get}
use Rattle.std.proofs.lemmas.List.Elements.{All-contains, Contains-get_or}
use Rattle.std.proofs.lemmas.List.Folds.{list_any-from_Any, Any-from_list_any}
use Rattle.cca_base.specs.declared.model.Move.{Move}
use Rattle.cca_base.specs.PlantModel.{PlantModel}
use Rattle.cca_base.specs.Model.{WellFormed, IsMove, IsNext, is_broken, is_repair_of}
use Rattle.cca_base.specs.MoveIndex.{IsMoveBy}
use Rattle.cca_base.specs.Relations.{AreExactly}
use Rattle.cca_base.proofs.NextModes.{repair_parts}
use Rattle.model_syntax.specs.Codes.{is_ambiguous, mends_elsewhere}

-- the move is of another component, or leaves the same mode
abbrev pub clashes : Move → Move → Bool
clashes x y = not (y.component == x.component) || y.source == x.source

none_passes : {X : Type 0} (test : X → Bool) (xs : List X) → ((x : X) → Contains xs x → test x ≡ true → ⊥) → list_any test xs ≡ false
none_passes test xs none = elim (cases_Bool (list_any test xs)) [
  | inl some ↦ let found = Any-from_list_any test xs some in absurd (none found.1 (found.0, found.2, found.3) found.4)
  | inr nothing ↦ nothing
]

-- a command that the model doesn't have is no other move's
pub new_is_clear : (m : PlantModel) → WellFormed m → (x : Move) → length m.commands ≤ x.command → is_ambiguous m.moves x ≡ false
new_is_clear m well x new = none_passes (λ y. y.command == x.command && clashes x y) m.moves (λ y among h.
    let parts = and_parts (y.command == x.command) (clashes x y) h in
    omega (arith, new, (All-contains (IsMove m) m.moves y well.moves among).command, eqb-true y.command x.command parts.0))

module _ (moves : List Move) (x : Move) (row : List ℕ) (h : AreExactly (IsMoveBy moves x.command) row) where
  -- a move of the command's row that clashes
  pub one_clashes : (n : ℕ) (y : Move) → n < length row → slice_get moves (slice_index row n) ≡ Some y → clashes x y ≡ true → is_ambiguous moves x ≡ true
  one_clashes n y within at clash =
      let number = slice_index row n in
      let has = (h.each number).0 (Contains-get_or row n 0 within) in
      let command : y.command ≡ x.command = ap (λ z. z.command) (same_Some y has.0 (sym at ∙ has.1)) ∙ has.2 in
      list_any-from_Any (λ z. z.command == x.command && clashes x z) moves
      (number, y, slice_get_within moves number y at, get_or_from_slice_get moves number y y at, and_from (y.command == x.command) (clashes x y) (eq-eqb y.command x.command command) clash)

  -- where no move of the row clashes, none does
  pub none_clashes : ((n : ℕ) (y : Move) → n < length row → slice_get moves (slice_index row n) ≡ Some y → clashes x y ≡ false) → is_ambiguous moves x ≡ false
  none_clashes none = none_passes (λ y. y.command == x.command && clashes x y) moves (λ y among passes.
      let parts = and_parts (y.command == x.command) (clashes x y) passes in
      let at : slice_get moves among.0 ≡ Some y = slice_get-get_or moves among.0 y among.1 ∙ ap Some among.2 in
      let there = (h.each among.0).1 (y, at, eqb-true y.command x.command parts.0) in
      let number : slice_index row there.0 ≡ among.0 = get_or_from_slice_get row there.0 among.0 0 (slice_get-get_or row there.0 among.0 there.1 ∙ ap Some there.2) in
      both_ways (clashes x y) (none there.0 y there.1 (ap (slice_get moves) number ∙ at)) parts.1)

module _ (m : PlantModel) (well : WellFormed m) (c mode mended : ℕ) where
  parts : (y : Move) → mends_elsewhere c mode mended y ≡ true → (is_repair_of c mode y ≡ true) × ((y.target == mended) ≡ false)
  parts y h =
      let first = and_parts y.repair ((y.component == c && y.source == mode) && not (y.target == mended)) h in
      let rest = and_parts (y.component == c && y.source == mode) (not (y.target == mended)) first.1 in
      (and_from y.repair (y.component == c && y.source == mode) first.0 rest.0, not_true (y.target == mended) rest.1)
    where
      not_true : (b : Bool) → not b ≡ true → b ≡ false
      not_true false h = refl
      not_true true h = absurd cc

  -- all repairs of a mode lead to its next mode
  pub by_next : (next : ℕ) → IsNext m.moves c mode next → not (next == mended) ≡ list_any (mends_elsewhere c mode mended) m.moves
  by_next next h = elim (cases_eq next mended) [
    | inl same ↦ ap not (eq-eqb next mended same) ∙ sym (none_passes (mends_elsewhere c mode mended) m.moves (λ y among passes.
        let own = parts y passes in
        let led : y.target ≡ next = well.repairs.one_target c mode y.target next (record { repair = y; of_model = among; mends = own.0; target = refl }) h in
        both_ways (y.target == mended) own.1 (eq-eqb y.target mended (led ∙ same))))
    | inr other ↦
        let repair : Move = h.repair in
        let among : Contains m.moves repair = h.of_model in
        let own = repair_parts c mode repair h.mends in
        let away : (repair.target == mended) ≡ false = ne_eqb repair.target mended (λ e. other (sym h.target ∙ e)) in
        ap not (ne_eqb next mended other) ∙ sym (list_any-from_Any (mends_elsewhere c mode mended) m.moves (
          among.0,
          repair,
          among.1,
          among.2,
          and_from repair.repair ((repair.component == c && repair.source == mode) && not (repair.target == mended)) own.0
              (and_from (repair.component == c && repair.source == mode) (not (repair.target == mended))
              (and_from (repair.component == c) (repair.source == mode) (eq-eqb repair.component c own.1) (eq-eqb repair.source mode own.2)) (ap not away)),
        ))
  ]

  -- a mode that no repair leaves isn't mended elsewhere
  pub by_none : is_broken m.moves c mode ≡ false → list_any (mends_elsewhere c mode mended) m.moves ≡ false
  by_none sound = none_passes (mends_elsewhere c mode mended) m.moves (λ y among passes.
      both_ways (is_broken m.moves c mode) sound (list_any-from_Any (is_repair_of c mode) m.moves (among.0, y, among.1, among.2, (parts y passes).0)))
