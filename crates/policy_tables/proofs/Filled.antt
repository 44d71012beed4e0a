-- What tables are filled with.
use Rattle.std.proofs.Common.{◌≡◌, ◌≢◌, ◌<◌, ◌+◌, ◌*◌, ℕ, true, List, [], length, map, get_or, take, slice_get, slice_index, slice_index_or, slice_set, Some, sym, ap, subst, ◌∙◌, inl, inr, arith, get_or-set_same, get_or-set_other, length-set}
use Rattle.std.proofs.Math.ListN.{get_or-map}
use Rattle.std.proofs.lemmas.Bool.{cases_lt}
use Rattle.std.proofs.lemmas.List.{get_or-take, length-map, length-take-le, get_or_default}
use Rattle.std.proofs.lemmas.Nat.{same_from_place, mul-add-lt}
use Rattle.cca_base.specs.declared.cube.Pair.{Pair}
use Rattle.cca_base.specs.declared.model.Component.{Component}
use Rattle.cca_base.specs.PlantModel.{PlantModel}
use Rattle.cca_base.specs.Cube.{IsCube, Lacks}
use Rattle.cca_base.specs.Model.{HasMode, mode_counts}
use Rattle.cca_base.proofs.Within.{mode_within}
use Rattle.reach_laws.specs.declared.cell.Cell.{Cell}
use Rattle.reach_laws.specs.declared.cell.Cell.TheVariants as cell
use Rattle.reach_laws.specs.Classes.{Joined}
use Rattle.reach_laws.specs.Cells.{cell_at, AreCells}
use Rattle.reach_laws.proofs.Order.{repair_rules}
use Rattle.reach_laws.proofs.Sound.{covered_joined}
use Rattle.reversibility.specs.ClassParts.{ClassParts, IsClasses, in_row}
use Rattle.reversibility.proofs.Standing.{mode_count}
use Rattle.policy_tables.specs.Codes.{IsCode, cell_of}
use Rattle.policy_tables.specs.declared.code.Code.{Code}
use Rattle.policy_tables.specs.declared.code.Code.TheVariants as code
use Rattle.policy_tables.specs.Filling.{IsRightCell, MayStand, AreRightTo, AreFilledTo}
use Rattle.policy_tables.specs.Tables.{IsTables}

-- ---- cubes in order

-- the next pair of a cube is of none of the components before it
pub lacks_next : (ps : List Pair) (i : ℕ) (p : Pair) → IsCube ps → i < length ps → p ≡ get_or ps i p → Lacks p.item (take i ps)
lacks_next ps i p cube within at = λ k d lt.
    (let below : k < i = omega (arith, lt, length-take-le i ps (omega (arith, within))) in
    subst (λ (q : Pair). q.item ≢ p.item) (sym (get_or-take i ps k d below))
    (subst (λ (q : Pair). (get_or ps k d).item ≢ q.item) (get_or_default ps i d p within ∙ sym at) (cube k i d below within)))

-- ---- cells

pub joined_here : (p : ClassParts) → IsClasses p → (c from to : ℕ) → MayStand p c from → in_row p.rows c to ≡ true → Joined p.compiled.model (in_row p.rows) c from to
joined_here p is c from to stands inside =
    covered_joined p.compiled.model p.base (in_row p.rows) (repair_rules p.compiled.model is.compiled.accepted.well_formed) is.classes c from to stands inside

-- a code at a place that is right
abbrev IsRightAt : ClassParts → List (List (List Pair)) → ℕ → ℕ → ℕ → Code → Type 0
IsRightAt p ways c from to x = IsRightCell p c from to (cell_of ways x) × IsCode ways x

-- one place more, in the row of a mode
pub right_set : (p : ClassParts) (ways : List (List (List Pair))) (c modes : ℕ) (codes written : List Code) (from to : ℕ) (x : Code) → written ≡ slice_set codes (from * modes + to) x → from < modes → to < modes
    → AreRightTo p ways c modes codes (from * modes + to) → IsRightCell p c from to (cell_of ways x) → IsCode ways x → AreRightTo p ways c modes written (from * modes + (to + 1))
right_set p ways c modes codes written from to x is lt_from lt_to h right is_code = record {
  full = ap length is ∙ length-set codes (from * modes + to) x ∙ h.full;
  each = λ a b lt within. elim (cases_lt (a * modes + b) (from * modes + to)) [
    | inl before ↦
        let apart : a * modes + b ≢ from * modes + to = λ e. omega (arith, e, before) in
        subst (IsRightAt p ways c a b) (sym (ap (λ l. slice_index_or l (a * modes + b) code.Never) is ∙ get_or-set_other codes (from * modes + to) (a * modes + b) x code.Never apart)) (h.each a b lt before)
    | inr past ↦
        let here : a * modes + b ≡ from * modes + to = omega (arith, past, within) in
        let same = same_from_place from to a b modes lt_to lt (sym here) in
        let inside : from * modes + to < length codes = omega (arith, mul-add-lt from modes to modes lt_from lt_to, h.full) in
        let at : slice_index_or written (a * modes + b) code.Never ≡ x =
        ap (λ l. slice_index_or l (a * modes + b) code.Never) is ∙ ap (λ k. slice_index_or (slice_set codes (from * modes + to) x) k code.Never) here ∙ get_or-set_same codes (from * modes + to) x code.Never inside in
        subst (IsRightAt p ways c a b) (sym at) (subst (λ z. IsRightAt p ways c a z x) same.1 (subst (λ z. IsRightAt p ways c z to x) same.0 (right, is_code)))
  ];
}

-- a count of a component's modes, as it was read
pub modes_read : (m : PlantModel) (c : ℕ) {components : List Component} {x : Component} {n : ℕ} → components ≡ m.components → slice_get components c ≡ Some x → n ≡ length x.modes
    → n ≡ slice_index (mode_counts m) c
modes_read m c {x = x} same at counted = counted ∙ sym (mode_count m.components c x (subst (λ l. slice_get l c ≡ Some x) same at))

-- the cells for which codes stand, where one is read
cell_read_at : (ways : List (List (List Pair))) (tables : List (List Code)) (c i : ℕ)
    → slice_index_or (slice_index_or (map (map (cell_of ways)) tables) c []) i cell.Never ≡ cell_of ways (slice_index_or (slice_index_or tables c []) i code.Never)
cell_read_at ways tables c i = ap (λ l. slice_index_or l i cell.Never) (get_or-map (map (cell_of ways)) tables c []) ∙ get_or-map (cell_of ways) (slice_index_or tables c []) i code.Never

-- tables that are filled are right
filled_all : (p : ClassParts) (ways : List (List (List Pair))) (tables : List (List Code)) → AreFilledTo p ways tables (length p.compiled.model.components)
    → AreCells p.compiled p.base (in_row p.rows) (map (map (cell_of ways)) tables)
filled_all p ways tables h =
    let m : PlantModel = p.compiled.model in
    let counts : ℕ → ℕ = λ c. slice_index (mode_counts m) c in
    let rows : List (List Cell) = map (map (cell_of ways)) tables in
    let right : (c from to : ℕ) → HasMode m c from → HasMode m c to → IsRightCell p c from to (cell_at m rows c from to) = λ c from to has_from has_to.
    subst (IsRightCell p c from to) (sym (cell_read_at ways tables c (from * counts c + to)))
    ((h.each c (mode_within m c from has_from)).each from to has_to (mul-add-lt from (counts c) to (counts c) has_from has_to)).0 in
    record {
      full = length-map tables (map (cell_of ways)) ∙ h.full;
      rows_full = λ c lt. ap length (get_or-map (map (cell_of ways)) tables c []) ∙ length-map (slice_index_or tables c []) (cell_of ways) ∙ (h.each c lt).full;
      policy = λ c from to has_from has_to stands. (right c from to has_from has_to).policy stands;
      outside = λ c from to has_from has_to none. (right c from to has_from has_to).outside none;
    }

-- tables that are filled are those of the classes
pub filled_tables : (p : ClassParts) (ways : List (List (List Pair))) (tables : List (List Code)) → IsClasses p → AreFilledTo p ways tables (length p.compiled.model.components)
    → IsTables (record { classes = p; cells = map (map (cell_of ways)) tables })
filled_tables p ways tables classes h = record { classes = classes; cells = filled_all p ways tables h }
