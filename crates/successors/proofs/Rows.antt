-- The rows of all components.
use Rattle.std.proofs.Common.{◌≡◌, ◌≢◌, inl, inr, ℕ, ◌+◌, ◌<◌, ◌==◌, List, [], length, get_or, set, Option, Some, None, IfSome, IsNone, refl, sym, ap, subst, ◌∙◌, arith}
use Rattle.std.proofs.lemmas.Bool.{cases_eq, eq-eqb, ne_eqb, cond-true, cond-false}
use Rattle.std.proofs.lemmas.List.{get_or-set_same, get_or-set_other}
use Rattle.std.proofs.lemmas.List.Elements.{All-from_get_or}
use Rattle.cca_base.specs.declared.cube.Pair.{Pair}
use Rattle.cca_base.specs.PlantModel.{PlantModel}
use Rattle.cca_base.specs.Model.{WellFormed, mode_counts}
use Rattle.cca_base.specs.State.{IsState}
use Rattle.cca_base.specs.Successors.{Nominal}
use Rattle.cca_base.specs.declared.choice.Choice.{Choice}
use Rattle.cca_base.specs.Choices.{IsRow}
use Rattle.successors.specs.Nominal.{IsSent, NoneSent}
use Rattle.successors.specs.Choices.{AreRowsTo, AreChanges, AreChoices, IsWritten, mode_after, state_after}

pub rows_none : (m : PlantModel) (s : List ℕ) (moved : Option Pair) (rows : List (List Choice)) → AreRowsTo m s moved 0 rows
rows_none m s moved rows = record { rows_fit = λ c h. absurd (omega arith); each = λ c h. absurd (omega arith) }

pub rows_more : (m : PlantModel) (s : List ℕ) (moved : Option Pair) (c : ℕ) (old new : List (List Choice)) → c < length old → AreRowsTo m s moved c old
    → IsWritten m c (get_or s c 0) (mode_after moved c (get_or s c 0)) old new → AreRowsTo m s moved (c + 1) new
rows_more m s moved c old new within h w =
    let here : w.row ≡ get_or new c [] = sym (ap (λ rows. get_or rows c []) w.is ∙ get_or-set_same old c w.row [] within) in
    let there = λ (i : ℕ) (ne : i ≢ c). sym (ap (λ rows. get_or rows i []) w.is ∙ get_or-set_other old c i w.row [] ne) in record {
      rows_fit = λ i lt. elim (cases_eq i c) [
        | inl e ↦ subst (λ k. IsRow (get_or new k [])) (sym e) (subst IsRow here w.fits)
        | inr ne ↦ subst IsRow (there i ne) (h.rows_fit i (omega arith))
      ];
      each = λ i lt. elim (cases_eq i c) [
        | inl e ↦ subst (λ k. AreChanges m k (get_or s k 0) (mode_after moved k (get_or s k 0)) (get_or (mode_counts m) k 0) (get_or new k [])) (sym e)
            (subst (AreChanges m c (get_or s c 0) (mode_after moved c (get_or s c 0)) (get_or (mode_counts m) c 0)) here w.changes)
        | inr ne ↦ subst (AreChanges m i (get_or s i 0) (mode_after moved i (get_or s i 0)) (get_or (mode_counts m) i 0)) (there i ne) (h.each i (omega arith))
      ];
    }

nominal_by : (m : PlantModel) (s : List ℕ) (k : Option ℕ) (moved : Option Pair) → IfSome moved (IsSent m s k) → (IsNone moved → NoneSent m s k) → Nominal m s k (state_after moved s)
nominal_by m s k None some none = inr (none refl, refl)
nominal_by m s k (Some p) some none = inl (some.move, some.commanded, ap (λ (q : Pair). set s q.item q.value) some.is_target)

mode_by : (moved : Option Pair) (s : List ℕ) (c : ℕ) → c < length s → mode_after moved c (get_or s c 0) ≡ get_or (state_after moved s) c 0
mode_by None s c h = refl
mode_by (Some p) s c h = elim (cases_eq p.item c) [
  | inl e ↦ cond-true (p.item == c) p.value (get_or s c 0) (eq-eqb p.item c e)
      ∙ sym (ap (λ i. get_or (set s i p.value) c 0) e ∙ get_or-set_same s c p.value 0 h)
  | inr ne ↦ cond-false (p.item == c) p.value (get_or s c 0) (ne_eqb p.item c ne) ∙ sym (get_or-set_other s p.item c p.value 0 (λ same. ne (sym same)))
]

pub all_choices : (m : PlantModel) (s : List ℕ) (k : Option ℕ) (moved : Option Pair) (n : ℕ) (rows : List (List Choice)) → WellFormed m → IsState m s → IfSome moved (IsSent m s k)
    → (IsNone moved → NoneSent m s k) → n ≡ length m.components → length rows ≡ n → AreRowsTo m s moved n rows → AreChoices m s k rows
all_choices m s k moved n rows fits state some none e full h =
    let few = fits.limits.components in
    let state_full = state.full in
    record {
      rows_fit = record { few = omega arith; each = All-from_get_or IsRow rows [] (λ c lt. h.rows_fit c (omega arith)) };
      full = full ∙ e;
      nominal = state_after moved s;
      is_nominal = nominal_by m s k moved some none;
      each = λ c x within. subst (λ to. AreChanges m c (get_or s c 0) to (get_or (mode_counts m) c 0) (get_or rows c [])) (mode_by moved s c (omega arith)) (h.each c (omega arith)) x;
    }
