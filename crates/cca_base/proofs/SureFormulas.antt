-- What the parts that are left say of the truth of an `and` and of an `or`.
use Rattle.std.proofs.Common.{◌≡◌, ◌<◌, ◌+◌, ◌&&◌, ◌||◌, ℕ, suc, Bool, true, false, not, IsTrue, List, [], ◌∷◌, length, drop, map, get_or, refl, sym, ap, ◌∙◌, add-one, drop-cons}
use mathlib.Core.Bool.{and-false, or-true}
use Rattle.std.proofs.Math.Bool.{beq}
use Rattle.std.specs.List.{list_all, list_any}
use Rattle.cca_base.specs.declared.formula.Formula.{Formula}
use Rattle.cca_base.specs.Formula.{truth}

-- whether all of the formulas are true, or some of them
abbrev pub all_true : List ℕ → List ℕ → List Formula → Bool
all_true s w parts = list_all (λ b. b) (map (truth s w) parts)

abbrev pub some_true : List ℕ → List ℕ → List Formula → Bool
some_true s w parts = list_any (λ b. b) (map (truth s w) parts)

-- where all has to be true, what is left has the truth of the whole; where it is false, so is the whole
pub record AllLeft (want : Bool) (s w : List ℕ) (left : List Formula) (whole : Bool) : Type 0 where
  pub same : want ≡ true → all_true s w left ≡ whole
  pub fails : all_true s w left ≡ false → whole ≡ false

-- where all has to be false, what is left has the truth of the whole; where it is true, so is the whole
pub record AnyLeft (want : Bool) (s w : List ℕ) (left : List Formula) (whole : Bool) : Type 0 where
  pub same : want ≡ false → some_true s w left ≡ whole
  pub holds : some_true s w left ≡ true → whole ≡ true

-- the part at a place, and those behind it
pub part_left : (items : List Formula) (i : ℕ) (x : Formula) → i < length items → x ≡ get_or items i x → drop i items ≡ x ∷ drop (i + 1) items
part_left items i x within at = rw (add-one) (drop-cons items i x within ∙ ap (λ (y : Formula). y ∷ drop (suc i) items) (sym at))

module _ (want : Bool) (s w : List ℕ) (x : Formula) (left : List Formula) (whole : Bool) where
  pub all_goes_on : AllLeft want s w (x ∷ left) whole → (want ≡ true → truth s w x ≡ true) → AllLeft want s w left whole
  all_goes_on h part = record {
    same = λ e. sym (ap (λ b. b && all_true s w left) (part e)) ∙ h.same e;
    fails = λ e. h.fails (ap (λ b. truth s w x && b) e ∙ and-false (truth s w x));
  }

  pub all_fails : AllLeft want s w (x ∷ left) whole → truth s w x ≡ false → whole ≡ false
  all_fails h part = h.fails (ap (λ b. b && all_true s w left) part)

  pub any_goes_on : AnyLeft want s w (x ∷ left) whole → (want ≡ false → truth s w x ≡ false) → AnyLeft want s w left whole
  any_goes_on h part = record {
    same = λ e. sym (ap (λ b. b || some_true s w left) (part e)) ∙ h.same e;
    holds = λ e. h.holds (ap (λ b. truth s w x || b) e ∙ or-true (truth s w x));
  }

  pub any_holds : AnyLeft want s w (x ∷ left) whole → truth s w x ≡ true → whole ≡ true
  any_holds h part = h.holds (ap (λ b. b || some_true s w left) part)

pub all_ends : (want : Bool) (s w : List ℕ) (left : List Formula) (whole : Bool) → left ≡ [] → AllLeft want s w left whole → want ≡ true → whole ≡ want
all_ends want s w left whole none h e = sym (h.same e) ∙ ap (all_true s w) none ∙ sym e

pub any_ends : (want : Bool) (s w : List ℕ) (left : List Formula) (whole : Bool) → left ≡ [] → AnyLeft want s w left whole → want ≡ false → whole ≡ want
any_ends want s w left whole none h e = sym (h.same e) ∙ ap (some_true s w) none ∙ sym e

-- ---- answers and what is wanted

pub not_wanted : (want : Bool) → IsTrue (not want) → want ≡ false
not_wanted true h = sym h
not_wanted false h = refl

pub not_not : (b : Bool) → not (not b) ≡ b
not_not true = refl
not_not false = refl

pub sure_other : (r want : Bool) → not (beq r want) ≡ true → want ≡ false → r ≡ true
sure_other true want h e = refl
sure_other false true h e = absurd cc
sure_other false false h e = absurd cc

pub sure_same : (r want : Bool) → not (beq r want) ≡ false → want ≡ true → r ≡ true
sure_same true want h e = refl
sure_same false true h e = absurd cc
sure_same false false h e = absurd cc

pub found_same : (r want : Bool) → beq r want ≡ true → want ≡ true → r ≡ true
found_same true want h e = refl
found_same false true h e = absurd cc
found_same false false h e = absurd cc

pub found_other : (r want : Bool) → beq r want ≡ false → want ≡ false → r ≡ true
found_other true want h e = refl
found_other false true h e = absurd cc
found_other false false h e = absurd cc
