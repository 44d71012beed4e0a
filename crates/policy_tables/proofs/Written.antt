-- Tables that are written one component after the other.
use Rattle.std.proofs.Common.{◌≡◌, ◌≢◌, ◌<◌, ◌≤◌, ◌+◌, ◌*◌, ◌⊎◌, ℕ, Bool, List, [], length, slice_index, slice_index_or, slice_set, sym, ap, subst, ◌∙◌, inl, inr, arith}
use Rattle.std.proofs.lemmas.Bool.{cases_lt, cases_order}
use Rattle.std.proofs.lemmas.List.{get_or-set_same, get_or-set_other, length-set}
use Rattle.cca_base.specs.declared.cube.Pair.{Pair}
use Rattle.cca_base.specs.Flags.{IsSet}
use Rattle.cca_base.specs.Model.{mode_counts}
use Rattle.reversibility.specs.ClassParts.{ClassParts}
use Rattle.policy_tables.specs.declared.code.Code.{Code}
use Rattle.policy_tables.specs.Filling.{AreFilledTo, AreRightCells, HasPlaces}

-- there are places for all cells; the cells of the first components are right, and those that are flagged
pub record AreWritten (p : ClassParts) (ways : List (List (List Pair))) (flags : List Bool) (tables : List (List Code)) (n : ℕ) : Type 0 where
  pub places : HasPlaces p tables
  pub each : (c : ℕ) → (c < n) ⊎ IsSet flags c → AreRightCells p ways c (slice_index_or tables c [])

module _ (p : ClassParts) (ways : List (List (List Pair))) (flags : List Bool) where
  -- before the first component those that are flagged are
  pub written_none : (tables : List (List Code)) → HasPlaces p tables → ((c : ℕ) → IsSet flags c → AreRightCells p ways c (slice_index_or tables c [])) → AreWritten p ways flags tables 0
  written_none tables places kept = record { places = places; each = λ c which. elim which [ inl lt ↦ absurd (omega (arith, lt)) | inr set ↦ kept c set ] }

  -- one component more, whose cells stay
  pub written_kept : (tables : List (List Code)) (n : ℕ) → IsSet flags n → AreWritten p ways flags tables n → AreWritten p ways flags tables (n + 1)
  written_kept tables n set h = record {
    places = h.places;
    each = λ c which. elim which [
      | inl lt ↦ elim (cases_lt c n) [
        | inl before ↦ h.each c (inl before)
        | inr past ↦
            let here : n ≡ c = omega (arith, lt, past) in
            subst (λ k. AreRightCells p ways k (slice_index_or tables k [])) here (h.each n (inr set))
      ]
      | inr flag ↦ h.each c (inr flag)
    ];
  }

  -- one component more, whose cells are written
  pub written_set : (tables written : List (List Code)) (n : ℕ) (codes : List Code) → n < length p.compiled.model.components → written ≡ slice_set tables n codes → AreRightCells p ways n codes
      → AreWritten p ways flags tables n → AreWritten p ways flags written (n + 1)
  written_set tables written n codes within is right h =
      let inside : n < length tables = omega (arith, within, h.places.full) in
      let here : slice_index_or written n [] ≡ codes = ap (λ l. slice_index_or l n []) is ∙ get_or-set_same tables n codes [] inside in
      let other : (c : ℕ) → c ≢ n → slice_index_or written c [] ≡ slice_index_or tables c [] = λ c apart. ap (λ l. slice_index_or l c []) is ∙ get_or-set_other tables n c codes [] apart in
      record {
        places = record {
          full = ap length is ∙ length-set tables n codes ∙ h.places.full;
          each = λ c lt. elim (cases_order c n) [
            | inl e ↦ subst (λ k. length (slice_index_or written k []) ≡ slice_index (mode_counts p.compiled.model) k * slice_index (mode_counts p.compiled.model) k) (sym e) (ap length here ∙ right.full)
            | inr (inl less) ↦ ap length (other c (λ e. omega (arith, e, less))) ∙ h.places.each c lt
            | inr (inr more) ↦ ap length (other c (λ e. omega (arith, e, more))) ∙ h.places.each c lt
          ];
        };
        each = λ c which. elim (cases_order c n) [
          | inl e ↦ subst (λ k. AreRightCells p ways k (slice_index_or written k [])) (sym e) (subst (AreRightCells p ways n) (sym here) right)
          | inr (inl less) ↦ subst (AreRightCells p ways c) (sym (other c (λ e. omega (arith, e, less)))) (h.each c (inl less))
          | inr (inr more) ↦ subst (AreRightCells p ways c) (sym (other c (λ e. omega (arith, e, more)))) (elim which [
            | inl lt ↦ absurd (omega (arith, lt, more))
            | inr set ↦ h.each c (inr set)
          ])
        ];
      }

  -- behind the last component all are
  pub written_all : (tables : List (List Code)) (n : ℕ) → length p.compiled.model.components ≤ n → AreWritten p ways flags tables n → AreFilledTo p ways tables (length p.compiled.model.components)
  written_all tables n past h = record { full = h.places.full; each = λ c lt. h.each c (inl (omega (arith, lt, past))) }
