-- The model with a reset is well formed.
use Rattle.std.proofs.Common.{inl, ◌≡◌, ◌==◌, ℕ, zero, suc, Bool, true, [], ◌∷◌, Contains, refl, ap, ◌∙◌, arith}
use Rattle.std.proofs.lemmas.Bool.{false≢true, and_parts, eqb-true}
use Rattle.std.proofs.lemmas.List.Elements.{All-nil}
use Rattle.cca_base.specs.declared.formula.Formula.TheOpen.{Formula-F}
use Rattle.cca_base.specs.declared.formula.Formula.TheFolds.{fold-roll-Formula}
use Rattle.cca_base.specs.declared.formula.Subject.TheVariants.{Component}
use Rattle.cca_base.specs.declared.model.Move.{Move}
use Rattle.cca_base.specs.Formula.{Printed, fits_step}
use Rattle.cca_base.specs.Model.{WellFormed, IsFormula, IsNext, is_repair_of, IsComplete}
use Rattle.list_laws.proofs.Few.{five_at}
use Rattle.cca_laws.proofs.SmallModels.{small_fits, failures_fit, mending_fits, own_used}
use Rattle.cca_laws.proofs.EdgeExamples.{always_fits}
use Rattle.cca_laws.proofs.FormulaExamples.{mode_printed}
use Rattle.cca_laws.specs.FormulaExamples.{mode_in}
use Rattle.cca_laws.specs.MendExamples.{reset_move, z_move, ok_move, go_move, back_move, mending}

mends_m : (c mode : ℕ) → is_repair_of c mode reset_move ≡ true → (0 ≡ c) × (0 ≡ mode)
mends_m c mode h = let parts = and_parts (0 == c) (0 == mode) h in (eqb-true 0 c parts.0, eqb-true 0 mode parts.1)

-- only m has a next mode, ok
next_at : (c mode mended : ℕ) → (h : IsNext mending.moves c mode mended) → Contains mending.moves h.repair → (0 ≡ c) × (0 ≡ mode) × (1 ≡ mended)
next_at c mode mended h (zero, lt, e) =
    let from = mends_m c mode (ap (is_repair_of c mode) e ∙ h.mends) in
    (from.0, from.1, ap (λ (y : Move). y.target) e ∙ h.target)
next_at c mode mended h (suc zero, lt, e) = absurd (false≢true (ap (is_repair_of c mode) e ∙ h.mends))
next_at c mode mended h (suc (suc zero), lt, e) = absurd (false≢true (ap (is_repair_of c mode) e ∙ h.mends))
next_at c mode mended h (suc (suc (suc zero)), lt, e) = absurd (false≢true (ap (is_repair_of c mode) e ∙ h.mends))
next_at c mode mended h (suc (suc (suc (suc zero))), lt, e) = absurd (false≢true (ap (is_repair_of c mode) e ∙ h.mends))
next_at c mode mended h (suc (suc (suc (suc (suc k)))), lt, e) = absurd (omega arith)

pub only_m_has_next : (c mode mended : ℕ) → IsNext mending.moves c mode mended → (0 ≡ c) × (0 ≡ mode) × (1 ≡ mended)
only_m_has_next c mode mended h = next_at c mode mended h h.of_model

guard_fits : IsFormula mending (mode_in 0 4)
guard_fits = record {
  fits = fold-roll-Formula Bool (fits_step (3 ∷ 2 ∷ []) []) (Formula-F.Among (Component 0) 4);
  shallow = let e = ap (λ (x : Printed). x.depth) (mode_printed 0 4) in omega (arith, e);
}

pub well_formed : WellFormed mending
well_formed = small_fits mending refl (inl refl) (All-nil (IsFormula mending))
    (five_at (λ (move : Move). IsFormula mending move.guard) reset_move z_move ok_move go_move back_move
    (always_fits mending) (always_fits mending) (always_fits mending) (always_fits mending) guard_fits)
    (failures_fit mending refl) (mending_fits 1 mending.moves refl)

pub used : IsComplete mending
used = own_used mending.moves refl
