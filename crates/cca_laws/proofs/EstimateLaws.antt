-- Estimates.
use Rattle.std.proofs.Common.{◌≡◌, ◌≤◌, ℕ, List, [], ◌∷◌, Option, All, inl, sym, ap, subst, ◌∙◌, refl, arith}
use Rattle.std.specs.Ordering.{nat_cmp, ordering_reverse}
use Rattle.std.specs.Cmp.Lexicographic.{slice_cmp}
use Rattle.std.specs.declared.cmp.Ordering.TheVariants.{Less, Equal, Greater}
use Rattle.std.proofs.lemmas.Cmp.{nat_list_cmp_total}
use Rattle.std.proofs.lemmas.Map.Lookups.{exact_bytes}
use Rattle.cca_base.specs.declared.cube.Pair.{Pair}
use Rattle.cca_base.specs.PlantModel.{PlantModel}
use Rattle.cca_base.specs.Accepted.{CompiledModel}
use Rattle.cca_base.specs.Estimates.{Consistent, Estimate, Unexplained}
use Rattle.cca_base.specs.Runs.{TickRecord, StaysRight, CanBeSeen, IsRight, LeavesPlantAlone}

-- neither is before the other, so they are one
pub neither : (a b : List ℕ) → (slice_cmp nat_cmp a b ≡ Less → ⊥) → (slice_cmp nat_cmp b a ≡ Less → ⊥) → a ≡ b
neither a b h k =
    elim (slice_cmp nat_cmp a b) as (λ o. slice_cmp nat_cmp a b ≡ o → a ≡ b) [
      | Less ↦ λ e. absurd (h e)
      | Equal ↦ λ e. exact_bytes a b e
      | Greater ↦ λ e. absurd (k (nat_list_cmp_total.antisymm b a ∙ ap ordering_reverse e))
    ] refl

pub one_estimate : (m : PlantModel) (s : List ℕ) (k : Option ℕ) (seen : List Pair) (a b : List ℕ) (cost other : ℕ)
    → Estimate m s k seen a cost → Estimate m s k seen b other → (a ≡ b) × (cost ≡ other)
one_estimate m s k seen a b cost other x y =
    let below : cost ≤ other = x.least b other y.consistent in
    let above : other ≤ cost = y.least a cost x.consistent in
    let same : cost ≡ other = omega arith in (
      neither a b
          (λ e. y.first a (subst (λ n. Consistent m s k seen a n) same x.consistent) e)
          (λ e. x.first b (subst (λ n. Consistent m s k seen b n) (sym same) y.consistent) e),
      same,
    )

pub never_both : (m : PlantModel) (s : List ℕ) (k : Option ℕ) (seen : List Pair) (a : List ℕ) (cost : ℕ) → Estimate m s k seen a cost → Unexplained m s k seen → ⊥
never_both m s k seen a cost x none = none a cost x.consistent

pub first_is_right : (b : CompiledModel) (t : TickRecord) → StaysRight b (t ∷ []) → All LeavesPlantAlone t.since → CanBeSeen b.model t → IsRight t
first_is_right b t stays quiet seen = (stays 0 t refl (inl (inl (refl, quiet))) seen).0
