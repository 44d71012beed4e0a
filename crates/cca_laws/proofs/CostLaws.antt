-- Costs.
use Rattle.std.proofs.Common.{◌≡◌, ◌<◌, ℕ, zero, suc, inl, inr, List, [], ◌∷◌, length, sum, slice_index, Option, refl, sym, ap, subst, ◌∙◌, arith}
use Rattle.std.proofs.lemmas.List.{ext_get_or}
use Rattle.std.proofs.lemmas.List.Elements.{All-contains}
use Rattle.std.proofs.lemmas.List.Sums.{sum_by-cons}
use Rattle.cca_base.specs.PlantModel.{PlantModel}
use Rattle.cca_base.specs.Model.{WellFormed, IsFailure}
use Rattle.cca_base.specs.State.{IsState}
use Rattle.cca_base.specs.Successors.{Nominal, Costs, ChangeCosts}
use Rattle.cca_base.proofs.NominalLaws.{one_nominal, nominal_length}

-- numbers that add up to nothing are nothing
sum_zero : (xs : List ℕ) (c : ℕ) → sum xs ≡ 0 → slice_index xs c ≡ 0
sum_zero [] c h = refl
sum_zero (x ∷ xs) zero h = omega (arith, h, sum_by-cons (λ (n : ℕ). n) x xs)
sum_zero (x ∷ xs) (suc c) h = sum_zero xs c (omega (arith, h, sum_by-cons (λ (n : ℕ). n) x xs))

free : (m : PlantModel) (c from nominal to cost : ℕ) → WellFormed m → ChangeCosts m c from nominal to cost → cost ≡ 0 → to ≡ nominal
free m c from nominal to cost good (inl (same, nothing)) e = same
free m c from nominal to cost good (inr (other, failure, least)) e =
    absurd (omega (arith, (All-contains (IsFailure m) m.failures _ good.failures failure).costs, e))

pub free_is_nominal : (m : PlantModel) (s t : List ℕ) (k : Option ℕ) (cost : ℕ) → WellFormed m → IsState m s → Costs m s k t cost → (cost ≡ 0 → Nominal m s k t)
free_is_nominal m s t k cost good state h e =
    let same : t ≡ h.nominal = ext_get_or 0 t h.nominal (h.state.full ∙ sym state.full ∙ sym (nominal_length m s h.nominal k h.is_nominal))
    (λ c within. free m c (slice_index s c) (slice_index h.nominal c) (slice_index t c) (slice_index h.parts c) good (h.each c within) (sum_zero h.parts c (sym h.total ∙ e))) in
    subst (Nominal m s k) (sym same) h.is_nominal

pub one_change : (m : PlantModel) (c from nominal to a b : ℕ) → ChangeCosts m c from nominal to a → ChangeCosts m c from nominal to b → a ≡ b
one_change m c from nominal to a b (inl (same, nothing)) (inl (also, none)) = nothing ∙ sym none
one_change m c from nominal to a b (inl (same, nothing)) (inr (other, failure, least)) = absurd (other same)
one_change m c from nominal to a b (inr (other, failure, least)) (inl (same, nothing)) = absurd (other same)
one_change m c from nominal to a b (inr (other, failure, least)) (inr (apart, another, lowest)) = omega (arith, least b another, lowest a failure)

one_part : (m : PlantModel) (s t : List ℕ) (k : Option ℕ) (a b : ℕ) → WellFormed m → (x : Costs m s k t a) (y : Costs m s k t b) (c : ℕ) → c < length t → slice_index x.parts c ≡ slice_index y.parts c
one_part m s t k a b good x y c within =
    let same : y.nominal ≡ x.nominal = one_nominal m s k y.nominal x.nominal good.commands y.is_nominal x.is_nominal in
    let other = subst (λ l. ChangeCosts m c (slice_index s c) (slice_index l c) (slice_index t c) (slice_index y.parts c)) same (y.each c within) in
    one_change m c (slice_index s c) (slice_index x.nominal c) (slice_index t c) (slice_index x.parts c) (slice_index y.parts c) (x.each c within) other

pub one_cost : (m : PlantModel) (s t : List ℕ) (k : Option ℕ) (a b : ℕ) → WellFormed m → Costs m s k t a → Costs m s k t b → a ≡ b
one_cost m s t k a b good x y =
    let parts : x.parts ≡ y.parts = ext_get_or 0 x.parts y.parts (x.full ∙ sym y.full) (λ c within. one_part m s t k a b good x y c (omega (arith, within, x.full))) in
    x.total ∙ ap sum parts ∙ sym y.total
