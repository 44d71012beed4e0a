-- What a change of a component costs is little, and so is what a successor costs.
use Rattle.std.proofs.Common.{◌≡◌, ◌<◌, ◌≤◌, ◌^◌, ◌*◌, ℕ, List, length, sum, slice_index, Option, All, inl, inr, arith}
use Rattle.std.proofs.lemmas.List.Elements.{All-contains, All-from_get_or}
use Rattle.std.proofs.lemmas.List.Sums.{sum_by-le}
use Rattle.cca_base.specs.declared.limits.TheConstants.{MAX_COMPONENTS, MAX_COST}
use Rattle.cca_base.specs.PlantModel.{PlantModel}
use Rattle.cca_base.specs.Model.{WellFormed, IsFailure}
use Rattle.cca_base.specs.Successors.{Costs, ChangeCosts}
use Rattle.cca_base.specs.LeastCosts.{failing}

pub change_cheap : (m : PlantModel) → WellFormed m → (c from nominal to cost : ℕ) → ChangeCosts m c from nominal to cost → cost ≤ MAX_COST
change_cheap m good c from nominal to cost (inl (same, nothing)) = omega (arith, nothing)
change_cheap m good c from nominal to cost (inr (other, failure, least)) = (All-contains (IsFailure m) m.failures (failing c from to cost) good.failures failure).cheap

-- each component's part is cheap, and there are not many
pub cost_fits : (m : PlantModel) → WellFormed m → (s s2 : List ℕ) (k : Option ℕ) (cost : ℕ) → Costs m s k s2 cost → cost < 2 ^ 64
cost_fits m wf s s2 k cost h =
    let cheap : All (λ part. part ≤ MAX_COST) h.parts =
    All-from_get_or (λ part. part ≤ MAX_COST) h.parts 0 (λ c lt. change_cheap m wf c (slice_index s c) (slice_index h.nominal c) (slice_index s2 c) (slice_index h.parts c) (h.each c (omega (arith, lt, h.full)))) in
    let whole : sum h.parts ≤ length h.parts * MAX_COST = sum_by-le (λ (n : ℕ). n) MAX_COST h.parts cheap in
    let few : length m.components ≤ MAX_COMPONENTS = wf.limits.components in
    let full : length s2 ≡ length m.components = h.state.full in
    omega (arith, whole, few, full, h.full, h.total)
