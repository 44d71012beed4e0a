-- What a change costs, and sums of what the components cost.
use Rattle.std.proofs.Common.{◌≡◌, ◌≢◌, ◌<◌, ◌≤◌, ◌+◌, ◌*◌, ℕ, List, [], ◌∷◌, ◌++◌, length, sum, slice_get, slice_index, Option, Some, None, Contains, sym, subst, ◌∙◌, inl, inr, arith}
use Rattle.std.proofs.lemmas.Bool.{cases_eq}
use Rattle.std.proofs.lemmas.List.{length-append, get_or_append_left}
use Rattle.std.proofs.Math.Seq.{get_or-append_seam}
use Rattle.std.proofs.lemmas.List.Sums.{sum_by-append}
use Rattle.list_laws.proofs.Places.{value_at}
use Rattle.cca_base.specs.declared.limits.TheConstants.{MAX_COST}
use Rattle.cca_base.specs.PlantModel.{PlantModel}
use Rattle.cca_base.specs.Model.{WellFormed}
use Rattle.cca_base.specs.State.{IsState}
use Rattle.cca_base.specs.Successors.{Costs, ChangeCosts, Nominal}
use Rattle.cca_base.proofs.NominalLaws.{one_nominal}
use Rattle.cca_base.proofs.CheapCosts.{change_cheap}
use Rattle.cca_laws.proofs.CostLaws.{one_cost}
use Rattle.cca_base.specs.LeastCosts.{failing, IsLeast, IsChange}
use Rattle.plan_checker.specs.Costs.{AreParts, IsTotal}

-- ---- changes

no_change : (m : PlantModel) (c from nominal to cost : ℕ) → to ≢ nominal → (Contains m.failures (failing c from to cost) → ⊥) → ChangeCosts m c from nominal to cost → ⊥
no_change m c from nominal to cost other none (inl (same, nothing)) = other same
no_change m c from nominal to cost other none (inr (apart, failure, least)) = none failure

pub change_of : (m : PlantModel) (c from nominal to : ℕ) (known : Option ℕ) → to ≢ nominal → IsLeast m.failures c from to known → IsChange m c from nominal to known
change_of m c from nominal to None other none = λ cost h. no_change m c from nominal to cost other (none cost) h
change_of m c from nominal to (Some known) other (has, least) = inr (other, has, least)

-- ---- sums

module _ (m : PlantModel) (s nominal s2 : List ℕ) where
  more_parts : (count cost : ℕ) (parts : List ℕ) → AreParts m s nominal s2 count parts
      → ChangeCosts m count (slice_index s count) (slice_index nominal count) (slice_index s2 count) cost → AreParts m s nominal s2 (count + 1) (parts ++ cost ∷ [])
  more_parts count cost parts h more = record {
    full = omega (arith, length-append parts (cost ∷ []), h.full);
    each = λ c within. elim (cases_eq c count) [
      | inl e ↦
          let last : slice_index (parts ++ cost ∷ []) c ≡ cost = subst (λ d. slice_index (parts ++ cost ∷ []) d ≡ cost) (h.full ∙ sym e) (get_or-append_seam parts cost [] 0) in
          subst (ChangeCosts m c (slice_index s c) (slice_index nominal c) (slice_index s2 c)) (sym last)
          (subst (λ d. ChangeCosts m d (slice_index s d) (slice_index nominal d) (slice_index s2 d) cost) (sym e) more)
      | inr other ↦
          let below : c < count = omega (arith, within, other) in
          subst (ChangeCosts m c (slice_index s c) (slice_index nominal c) (slice_index s2 c)) (sym (get_or_append_left parts (cost ∷ []) 0 c (omega (arith, below, h.full)))) (h.each c below)
    ];
  }

  total_more : (parts : List ℕ) (cost : ℕ) → sum (parts ++ cost ∷ []) ≡ sum parts + cost
  total_more parts cost = omega (arith, sum_by-append (λ (n : ℕ). n) parts (cost ∷ []))

  pub no_total : (count : ℕ) → count < length s2 → ((cost : ℕ) → ChangeCosts m count (slice_index s count) (slice_index nominal count) (slice_index s2 count) cost → ⊥)
      → IsTotal m s nominal s2 None
  no_total count within none parts h = none (slice_index parts count) (h.each count within)

-- ---- costs

module _ (m : PlantModel) (s : List ℕ) (k : Option ℕ) (nominal s2 : List ℕ) (good : WellFormed m) (is : Nominal m s k nominal) where
  pub costs_of : (sum : ℕ) → IsState m s2 → IsTotal m s nominal s2 (Some sum) → Costs m s k s2 sum
  costs_of sum state (parts, h, e) = record { state = state; nominal = nominal; is_nominal = is; parts = parts; full = h.full; each = h.each; total = e }

  pub one_sum : (sum cost : ℕ) → IsState m s2 → IsTotal m s nominal s2 (Some sum) → Costs m s k s2 cost → sum ≡ cost
  one_sum sum cost state h costs = one_cost m s s2 k sum cost good (costs_of sum state h) costs

  pub no_costs : (cost : ℕ) → IsTotal m s nominal s2 None → Costs m s k s2 cost → ⊥
  no_costs cost none costs =
      let same : costs.nominal ≡ nominal = one_nominal m s k costs.nominal nominal good.commands costs.is_nominal is in
      none costs.parts
      (record { full = costs.full; each = λ c within. subst (λ l. ChangeCosts m c (slice_index s c) (slice_index l c) (slice_index s2 c) (slice_index costs.parts c)) same (costs.each c within) })

-- the sum of the first components' costs, none of which is too dear
pub record IsSumTo (m : PlantModel) (s nominal s2 : List ℕ) (count total : ℕ) : Type 0 where
  pub parts : List ℕ
  pub are : AreParts m s nominal s2 count parts
  pub sums : total ≡ sum parts
  pub cheap : total ≤ count * MAX_COST

pub sum_more : (m : PlantModel) → WellFormed m → (s nominal s2 : List ℕ) (count total cost : ℕ) → IsSumTo m s nominal s2 count total
    → ChangeCosts m count (slice_index s count) (slice_index nominal count) (slice_index s2 count) cost → IsSumTo m s nominal s2 (count + 1) (total + cost)
sum_more m good s nominal s2 count total cost h more = record {
  parts = h.parts ++ cost ∷ [];
  are = more_parts m s nominal s2 count cost h.parts h.are more;
  sums = omega (arith, total_more m s nominal s2 h.parts cost, h.sums);
  cheap = omega (arith, h.cheap, change_cheap m good count (slice_index s count) (slice_index nominal count) (slice_index s2 count) cost more);
}

-- what holds of the numbers that stand at a place of three lists holds of the entries there
pub along : (P : ℕ → ℕ → ℕ → Type 0) (s t u : List ℕ) (i x y z : ℕ) → slice_get s i ≡ Some x → slice_get t i ≡ Some y → slice_get u i ≡ Some z → P x y z
    → P (slice_index s i) (slice_index t i) (slice_index u i)
along P s t u i x y z e f g h =
    subst (λ n. P n (slice_index t i) (slice_index u i)) (sym (value_at s i x e)) (subst (λ n. P x n (slice_index u i)) (sym (value_at t i y f)) (subst (P x y) (sym (value_at u i z g)) h))
