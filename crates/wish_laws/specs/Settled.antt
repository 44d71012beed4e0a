-- States that settle, and the lightest of them that holds a wish.
use Rattle.std.specs.Prelude.{◌≡◌, ◌⊎◌, ◌<◌, ◌≤◌, ◌+◌, ◌↔◌, ℕ, false, List, [], ◌∷◌, length, slice_index, Contains}
use Rattle.cca_base.specs.declared.cube.Pair.{Pair}
use Rattle.cca_base.specs.declared.formula.Formula.{Formula}
use Rattle.cca_base.specs.PlantModel.{PlantModel}
use Rattle.cca_base.specs.Accepted.{CompiledModel}
use Rattle.cca_base.specs.Model.{is_broken}
use Rattle.cca_base.specs.State.{Holds}
use Rattle.cca_base.specs.Orders.{AreInOrder}
use Rattle.cca_base.specs.Plans.{Whole}
use Rattle.cca_base.specs.Estimates.{IsEarlier}
use Rattle.cca_base.specs.Steps.{AllowedPlan, Reach}

-- allowed plans reach no mode of the component that is not broken
abbrev pub IsLostFrom : PlantModel → List ℕ → ℕ → Type 0
IsLostFrom m s c = (mode : ℕ) → is_broken m.moves c mode ≡ false → Reach m s c mode → ⊥

-- an allowed plan ends in the state; each component's mode in it is not broken, or stays since no such mode is reached
pub record Settled (m : PlantModel) (s t : List ℕ) : Type 0 where
  pub commands : List ℕ
  pub plan : AllowedPlan m s commands t
  pub each : (c : ℕ) → c < length m.components
      → (is_broken m.moves c (slice_index t c) ≡ false) ⊎ ((slice_index t c ≡ slice_index s c) × IsLostFrom m s c)

-- the sum of the weights of a state's modes
abbrev pub weight_of : List (List ℕ) → List ℕ → ℕ
weight_of [] t = 0
weight_of (row ∷ weights) [] = 0
weight_of (row ∷ weights) (mode ∷ t) = slice_index row mode + weight_of weights t

-- a settled state that holds the wish; no such state weighs less, and none of equal weight is earlier
pub record IsTarget (m : PlantModel) (weights : List (List ℕ)) (s : List ℕ) (f : Formula) (t : List ℕ) : Type 0 where
  pub settled : Settled m s t
  pub holds : Holds m t f
  pub least : (u : List ℕ) → Settled m s u → Holds m u f → weight_of weights t ≤ weight_of weights u
  pub first : (u : List ℕ) → Settled m s u → Holds m u f → weight_of weights u ≡ weight_of weights t → IsEarlier u t → ⊥

-- no settled state holds the wish
abbrev pub NoneHolds : PlantModel → List ℕ → Formula → Type 0
NoneHolds m s f = (t : List ℕ) → Settled m s t → Holds m t f → ⊥

-- exactly the pairs of the state whose modes are not broken, in order
pub record IsGoalOf (b : CompiledModel) (t : List ℕ) (goal : List Pair) : Type 0 where
  pub in_order : AreInOrder b.order goal
  pub each : (p : Pair) → Contains goal p
      ↔ ((p.item < length b.model.components) × (p.value ≡ slice_index t p.item) × (is_broken b.model.moves p.item p.value ≡ false))

-- each whole plan for the goal ends in exactly the state
abbrev pub PlansEndIn : CompiledModel → List ℕ → List Pair → List ℕ → Type 0
PlansEndIn b s goal t = (ks last : List ℕ) → Whole b goal s ks last → last ≡ t
