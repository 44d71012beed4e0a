-- The least cost of the failures from a mode to another, and what a component's change costs.
use Rattle.std.specs.Prelude.{ℕ, ◌≤◌, List, Contains, Option, Some, None, min}
use Rattle.cca_base.specs.declared.model.Failure.{Failure}
use Rattle.cca_base.specs.PlantModel.{PlantModel}
use Rattle.cca_base.specs.Successors.{ChangeCosts}

-- a failure of the component between these modes, at this cost
abbrev pub failing : ℕ → ℕ → ℕ → ℕ → Failure
failing c from to cost = record { component = c; source = from; target = to; cost = cost }

-- the least cost of such failures among these, if there is one
abbrev pub IsLeast : List Failure → ℕ → ℕ → ℕ → Option ℕ → Type 0
IsLeast failures c from to None = (cost : ℕ) → Contains failures (failing c from to cost) → ⊥
IsLeast failures c from to (Some k) = Contains failures (failing c from to k) × ((cost : ℕ) → Contains failures (failing c from to cost) → k ≤ cost)

-- the lesser of a cost and one that may be known
abbrev pub lesser_of : Option ℕ → ℕ → ℕ
lesser_of None cost = cost
lesser_of (Some k) cost = min k cost

-- what the component's change to the mode costs, if it can change to it
abbrev pub IsChange : PlantModel → ℕ → ℕ → ℕ → ℕ → Option ℕ → Type 0
IsChange m c from nominal to None = (cost : ℕ) → ChangeCosts m c from nominal to cost → ⊥
IsChange m c from nominal to (Some k) = ChangeCosts m c from nominal to k
