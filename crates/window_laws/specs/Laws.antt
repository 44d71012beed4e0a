-- Laws of best trajectories.
use Rattle.std.specs.Prelude.{◌≡◌, ◌+◌, ◌↔◌, ℕ, List, [], ◌∷◌, ◌++◌, Option}
use Rattle.cca_base.specs.declared.cube.Pair.{Pair}
use Rattle.cca_base.specs.PlantModel.{PlantModel}
use Rattle.cca_base.specs.State.{Extends}
use Rattle.cca_base.specs.Estimates.{Consistent, Estimate, IsEarlier}
use Rattle.cca_base.specs.Shown.{Clash}
use Rattle.window_laws.specs.Trajectories.{Entry, Trajectory, IsEarlierPath, Best}

-- there is one best trajectory at most, and its cost
abbrev pub OneBest : Type 0
OneBest = (m : PlantModel) (anchor : List ℕ) (records : List Entry) (a b : List (List ℕ)) (cost other : ℕ)
    → Best m anchor records a cost → Best m anchor records b other → (a ≡ b) × (cost ≡ other)

-- behind its first state the best trajectory is the best from there
abbrev pub TailsAreBest : Type 0
TailsAreBest = (m : PlantModel) (anchor s : List ℕ) (r : Entry) (records : List Entry) (states : List (List ℕ)) (cost : ℕ)
    → Best m anchor (r ∷ records) (s ∷ states) cost → (rest : ℕ) × Best m s records states rest

-- over one record the best trajectory is the estimate
abbrev pub OneRecord : Type 0
OneRecord = (m : PlantModel) (anchor s : List ℕ) (r : Entry) (cost : ℕ) → Best m anchor (r ∷ []) (s ∷ []) cost ↔ Estimate m anchor r.command r.seen s cost

-- the last state, or the anchor where there is none
abbrev pub last_or : List ℕ → List (List ℕ) → List ℕ
last_or anchor [] = anchor
last_or anchor (s ∷ states) = last_or s states

-- one record more adds what its own step costs
abbrev pub AddsAtEnd : Type 0
AddsAtEnd = (m : PlantModel) (anchor s : List ℕ) (records : List Entry) (r : Entry) (states : List (List ℕ)) (cost : ℕ)
    → Trajectory m anchor (records ++ r ∷ []) (states ++ s ∷ []) cost
    → (before own : ℕ) × Trajectory m anchor records states before × Consistent m (last_or anchor states) r.command r.seen s own × (cost ≡ before + own)

-- the oldest state decides
abbrev pub OldestDecides : Type 0
OldestDecides = (s t : List ℕ) (a b : List (List ℕ)) → IsEarlier s t → IsEarlierPath (s ∷ a) (t ∷ b)

-- a state that extends a clash is in no trajectory at that record
abbrev pub ClashesCut : Type 0
ClashesCut = (m : PlantModel) (s t : List ℕ) (k : Option ℕ) (seen cube : List Pair) (cost : ℕ) → Clash m seen cube → Extends t cube → Consistent m s k seen t cost → ⊥
