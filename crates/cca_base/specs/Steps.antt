-- Steps by commands, plans of them, and which steps are allowed.
use Rattle.std.specs.Prelude.{◌≡◌, ℕ, ◌⊎◌, IsTrue, List, [], ◌∷◌, slice_get, slice_set, Some, All, Contains}
use Rattle.cca_base.specs.declared.cube.Pair.{Pair}
use Rattle.cca_base.specs.declared.model.Move.{Move}
use Rattle.cca_base.specs.PlantModel.{PlantModel}
use Rattle.cca_base.specs.State.{Follows}
use Rattle.cca_base.specs.Repairs.{sound_pairs, Mending}
use Rattle.cca_base.specs.Implicants.{source_pair}

-- what a move may lean on in a state: its own component's pair, and the pairs of all components that are not broken
abbrev pub support : PlantModel → List ℕ → Move → List Pair
support m s move = source_pair move ∷ sound_pairs m s

-- the command names a move from its component's mode, the guard follows from what the move may lean on, and only that component changes
pub record Step (m : PlantModel) (s : List ℕ) (k : ℕ) (s2 : List ℕ) : Type 0 where
  pub move : Move
  pub of_model : Contains m.moves move
  pub command : move.command ≡ k
  pub source : slice_get s move.component ≡ Some move.source
  pub guard : Follows m (support m s move) move.guard
  pub gives : s2 ≡ slice_set s move.component move.target

-- a kind of steps: which commands lead from which states to which
abbrev pub StepKind : Type 1
StepKind = List ℕ → ℕ → List ℕ → Type 0

-- the commands lead from state to state by steps of one kind
abbrev pub Leads : StepKind → List ℕ → List ℕ → List ℕ → Type 0
Leads kind s [] s2 = s2 ≡ s
Leads kind s (k ∷ ks) s2 = (mid : List ℕ) × kind s k mid × Leads kind mid ks s2

-- the commands are steps one after the other
abbrev pub Run : PlantModel → List ℕ → List ℕ → List ℕ → Type 0
Run m = Leads (Step m)

-- a step that is a repair, or from whose result some list of steps leads to a mending of the state before it
pub record Allowed (m : PlantModel) (s : List ℕ) (k : ℕ) (s2 : List ℕ) : Type 0 where
  pub step : Step m s k s2
  pub back : IsTrue step.move.repair ⊎ ((ks s3 : List ℕ) × Run m s2 ks s3 × Mending m s s3)

-- the commands are allowed steps one after the other
abbrev pub AllowedPlan : PlantModel → List ℕ → List ℕ → List ℕ → Type 0
AllowedPlan m = Leads (Allowed m)

-- some allowed plan ends with the component in the mode
abbrev pub Reach : PlantModel → List ℕ → ℕ → ℕ → Type 0
Reach m s c mode = (ks s2 : List ℕ) × AllowedPlan m s ks s2 × (slice_get s2 c ≡ Some mode)

-- allowed plans reach each of the pairs
abbrev pub AreReached : PlantModel → List ℕ → List Pair → Type 0
AreReached m s pairs = All (λ p. Reach m s p.item p.value) pairs
