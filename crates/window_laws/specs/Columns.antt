-- The window component by component: what a search for its least solution rests on.
use Rattle.std.specs.Prelude.{◌≡◌, ◌≢◌, ◌⊎◌, ⊤, ◌<◌, ◌+◌, ℕ, Bool, true, false, List, [], ◌∷◌, length, map, sum, slice_get, slice_index, Option, Some, Contains}
use Rattle.cca_base.specs.declared.cube.Pair.{Pair}
use Rattle.cca_base.specs.declared.model.Move.{Move}
use Rattle.cca_base.specs.PlantModel.{PlantModel}
use Rattle.cca_base.specs.Model.{WellFormed}
use Rattle.cca_base.specs.State.{IsState, Extends}
use Rattle.cca_base.specs.Shown.{CanShow}
use Rattle.cca_base.specs.Implicants.{PrimeImplicant, source_pair}
use Rattle.cca_base.specs.Successors.{IsCommanded, ChangeCosts}
use Rattle.window_laws.specs.Trajectories.{Entry, Trajectory}

-- whether the command moves something
abbrev pub IsGate : PlantModel → List ℕ → Option ℕ → Bool → Type 0
IsGate m s k true = (move : Move) × IsCommanded m s k move
IsGate m s k false = (move : Move) → IsCommanded m s k move → ⊥

-- the same of each record, from the state before it
abbrev pub AreGates : PlantModel → List ℕ → List Entry → List Bool → List (List ℕ) → Type 0
AreGates m anchor [] [] [] = ⊤
AreGates m anchor (r ∷ records) (g ∷ gates) (s ∷ states) = IsGate m anchor r.command g × AreGates m s records gates states
AreGates m anchor records gates states = ⊥

-- a move of the component by the command from the mode
pub record IsOwn (m : PlantModel) (c : ℕ) (k : Option ℕ) (from : ℕ) (move : Move) : Type 0 where
  pub of_model : Contains m.moves move
  pub command : k ≡ Some move.command
  pub own : move.component ≡ c
  pub source : move.source ≡ from

-- where the gate sends the component: along its own move where it is open, if there is one; else it stays
abbrev pub Sends : PlantModel → ℕ → Option ℕ → Bool → ℕ → ℕ → Type 0
Sends m c k true from to = ((move : Move) × IsOwn m c k from move × (to ≡ move.target)) ⊎ (((move : Move) → IsOwn m c k from move → ⊥) × (to ≡ from))
Sends m c k false from to = to ≡ from

-- one component along the records: its modes, with what they cost by the gates
abbrev pub Path : PlantModel → ℕ → ℕ → List Entry → List Bool → List ℕ → ℕ → Type 0
Path m c from [] gates modes cost = (modes ≡ []) × (cost ≡ 0)
Path m c from (r ∷ records) [] modes cost = ⊥
Path m c from (r ∷ records) (g ∷ gates) [] cost = ⊥
Path m c from (r ∷ records) (g ∷ gates) (to ∷ modes) cost =
    (nominal own rest : ℕ) × Sends m c r.command g from nominal × ChangeCosts m c from nominal to own × Path m c to records gates modes rest × (cost ≡ own + rest)

-- the modes of one component
abbrev pub column : ℕ → List (List ℕ) → List ℕ
column c states = map (λ s. slice_index s c) states

-- ---- columns and trajectories

-- each state can show what is seen at its record
abbrev pub AreShown : PlantModel → List Entry → List (List ℕ) → Type 0
AreShown m [] [] = ⊤
AreShown m (r ∷ records) (s ∷ states) = IsState m s × CanShow m s r.seen × AreShown m records states
AreShown m records states = ⊥

-- columns that cost what they cost by the gates that the states have themselves are a trajectory, if each state can show what is seen
abbrev pub PathsAreTrajectory : Type 0
PathsAreTrajectory = (m : PlantModel) (anchor : List ℕ) (records : List Entry) (gates : List Bool) (states : List (List ℕ)) (costs : List ℕ)
    → WellFormed m → IsState m anchor → AreGates m anchor records gates states → AreShown m records states → length costs ≡ length m.components
    → ((c : ℕ) → c < length m.components → Path m c (slice_index anchor c) records gates (column c states) (slice_index costs c))
    → Trajectory m anchor records states (sum costs)

-- and each trajectory has the gates of its states, by which its columns cost together what it costs
abbrev pub TrajectoriesArePaths : Type 0
TrajectoriesArePaths = (m : PlantModel) (anchor : List ℕ) (records : List Entry) (states : List (List ℕ)) (cost : ℕ) → WellFormed m → IsState m anchor → Trajectory m anchor records states cost
    → (gates : List Bool) × (costs : List ℕ) × AreGates m anchor records gates states × (length costs ≡ length m.components) × (sum costs ≡ cost)
    × ((c : ℕ) → c < length m.components → Path m c (slice_index anchor c) records gates (column c states) (slice_index costs c))

-- ---- gates

-- where a prime implicant of a move stands, with its source, its command's gate is open
abbrev pub GatesAreHeld : Type 0
GatesAreHeld = (m : PlantModel) (s : List ℕ) (k : Option ℕ) (move : Move) (cube : List Pair) → IsState m s → Contains m.moves move → k ≡ Some move.command
    → PrimeImplicant m move cube → Extends s (source_pair move ∷ cube) → IsGate m s k true

-- where each prime implicant of the move has a pair that fails, the gate is shut
abbrev pub GatesAreShut : Type 0
GatesAreShut = (m : PlantModel) (s : List ℕ) (k : Option ℕ) (move : Move) → WellFormed m → IsState m s → Contains m.moves move → k ≡ Some move.command
    → Extends s (source_pair move ∷ [])
    → ((cube : List Pair) → PrimeImplicant m move cube → (p : Pair) × Contains cube p × (slice_get s p.item ≢ Some p.value))
    → IsGate m s k false
