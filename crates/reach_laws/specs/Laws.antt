-- The laws of classes and reach.
use Rattle.std.specs.Prelude.{◌≡◌, ◌↔◌, ◌<◌, ℕ, true, false, List, length, slice_get, slice_index, Some, All, IsTrue}
use Rattle.cca_base.specs.declared.cube.Pair.{Pair}
use Rattle.cca_base.specs.declared.model.Move.{Move}
use Rattle.cca_base.specs.PlantModel.{PlantModel}
use Rattle.cca_base.specs.Model.{WellFormed, IsMended, is_broken}
use Rattle.cca_base.specs.State.{IsState}
use Rattle.cca_base.specs.Implicants.{PrimeImplicant}
use Rattle.cca_base.specs.Orders.{IsEffectsFirst}
use Rattle.cca_base.specs.Repairs.{Mending}
use Rattle.cca_base.specs.Steps.{Step, Run, Allowed, AllowedPlan, Reach}
use Rattle.cca_base.specs.Choice.{IsOpenAt, Walk}
use Rattle.reach_laws.specs.Classes.{Test, IsOpen, OpenWalk, IsHome, AreClasses, Stands, Covers}

-- classes of a model around a base, its order, and a state that they cover
pub record Setting (m : PlantModel) (order base : List ℕ) (member : Test) (s : List ℕ) : Type 0 where
  pub well_formed : WellFormed m
  pub ordered : IsEffectsFirst m order
  pub grounded : IsState m base
  pub classes : AreClasses m base member
  pub state : IsState m s
  pub covers : Covers m base member s

-- a prime implicant of the move stands, on modes that are not broken
pub record Ready (m : PlantModel) (s : List ℕ) (move : Move) : Type 0 where
  pub cube : List Pair
  pub prime : PrimeImplicant m move cube
  pub stands : All (λ p. (slice_get s p.item ≡ Some p.value) × (is_broken m.moves p.item p.value ≡ false)) cube

-- each step's move is ready
abbrev pub EachStepIsReady : Type 0
EachStepIsReady = (m : PlantModel) (s t : List ℕ) (k : ℕ) → IsState m s → (step : Step m s k t) → Ready m s step.move

-- on the way to a mending, each mode that is not broken is in its class
abbrev pub ClosedWalk : Type 0
ClosedWalk = (m : PlantModel) (order base : List ℕ) (member : Test) (s : List ℕ) → Setting m order base member s
    → (mid t : List ℕ) (ks ls : List ℕ) → Run m s ks mid → Run m mid ls t → Mending m s t
    → (c : ℕ) → c < length m.components → is_broken m.moves c (slice_index mid c) ≡ false → member c (slice_index mid c) ≡ true

-- a class is exactly the modes that are not broken and that allowed plans reach
abbrev pub ClassIsReach : Type 0
ClassIsReach = (m : PlantModel) (order base : List ℕ) (member : Test) (s : List ℕ) → Setting m order base member s
    → (c x : ℕ) → (member c x ≡ true) ↔ ((is_broken m.moves c x ≡ false) × Reach m s c x)

-- there is one family of classes at most around a state
abbrev pub OneClasses : Type 0
OneClasses = (m : PlantModel) (order base : List ℕ) (member other : Test) → Setting m order base member base → Setting m order base other base
    → (c x : ℕ) → (member c x ≡ true) ↔ (other c x ≡ true)

-- a step that is no repair is allowed exactly where its target is in the class
abbrev pub AllowedInside : Type 0
AllowedInside = (m : PlantModel) (order base : List ℕ) (member : Test) (s : List ℕ) → Setting m order base member s
    → (t : List ℕ) (k : ℕ) (step : Step m s k t) → step.move.repair ≡ false
    → Allowed m s k t ↔ (member step.move.component step.move.target ≡ true)

-- some list of steps leads from t to a mending of s
abbrev pub Returns : PlantModel → List ℕ → List ℕ → Type 0
Returns m s t = (ks s3 : List ℕ) × Run m t ks s3 × Mending m s s3

-- a step that is no repair has a way back exactly where its target is in the class
abbrev pub ReturnsInside : Type 0
ReturnsInside = (m : PlantModel) (order base : List ℕ) (member : Test) (s : List ℕ) → Setting m order base member s
    → (t : List ℕ) (k : ℕ) (step : Step m s k t) → step.move.repair ≡ false
    → Returns m s t ↔ (member step.move.component step.move.target ≡ true)

-- a repair that is a step leads into the class, or to a broken mode of the open chain
abbrev pub RepairsLeadIn : Type 0
RepairsLeadIn = (m : PlantModel) (order base : List ℕ) (member : Test) (s : List ℕ) → Setting m order base member s
    → (t : List ℕ) (k : ℕ) (step : Step m s k t) → IsTrue step.move.repair → Stands m base member step.move.component step.move.target

-- what an allowed plan ends in is covered by the same classes
abbrev pub StaysCovered : Type 0
StaysCovered = (m : PlantModel) (order base : List ℕ) (member : Test) (s : List ℕ) → Setting m order base member s
    → (t ks : List ℕ) → AllowedPlan m s ks t → Setting m order base member t

-- what is open by reach is open inside the classes
abbrev pub OpenAgrees : Type 0
OpenAgrees = (m : PlantModel) (order base : List ℕ) (member : Test) (s : List ℕ) → Setting m order base member s
    → (move : Move) → IsOpenAt m s move ↔ IsOpen m member move

-- the walks by reach are the walks inside the classes
abbrev pub WalksAgree : Type 0
WalksAgree = (m : PlantModel) (order base : List ℕ) (member : Test) (s : List ℕ) → Setting m order base member s
    → (c from to n : ℕ) → Walk m s c from to n ↔ OpenWalk m member c from to n

-- where the base mode is broken, the home is its mended mode
abbrev pub HomeIsMended : Type 0
HomeIsMended = (m : PlantModel) (base : List ℕ) (member : Test) → WellFormed m
    → (c a : ℕ) → is_broken m.moves c (slice_index base c) ≡ true → IsHome m base member c a → IsMended m.moves c (slice_index base c) a
