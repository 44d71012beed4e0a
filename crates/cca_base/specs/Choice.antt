-- Which command is sent: the fixed choice among the good ones.
use Rattle.std.specs.Prelude.{◌≡◌, ℕ, suc, zero, ◌<◌, ◌≤◌, false, List, slice_get, Some, All, Contains}
use Rattle.cca_base.specs.declared.cube.Pair.{Pair}
use Rattle.cca_base.specs.declared.model.Move.{Move}
use Rattle.cca_base.specs.declared.events.Reply.{Reply}
use Rattle.cca_base.specs.declared.events.Reply.TheVariants.{Send}
use Rattle.cca_base.specs.PlantModel.{PlantModel}
use Rattle.cca_base.specs.Accepted.{CompiledModel}
use Rattle.cca_base.specs.Model.{is_broken}
use Rattle.cca_base.specs.State.{Extends}
use Rattle.cca_base.specs.Steps.{Reach}
use Rattle.cca_base.specs.Implicants.{PrimeImplicant}
use Rattle.cca_base.specs.Cube.{IsBeforeCube}
use Rattle.cca_base.specs.Orders.{IsFirstMissing, IsNextOf}
use Rattle.cca_base.specs.Goals.{IsGoodReply}

-- allowed plans reach each pair, and none of the modes is broken
abbrev pub IsWithinReach : PlantModel → List ℕ → List Pair → Type 0
IsWithinReach m s pairs = All (λ p. Reach m s p.item p.value × (is_broken m.moves p.item p.value ≡ false)) pairs

-- one of the move's prime implicants is within reach of the state
abbrev pub IsOpenAt : PlantModel → List ℕ → Move → Type 0
IsOpenAt m s move = (cube : List Pair) × PrimeImplicant m move cube × IsWithinReach m s cube

-- n open moves of component c lead from one mode to the other
abbrev pub Walk : PlantModel → List ℕ → ℕ → ℕ → ℕ → ℕ → Type 0
Walk m s c from to zero = from ≡ to
Walk m s c from to (suc n) =
    (move : Move) × Contains m.moves move × (move.component ≡ c) × (move.source ≡ from) × IsOpenAt m s move × Walk m s c move.target to n

-- n open moves lead there, and no fewer do
abbrev pub IsDistance : PlantModel → List ℕ → ℕ → ℕ → ℕ → ℕ → Type 0
IsDistance m s c from to n = Walk m s c from to n × ((fewer : ℕ) → Walk m s c from to fewer → n ≤ fewer)

-- an open move of c that leaves its mode in the state and comes one nearer to the mode
pub record ComesNearer (m : PlantModel) (s : List ℕ) (c to : ℕ) (move : Move) : Type 0 where
  pub own : move.component ≡ c
  pub source : slice_get s c ≡ Some move.source
  pub open_move : IsOpenAt m s move
  pub rest : ℕ
  pub before : IsDistance m s c move.source to (suc rest)
  pub after : IsDistance m s c move.target to rest

-- the first move in document order that comes nearer, with its first prime implicant, in cube order, that is within reach
pub record IsChosen (m : PlantModel) (s : List ℕ) (c to : ℕ) (move : Move) (cube : List Pair) : Type 0 where
  pub at : ℕ
  pub move_at : slice_get m.moves at ≡ Some move
  pub nearer : ComesNearer m s c to move
  pub first_move : (earlier : ℕ) (other : Move) → earlier < at → slice_get m.moves earlier ≡ Some other → ComesNearer m s c to other → ⊥
  pub prime : PrimeImplicant m move cube
  pub reached : IsWithinReach m s cube
  pub first_cube : (other : List Pair) → PrimeImplicant m move other → IsWithinReach m s other → IsBeforeCube other cube → ⊥

-- the command toward a component's mode: the chosen move's if the state holds the chosen cube, and else that toward the next pair of the cube
pub data Picks (b : CompiledModel) (s : List ℕ) : ℕ → ℕ → ℕ → Type 0 where
  Now : (c to : ℕ) (move : Move) (cube : List Pair) → IsChosen b.model s c to move cube → Extends s cube → Picks b s c to move.command
  First : (c to k : ℕ) (move : Move) (cube : List Pair) (p : Pair) → IsChosen b.model s c to move cube → IsNextOf b.order s cube p
      → Picks b s p.item p.value k → Picks b s c to k

-- the command for a sorted goal: that toward its first pair that the state does not hold
abbrev pub PicksForGoal : CompiledModel → List ℕ → List Pair → ℕ → Type 0
PicksForGoal b s goal k = (p : Pair) × IsFirstMissing s goal p × Picks b s p.item p.value k

-- a good reply, and where it is a command the one that is picked
pub record IsChosenReply (b : CompiledModel) (s : List ℕ) (goal : List Pair) (reply : Reply) : Type 0 where
  pub good : IsGoodReply b.model s goal reply
  pub picked : (k : ℕ) → reply ≡ Send k → PicksForGoal b s goal k
