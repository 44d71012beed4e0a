-- Which replies are good for a goal.
use Rattle.std.specs.Prelude.{◌≡◌, ◌≢◌, ℕ, ◌⊎◌, List, ◌∷◌, ◌++◌, Some, Contains, slice_get}
use Rattle.cca_base.specs.declared.cube.Pair.{Pair}
use Rattle.cca_base.specs.declared.events.Reply.{Reply}
use Rattle.cca_base.specs.declared.events.Reply.TheVariants.{Idle, Send, Achieved, Unreachable}
use Rattle.cca_base.specs.PlantModel.{PlantModel}
use Rattle.cca_base.specs.State.{Extends}
use Rattle.cca_base.specs.Steps.{Step, AllowedPlan, Reach, AreReached}
use Rattle.cca_base.specs.Implicants.{Ancestor}

-- the command is a step; its component is that of a pair of the goal that the state does not hold, or an ancestor of one
pub record IsNeeded (m : PlantModel) (s : List ℕ) (goal : List Pair) (k : ℕ) : Type 0 where
  pub next : List ℕ
  pub step : Step m s k next
  pub pair : Pair
  pub wanted : Contains goal pair
  pub missing : slice_get s pair.item ≢ Some pair.value
  pub serves : (step.move.component ≡ pair.item) ⊎ Ancestor m pair.item step.move.component

-- some list that begins with the command is an allowed plan to a state that holds the goal
pub record BeginsPlan (m : PlantModel) (s : List ℕ) (goal : List Pair) (k : ℕ) : Type 0 where
  pub others : List ℕ
  pub last : List ℕ
  pub plan : AllowedPlan m s (k ∷ others) last
  pub stands : Extends last goal

-- the first pair of the goal that no allowed plan reaches
pub record IsFirstUnreached (m : PlantModel) (s : List ℕ) (goal : List Pair) (p : Pair) : Type 0 where
  pub before : List Pair
  pub after : List Pair
  pub split : goal ≡ before ++ p ∷ after
  pub reached : AreReached m s before
  pub unreached : Reach m s p.item p.value → ⊥

-- the reply is right for the state and the goal; while there is a goal, it is never idle
abbrev pub IsGoodReply : PlantModel → List ℕ → List Pair → Reply → Type 0
IsGoodReply m s goal Idle = ⊥
IsGoodReply m s goal Achieved = Extends s goal
IsGoodReply m s goal (Send k) = IsNeeded m s goal k × BeginsPlan m s goal k
IsGoodReply m s goal (Unreachable c mode) = IsFirstUnreached m s goal (record { item = c; value = mode })
