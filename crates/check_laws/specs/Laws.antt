-- The laws of plans that have one way back.
use Rattle.std.specs.Prelude.{◌≡◌, ◌⊎◌, ◌↔◌, ℕ, IsTrue, List, [], ◌∷◌, All, Contains}
use Rattle.cca_base.specs.declared.cube.Pair.{Pair}
use Rattle.cca_base.specs.declared.model.Move.{Move}
use Rattle.cca_base.specs.PlantModel.{PlantModel}
use Rattle.cca_base.specs.Model.{RepairsFit, CommandsFit}
use Rattle.cca_base.specs.State.{Extends}
use Rattle.cca_base.specs.Repairs.{Mending}
use Rattle.cca_base.specs.Steps.{Run, AllowedPlan, Reach}
use Rattle.cca_base.specs.Goals.{BeginsPlan}
use Rattle.reach_laws.specs.Laws.{Returns}

-- the command is that of a repair
abbrev pub IsOfRepair : List Move → ℕ → Type 0
IsOfRepair moves k = (move : Move) × Contains moves move × IsTrue move.repair × (move.command ≡ k)

-- the second list is the first without some of its commands, which are those of repairs
abbrev pub IsLeftOf : List Move → List ℕ → List ℕ → Type 0
IsLeftOf moves [] left = left ≡ []
IsLeftOf moves (k ∷ ks) left = (IsOfRepair moves k × IsLeftOf moves ks left) ⊎ ((rest : List ℕ) × (left ≡ k ∷ rest) × IsLeftOf moves ks rest)

-- from u the commands, without some of repairs, are steps one after the other to a mending of v
pub record MadeAgain (m : PlantModel) (u ks v : List ℕ) : Type 0 where
  pub left : List ℕ
  pub last : List ℕ
  pub run : Run m u left last
  pub mends : Mending m v last
  pub of_them : IsLeftOf m.moves ks left

-- a run is made again from each mending of its start, without repairs that are already made
abbrev pub RunsAreMadeAgain : Type 0
RunsAreMadeAgain = (m : PlantModel) → RepairsFit m.version m.moves → (s u v ks : List ℕ) → Mending m s u → Run m s ks v → MadeAgain m u ks v

-- one way back serves each step: a run whose end leads back to a mending of its start is an allowed plan
abbrev pub OneWayBack : Type 0
OneWayBack = (m : PlantModel) → RepairsFit m.version m.moves → (s t u ks ls : List ℕ) → Run m s ks t → Run m t ls u → Mending m s u → AllowedPlan m s ks t

-- the same both ways: the allowed plans are exactly the runs from whose end some run leads back to a mending of the start
abbrev pub PlansReturn : Type 0
PlansReturn = (m : PlantModel) → RepairsFit m.version m.moves → (s t ks : List ℕ) → AllowedPlan m s ks t ↔ (Run m s ks t × Returns m s t)

-- what was checked of a plan that holds the goal shows that its first command begins an allowed plan to the goal, and that each pair of the goal is reached
abbrev pub CheckedPlanBegins : Type 0
CheckedPlanBegins = (m : PlantModel) → RepairsFit m.version m.moves → (s t u rest ls : List ℕ) (k : ℕ) (goal : List Pair)
    → Run m s (k ∷ rest) t → Extends t goal → Run m t ls u → Mending m s u
    → BeginsPlan m s goal k × All (λ p. Reach m s p.item p.value) goal

-- what the tests of a plan that begins with the command, and of its way back, show
pub record PassesTests (m : PlantModel) (s : List ℕ) (goal : List Pair) (k : ℕ) : Type 0 where
  pub others : List ℕ
  pub there : List ℕ
  pub plan : Run m s (k ∷ others) there
  pub stands : Extends there goal
  pub back : Returns m s there

-- a plan and a way back that pass the tests are to be had exactly where the command begins an allowed plan to the goal
abbrev pub TestsAreExact : Type 0
TestsAreExact = (m : PlantModel) → RepairsFit m.version m.moves → (s : List ℕ) (goal : List Pair) (k : ℕ) → BeginsPlan m s goal k ↔ PassesTests m s goal k

-- a list of commands leads to one state at most
abbrev pub OneEnd : Type 0
OneEnd = (m : PlantModel) → CommandsFit m.moves → (s t u ks : List ℕ) → Run m s ks t → Run m s ks u → t ≡ u
