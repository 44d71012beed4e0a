-- What a turn makes of the marks, and of its goal, at a place of the list.
use Rattle.std.specs.Prelude.{◌≡◌, ◌≤◌, ◌<◌, ℕ, suc, Bool, true, false, List, ◌++◌, length}
use Rattle.cca_base.specs.declared.cube.Pair.{Pair}
use Rattle.cca_base.specs.PlantModel.{PlantModel}
use Rattle.control_program.specs.declared.asking.Asking.{Asking}
use Rattle.control_program.specs.declared.asking.Course.{Course}
use Rattle.control_program.specs.declared.nodes.Mark.{Mark}
use Rattle.control_program.specs.declared.nodes.Task.{Task}
use Rattle.control_program.specs.Flat.{Entry, count, laid}
use Rattle.control_program.specs.Goals.{with_pairs}
use Rattle.control_program.specs.Marks.{Tree, Trees, cleared}
use Rattle.control_program.specs.Places.{StandsAt, StandAt, marked}
use Rattle.control_program.specs.Turned.{Became, HasTurned, HaveTurned}

-- a part stands at the place
abbrev pub StandsIn : Asking → List Mark → ℕ → Type 0
StandsIn a marks at = StandsAt (marked a.nodes.now marks) at

-- so many parts stand at the place
abbrev pub StandIn : Asking → List Mark → ℕ → ℕ → Type 0
StandIn a marks at n = StandAt (marked a.nodes.now marks) at n

-- the part at the place had its turn
abbrev pub TurnsIn : Asking → ℕ → Course → Bool → Course → Type 0
TurnsIn a at old ended new = (s : StandsIn a old.marks at)
    → HasTurned a.model.now a.estimate.now.modes s.before s.tree s.after old.goal.items ended (marked a.nodes.now new.marks) new.goal.items

-- the parts at the place had their turns
abbrev pub TurnIn : Asking → Bool → ℕ → ℕ → Course → Bool → Course → Type 0
TurnIn a in_order at n old ended new = (s : StandIn a old.marks at n)
    → HaveTurned in_order a.model.now a.estimate.now.modes s.before s.trees s.after old.goal.items ended (marked a.nodes.now new.marks) new.goal.items

-- a task with its parts as a tree, by whether it has ended
abbrev pub task_tree : Task → Trees → Bool → Tree
task_tree (Task.Reach g) xs d = Tree.Reach d g
task_tree (Task.Await f) xs d = Tree.Await d f
task_tree (Task.Parts o n) xs d = Tree.Parts o d xs

-- the task has so many parts
abbrev pub HasParts : Task → Trees → Type 0
HasParts (Task.Reach g) xs = Unit {0}
HasParts (Task.Await f) xs = Unit {0}
HasParts (Task.Parts o n) xs = count xs ≡ n

-- a task that has not ended stands at the place
pub record TaskIn (a : Asking) (marks : List Mark) (at : ℕ) (task : Task) : Type 0 where
  pub stands : StandsIn a marks at
  pub parts : Trees
  pub is : stands.tree ≡ task_tree task parts false
  pub has : HasParts task parts

-- a task had its turn, and its own mark is not written yet
pub record HasWorked (m : PlantModel) (e : List ℕ) (before : List Entry) (x : Tree) (after : List Entry) (task : Task) (goal : List Pair) (ended : Bool) (entries : List Entry) (all : List Pair) : Type 0 where
  pub own : List Pair
  pub parts : Trees
  pub became : Became m e x own (task_tree task parts ended)
  pub nodes : entries ≡ before ++ laid (task_tree task parts false) after
  pub has : HasParts task parts
  pub asks : all ≡ with_pairs goal own

-- the task at the place had its turn
abbrev pub WorksIn : Asking → ℕ → Task → Course → Bool → Course → Type 0
WorksIn a at task old ended new = (s : TaskIn a old.marks at task)
    → HasWorked a.model.now a.estimate.now.modes s.stands.before s.stands.tree s.stands.after task old.goal.items ended (marked a.nodes.now new.marks) new.goal.items

-- a part of a choice was taken: its turn is that of the choice
pub record Takes (a : Asking) (at : ℕ) (marks : List Mark) (part : ℕ) (new : List Mark) (s : StandsIn a marks at) : Type 0 where
  pub stands : StandsIn a new part
  pub behind : at < part
  pub turns : (goal : List Pair) (ended : Bool) (entries : List Entry) (all : List Pair)
      → HasTurned a.model.now a.estimate.now.modes stands.before stands.tree stands.after goal ended entries all
      → HasTurned a.model.now a.estimate.now.modes s.before s.tree s.after goal ended entries all

-- the same wherever the choice stands
abbrev pub TakesIn : Asking → ℕ → List Mark → ℕ → List Mark → Type 0
TakesIn a at marks part new = (s : StandsIn a marks at) → Takes a at marks part new s

-- a `repeat` stands at the place, whose body may have ended
pub record RoundAt (entries : List Entry) (at number : ℕ) : Type 0 where
  pub before : List Entry
  pub rounds : ℕ
  pub body : Tree
  pub after : List Entry
  pub place : length before ≡ at
  pub nodes : entries ≡ before ++ laid (Tree.Repeat number rounds body) after

-- behind the end of a round: it was the last, or one is left less and the body is as at the start
abbrev pub EndsRound : List Entry → ℕ → ℕ → Bool → List Entry → Type 0
EndsRound old at number true new = (new ≡ old) × ((s : RoundAt old at number) → s.rounds ≤ 1)
EndsRound old at number false new = (s : RoundAt old at number)
    → (j : ℕ) × (s.rounds ≡ suc (suc j)) × (new ≡ s.before ++ laid (Tree.Repeat number (suc j) (cleared s.body)) s.after)
