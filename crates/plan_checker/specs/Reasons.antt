-- The nine tests of a tick, and the verdict on it.
use Rattle.std.specs.Prelude.{◌≡◌, ◌≢◌, ◌⊎◌, ◌+◌, ◌<◌, ℕ, false, IsTrue, List, ◌∷◌, Option, Some, None, IfSome, Contains, slice_get}
use Rattle.std.specs.Borrow.{Bor}
use Rattle.std.specs.Option.{is_some, option_copied}
use Rattle.cca_base.specs.declared.cube.Pair.{Pair}
use Rattle.cca_base.specs.declared.events.PlanEnd.{PlanEnd}
use Rattle.cca_base.specs.declared.events.PlanEnd.TheVariants.{Plan, Long}
use Rattle.cca_base.specs.declared.events.Reply.{Reply}
use Rattle.cca_base.specs.declared.events.Reply.TheVariants.{Idle, Send, Achieved, Unreachable}
use Rattle.cca_base.specs.declared.events.Route.{Route}
use Rattle.cca_base.specs.declared.events.Shown.{Shown}
use Rattle.cca_base.specs.declared.events.Shown.TheVariants.{Estimated, Unexplained, Holding}
use Rattle.cca_base.specs.declared.events.TickReport.{TickReport}
use Rattle.cca_base.specs.declared.state.World.{World}
use Rattle.cca_base.specs.PlantModel.{PlantModel}
use Rattle.cca_base.specs.Repairs.{Mending}
use Rattle.cca_base.specs.Runs.{reply_of, is_send}
use Rattle.cca_base.specs.Sets.{has}
use Rattle.cca_base.specs.State.{IsWorld, Extends}
use Rattle.cca_base.specs.Steps.{Step, Run}
use Rattle.cca_base.specs.Successors.{Costs}
use Rattle.cca_base.specs.Trace.{ExecutiveState, HasOneValue}
use Rattle.plan_checker.specs.declared.verdict.Verdict.{Verdict}
use Rattle.plan_checker.specs.declared.verdict.Verdict.TheVariants.{Yes, No}

-- what is printed of a tick: its line, and the proof lines that come with it
pub record Printed : Type 0 where
  pub report : TickReport
  pub world : Option World
  pub route : Option Route

-- what is printed of a tick, as it is handed in
abbrev pub printed : TickReport → Option (Bor World) → Option (Bor Route) → Printed
printed report world route = record { report = report; world = option_copied world; route = option_copied route }

-- ---- what is shown, by cases

-- something holds of the cost, the estimate and the reply, where an estimate is shown
abbrev pub OnEstimate : Shown → (ℕ → List ℕ → Reply → Type 0) → Type 0
OnEstimate (Estimated cost state reply) P = P cost state.modes reply
OnEstimate Unexplained P = Unit {0}
OnEstimate Holding P = Unit {0}

-- something holds of the command, where one is sent
abbrev pub OnCommand : Reply → (ℕ → Type 0) → Type 0
OnCommand (Send k) P = P k
OnCommand Idle P = Unit {0}
OnCommand Achieved P = Unit {0}
OnCommand (Unreachable c mode) P = Unit {0}

-- something holds of the estimate and the command, where one is sent
abbrev pub OnSend : Shown → (List ℕ → ℕ → Type 0) → Type 0
OnSend shown P = OnEstimate shown (λ cost s reply. OnCommand reply (P s))

-- something holds of the commands, where they are written out
abbrev pub OnCommands : PlanEnd → (List ℕ → Type 0) → Type 0
OnCommands (Plan ks) P = P ks
OnCommands Long P = Unit {0}

-- ---- the tests, in the order of their reasons

-- the tick's number comes next; a world comes exactly with an estimate, and a route exactly with a command
pub record HasItsLines (x : ExecutiveState) (t : Printed) : Type 0 where
  pub number : t.report.tick ≡ x.ticks + 1
  pub world : is_some t.world ≡ is_some (reply_of t.report.shown)
  pub route : is_some t.route ≡ is_send (reply_of t.report.shown)

-- the estimate has the printed cost from the last printed estimate and command
abbrev pub HasItsCost : PlantModel → ExecutiveState → Printed → Type 0
HasItsCost m x t = OnEstimate t.report.shown (λ cost s reply. Costs m x.estimate x.command s cost)

-- the tick observes the pair: it is pending, or is the one value of a mirrored variable; while holding nothing is observed
abbrev pub Sees : PlantModel → ExecutiveState → Pair → Type 0
Sees m x p = (x.holding ≡ false) × (Contains x.pending p ⊎ (IsTrue (has x.mirrored p.item) × HasOneValue m x.plant p))

-- the values are a world of the state that agrees with the tick's observations
pub record ExplainsTick (m : PlantModel) (x : ExecutiveState) (s w : List ℕ) : Type 0 where
  pub world : IsWorld m s w
  pub agrees : (p : Pair) → Sees m x p → slice_get w p.item ≡ Some p.value

-- the printed values are such a world of the estimate
abbrev pub HasItsWorld : PlantModel → ExecutiveState → Printed → Type 0
HasItsWorld m x t = OnEstimate t.report.shown (λ cost s reply. IfSome t.world (λ w. ExplainsTick m x s w.values))

-- the sent command is a step from the estimate
abbrev pub SendsStep : PlantModel → Printed → Type 0
SendsStep m t = OnSend t.report.shown (λ s k. (next : List ℕ) × Step m s k next)

-- the commands begin with this one, and each is a step from where the ones before it lead
abbrev pub IsPlanFrom : PlantModel → List ℕ → ℕ → List ℕ → Type 0
IsPlanFrom m s k ks = ((others : List ℕ) × (ks ≡ k ∷ others)) × ((last : List ℕ) × Run m s ks last)

-- the printed plan is one from the estimate that begins with the sent command
abbrev pub PrintsPlan : PlantModel → Printed → Type 0
PrintsPlan m t = OnSend t.report.shown (λ s k. IfSome t.route (λ r. OnCommands r.plan (IsPlanFrom m s k)))

-- where the printed plan leads, the goal in force stands
abbrev pub ReachesGoal : PlantModel → ExecutiveState → Printed → Type 0
ReachesGoal m x t =
    OnSend t.report.shown (λ s k. IfSome t.route (λ r. OnCommands r.plan (λ ks. (there : List ℕ) → Run m s ks there → IfSome x.goal (Extends there))))

-- from where the plan leads, the commands of the way back are steps one after the other to a mending of the state
abbrev pub IsWayBack : PlantModel → List ℕ → List ℕ → List ℕ → Type 0
IsWayBack m s ks ls = (there : List ℕ) → Run m s ks there → (last : List ℕ) × Run m there ls last × Mending m s last

-- the printed way back leads from the plan's end to a mending of the estimate
abbrev pub LeadsBack : PlantModel → Printed → Type 0
LeadsBack m t = OnSend t.report.shown (λ s k. IfSome t.route (λ r. OnCommands r.plan (λ ks. OnCommands r.back (IsWayBack m s ks))))

-- the reply fits the goal in force: idle without one, achieved where it stands, else a command or a pair of the goal that does not stand
abbrev pub FitsGoal : List ℕ → Option (List Pair) → Reply → Type 0
FitsGoal s None reply = reply ≡ Idle
FitsGoal s (Some goal) Idle = ⊥
FitsGoal s (Some goal) Achieved = Extends s goal
FitsGoal s (Some goal) (Send k) = Extends s goal → ⊥
FitsGoal s (Some goal) (Unreachable c mode) = Contains goal (record { item = c; value = mode }) × (slice_get s c ≢ Some mode)

-- holding is printed exactly while holding, and a reply fits the goal
abbrev pub AnswersGoal : ExecutiveState → Shown → Type 0
AnswersGoal x (Estimated cost state reply) = (x.holding ≡ false) × FitsGoal state.modes x.goal reply
AnswersGoal x Unexplained = x.holding ≡ false
AnswersGoal x Holding = IsTrue x.holding

-- the commands are written out
abbrev pub IsWritten : PlanEnd → Type 0
IsWritten (Plan ks) = Unit {0}
IsWritten Long = ⊥

-- the plan and the way back are written out
abbrev pub WritesRoute : Printed → Type 0
WritesRoute t = IfSome t.route (λ r. IsWritten r.plan × IsWritten r.back)

-- ---- the verdict

-- the test of this reason passes
pub record Passes (m : PlantModel) (x : ExecutiveState) (t : Printed) (reason : ℕ) : Type 0 where
  pub line : reason ≡ 1 → HasItsLines x t
  pub cost : reason ≡ 2 → HasItsCost m x t
  pub world : reason ≡ 3 → HasItsWorld m x t
  pub step : reason ≡ 4 → SendsStep m t
  pub plan : reason ≡ 5 → PrintsPlan m t
  pub goal : reason ≡ 6 → ReachesGoal m x t
  pub back : reason ≡ 7 → LeadsBack m t
  pub answer : reason ≡ 8 → AnswersGoal x t.report.shown
  pub written : reason ≡ 9 → WritesRoute t

-- yes where the test of each reason passes, and else the least reason whose test fails
abbrev pub IsVerdict : PlantModel → ExecutiveState → Printed → Verdict → Type 0
IsVerdict m x t Yes = (reason : ℕ) → Passes m x t reason
IsVerdict m x t (No reason) = (Passes m x t reason → ⊥) × ((lesser : ℕ) → lesser < reason → Passes m x t lesser)
