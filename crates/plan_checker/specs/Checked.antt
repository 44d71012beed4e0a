-- What a yes changes, and what it shows by the rules and guards alone.
use Rattle.std.specs.Prelude.{◌≡◌, ◌≢◌, ◌+◌, ℕ, true, List, [], ◌∷◌, Option, Some, None, Contains, slice_get}
use Rattle.cca_base.specs.declared.cube.Pair.{Pair}
use Rattle.cca_base.specs.declared.events.PlanEnd.TheVariants.{Plan}
use Rattle.cca_base.specs.declared.events.Reply.{Reply}
use Rattle.cca_base.specs.declared.events.Reply.TheVariants.{Idle, Achieved, Unreachable}
use Rattle.cca_base.specs.declared.events.Route.{Route}
use Rattle.cca_base.specs.declared.events.Shown.{Shown}
use Rattle.cca_base.specs.declared.events.Shown.TheVariants.{Estimated, Unexplained, Holding}
use Rattle.cca_base.specs.declared.model.Move.{Move}
use Rattle.cca_base.specs.PlantModel.{PlantModel}
use Rattle.cca_base.specs.Estimates.{Consistent}
use Rattle.cca_base.specs.Goals.{BeginsPlan}
use Rattle.cca_base.specs.State.{Extends}
use Rattle.cca_base.specs.Steps.{AllowedPlan}
use Rattle.cca_base.specs.Successors.{IsCommanded, Nominal}
use Rattle.cca_base.specs.Trace.{ExecutiveState, Observed, command_of}
use Rattle.plan_checker.specs.declared.verdict.Verdict.{Verdict}
use Rattle.plan_checker.specs.declared.verdict.Verdict.TheVariants.{Yes, No}
use Rattle.plan_checker.specs.Reasons.{Printed, OnEstimate, OnSend}

-- from x to y, a tick with an estimate: it and the command are the last printed ones, and the command moves the plant
pub record TakesEstimate (m : PlantModel) (x : ExecutiveState) (s : List ℕ) (reply : Reply) (y : ExecutiveState) : Type 0 where
  pub plant : List ℕ
  pub moves : Nominal m x.plant (command_of reply) plant
  pub after : y ≡ record x { estimate = s; command = command_of reply; plant = plant; pending = []; ticks = x.ticks + 1 }

-- from x to y, what is shown was taken; after an unexplained tick the checker is holding
abbrev pub Takes : PlantModel → ExecutiveState → Shown → ExecutiveState → Type 0
Takes m x (Estimated cost state reply) y = TakesEstimate m x state.modes reply y
Takes m x Unexplained y = y ≡ record x { command = None; pending = []; holding = true; ticks = x.ticks + 1 }
Takes m x Holding y = y ≡ record x { command = None; pending = []; ticks = x.ticks + 1 }

-- after a yes what is shown was taken, and after a no nothing has changed
abbrev pub TakesAtYes : PlantModel → ExecutiveState → Shown → Verdict → ExecutiveState → Type 0
TakesAtYes m x shown Yes y = Takes m x shown y
TakesAtYes m x shown (No reason) y = y ≡ x

-- something holds after a yes
abbrev pub OnYes : Verdict → Type 0 → Type 0
OnYes Yes P = P
OnYes (No reason) P = Unit {0}

-- ---- what a yes shows

-- the estimate is a successor of the last printed estimate and command, of this cost, with a world that agrees with what the tick observes
pub record IsExplained (m : PlantModel) (x : ExecutiveState) (s : List ℕ) (cost : ℕ) : Type 0 where
  pub seen : List Pair
  pub observed : Observed m x seen
  pub consistent : Consistent m x.estimate x.command seen s cost

-- a reply fits the goal: idle exactly without one, achieved exactly where it stands, and unreachable is a pair of it that does not stand
pub record IsReplyFor (s : List ℕ) (goal : Option (List Pair)) (reply : Reply) : Type 0 where
  pub idle : (reply ≡ Idle → goal ≡ None) × (goal ≡ None → reply ≡ Idle)
  pub achieved : (pairs : List Pair) → goal ≡ Some pairs → (reply ≡ Achieved → Extends s pairs) × (Extends s pairs → reply ≡ Achieved)
  pub unreachable : (c mode : ℕ) → reply ≡ Unreachable c mode
      → (pairs : List Pair) × (goal ≡ Some pairs) × Contains pairs (record { item = c; value = mode }) × (slice_get s c ≢ Some mode)

-- the printed plan begins with the command, and is an allowed plan to a state that holds the goal
pub record IsCheckedPlan (m : PlantModel) (s : List ℕ) (goal : List Pair) (k : ℕ) (route : Route) : Type 0 where
  pub others : List ℕ
  pub there : List ℕ
  pub printed : route.plan ≡ Plan (k ∷ others)
  pub allowed : AllowedPlan m s (k ∷ others) there
  pub stands : Extends there goal

-- the command's guard holds in the state, and for the goal in force the command begins an allowed plan, which is the printed one
pub record IsSafeCommand (m : PlantModel) (s : List ℕ) (goal : Option (List Pair)) (k : ℕ) (route : Option Route) : Type 0 where
  pub guard : (move : Move) × IsCommanded m s (Some k) move
  pub pairs : List Pair
  pub in_force : goal ≡ Some pairs
  pub begins : BeginsPlan m s pairs k
  pub printed : (r : Route) × (route ≡ Some r) × IsCheckedPlan m s pairs k r

-- what a yes shows of a printed estimate
abbrev pub ShowsSuccessor : PlantModel → ExecutiveState → Printed → Type 0
ShowsSuccessor m x t = OnEstimate t.report.shown (λ cost s reply. IsExplained m x s cost)

-- what a yes shows of a printed reply
abbrev pub ShowsReply : ExecutiveState → Printed → Type 0
ShowsReply x t = OnEstimate t.report.shown (λ cost s reply. IsReplyFor s x.goal reply)

-- what a yes shows of a sent command
abbrev pub ShowsSafety : PlantModel → ExecutiveState → Printed → Type 0
ShowsSafety m x t = OnSend t.report.shown (λ s k. IsSafeCommand m s x.goal k t.route)
