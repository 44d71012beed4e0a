-- Laws that test the definitions.
use Rattle.std.specs.Prelude.{◌≡◌, ◌↔◌, ◌<◌, AllPairs, ℕ, Bool, true, false, ◌++◌, List, [], ◌∷◌, length, count_by, Option, Some, IsTrue, Contains, All, slice_get, slice_set}
use Rattle.cca_base.specs.declared.cube.Pair.{Pair}
use Rattle.cca_base.specs.declared.model.Move.{Move}
use Rattle.cca_base.specs.declared.events.Reply.TheVariants.{Idle, Send, Unreachable}
use Rattle.cca_base.specs.PlantModel.{PlantModel}
use Rattle.cca_base.specs.Accepted.{Accepted, CompiledModel, IsCompiled}
use Rattle.cca_base.specs.Model.{WellFormed, IsComplete, IsMended, IsNext, is_broken}
use Rattle.cca_base.specs.State.{IsState, Extends}
use Rattle.cca_base.specs.Repairs.{Mending}
use Rattle.cca_base.specs.Steps.{Step, Run, Allowed, AllowedPlan, Reach}
use Rattle.cca_base.specs.Implicants.{PrimeImplicant}
use Rattle.cca_base.specs.Orders.{IsFirstMissing, IsNextOf, AreInOrder}
use Rattle.cca_base.specs.Successors.{Nominal, Costs}
use Rattle.cca_base.specs.Estimates.{Estimate, Unexplained}
use Rattle.cca_base.specs.Goals.{IsGoodReply}
use Rattle.cca_base.specs.Plans.{Whole}
use Rattle.cca_base.specs.Choice.{IsChosenReply}
use Rattle.cca_base.specs.Trace.{ExecutiveState, Observed}
use Rattle.cca_base.specs.declared.events.Event.{Event}
use Rattle.cca_base.specs.declared.events.Event.TheVariants as event
use Rattle.cca_base.specs.declared.events.TickReport.{TickReport}
use Rattle.cca_base.specs.Runs.{Trace, TickRecord, StaysRight, CanBeSeen, IsRight, LeavesPlantAlone}

-- two runs, one after the other, are a run
abbrev pub RunsJoin : Type 0
RunsJoin = (m : PlantModel) (s t u : List ℕ) (ks ls : List ℕ) → Run m s ks t → Run m t ls u → Run m s (ks ++ ls) u

-- an allowed plan is a run
abbrev pub AllowedPlansRun : Type 0
AllowedPlansRun = (m : PlantModel) (s t : List ℕ) (ks : List ℕ) → AllowedPlan m s ks t → Run m s ks t

-- a state is a mending of itself
abbrev pub MendsItself : Type 0
MendsItself = (m : PlantModel) (s : List ℕ) → Mending m s s

-- in a well-formed model of the first version the mended mode is the one that the repairs lead to
abbrev pub MendedIsNext : Type 0
MendedIsNext = (m : PlantModel) → WellFormed m → m.version ≡ 1 → (c mode mended : ℕ) → IsMended m.moves c mode mended ↔ IsNext m.moves c mode mended

-- a mode has one mended mode at most
abbrev pub OneMended : Type 0
OneMended = (m : PlantModel) → WellFormed m → (c mode a b : ℕ) → IsMended m.moves c mode a → IsMended m.moves c mode b → a ≡ b

-- a repair that is a step is allowed, also where nothing leads back
abbrev pub RepairsAreAllowed : Type 0
RepairsAreAllowed = (m : PlantModel) (s t : List ℕ) (k : ℕ) → (step : Step m s k t) → IsTrue step.move.repair → Allowed m s k t

-- where a prime implicant stands on modes that are not broken, the move is a step
abbrev pub ImplicantsGiveSteps : Type 0
ImplicantsGiveSteps = (m : PlantModel) (s : List ℕ) (move : Move) (cube : List Pair) → Contains m.moves move → slice_get s move.component ≡ Some move.source
    → PrimeImplicant m move cube → Extends s cube → All (λ p. is_broken m.moves p.item p.value ≡ false) cube
    → Step m s move.command (slice_set s move.component move.target)

-- there is one estimate at most
abbrev pub OneEstimate : Type 0
OneEstimate = (m : PlantModel) (s : List ℕ) (k : Option ℕ) (seen : List Pair) (a b : List ℕ) (cost other : ℕ)
    → Estimate m s k seen a cost → Estimate m s k seen b other → (a ≡ b) × (cost ≡ other)

-- nothing has an estimate and is unexplained
abbrev pub NeverBoth : Type 0
NeverBoth = (m : PlantModel) (s : List ℕ) (k : Option ℕ) (seen : List Pair) (a : List ℕ) (cost : ℕ) → Estimate m s k seen a cost → Unexplained m s k seen → ⊥

-- what a tick observes is determined
abbrev pub OneObserved : Type 0
OneObserved = (m : PlantModel) (x : ExecutiveState) (a b : List Pair) → Observed m x a → Observed m x b → a ≡ b

-- for a compiled model and its events there is one fixed trace at most
abbrev pub OneFixedTrace : Type 0
OneFixedTrace = (b : CompiledModel) (events : List Event) (reports others : List TickReport) → IsCompiled b → Trace b (IsChosenReply b) events reports → Trace b (IsChosenReply b) events others → reports ≡ others

-- there is one first missing pair at most
abbrev pub OneFirstMissing : Type 0
OneFirstMissing = (s : List ℕ) (pairs : List Pair) (p q : Pair) → IsFirstMissing s pairs p → IsFirstMissing s pairs q → p ≡ q

-- an order without components has no next pair of a cube
abbrev pub NoneUnderNoOrder : Type 0
NoneUnderNoOrder = (s : List ℕ) (cube : List Pair) (p : Pair) → IsNextOf [] s cube p → ⊥

-- a good command does not come where the goal stands, and only where each of its pairs is reached
abbrev pub SendsServe : Type 0
SendsServe = (m : PlantModel) (s : List ℕ) (goal : List Pair) (k : ℕ) → IsGoodReply m s goal (Send k)
    → (Extends s goal → ⊥) × All (λ p. Reach m s p.item p.value) goal

-- a goal that stands is not unreachable
abbrev pub StandingIsReached : Type 0
StandingIsReached = (m : PlantModel) (s : List ℕ) (goal : List Pair) (c mode : ℕ) → Extends s goal → IsGoodReply m s goal (Unreachable c mode) → ⊥

-- a goal that stands gives the empty plan
abbrev pub StandingGivesNoCommands : Type 0
StandingGivesNoCommands = (b : CompiledModel) (goal : List Pair) (s ks last : List ℕ) → Whole b goal s ks last → Extends s goal → ks ≡ []

-- in a well-formed model a successor that costs nothing is the nominal one
abbrev pub FreeIsNominal : Type 0
FreeIsNominal = (m : PlantModel) (s t : List ℕ) (k : Option ℕ) (cost : ℕ) → WellFormed m → IsState m s → Costs m s k t cost
    → (cost ≡ 0 → Nominal m s k t)

-- the first tick is right, where the plant can show what is observed
abbrev pub FirstIsRight : Type 0
FirstIsRight = (b : CompiledModel) (t : TickRecord) → StaysRight b (t ∷ []) → All LeavesPlantAlone t.since → CanBeSeen b.model t → IsRight t

-- what is compiled from a model is determined
abbrev pub OneCompiled : Type 0
OneCompiled = (m : PlantModel) (ways others : List (List (List Pair))) (order another bounds more : List ℕ)
    → IsCompiled (record { model = m; ways = ways; order = order; bounds = bounds }) → IsCompiled (record { model = m; ways = others; order = another; bounds = more })
    → (ways ≡ others) × (order ≡ another) × (bounds ≡ more)

-- in the list c stands before d
abbrev pub ComesBefore : List ℕ → ℕ → ℕ → Type 0
ComesBefore order c d = (i j : ℕ) × (slice_get order i ≡ Some c) × (slice_get order j ≡ Some d) × (i < j)

-- no component comes twice
abbrev pub NoneTwice : List ℕ → Type 0
NoneTwice [] = Unit {0}
NoneTwice (c ∷ order) = (Contains order c → ⊥) × NoneTwice order

-- pairs are in an order exactly where each component is in it and comes before those of the pairs after it
abbrev pub InOrderIsPairwise : Type 0
InOrderIsPairwise = (order : List ℕ) (pairs : List Pair) → NoneTwice order
    → AreInOrder order pairs ↔ (All (λ p. Contains order p.item) pairs × AllPairs (λ p q. ComesBefore order p.item q.item) pairs)

-- the order of a compiled model has no component twice
abbrev pub OrdersHaveNoneTwice : Type 0
OrdersHaveNoneTwice = (b : CompiledModel) → IsCompiled b → NoneTwice b.order

-- in a well-formed model the nominal successor is a state that costs nothing
abbrev pub NominalIsFree : Type 0
NominalIsFree = (m : PlantModel) (s t : List ℕ) (k : Option ℕ) → WellFormed m → IsState m s → Nominal m s k t → Costs m s k t 0

-- in a well-formed model a successor has one cost at most
abbrev pub OneCost : Type 0
OneCost = (m : PlantModel) (s t : List ℕ) (k : Option ℕ) (a b : ℕ) → WellFormed m → Costs m s k t a → Costs m s k t b → a ≡ b

-- an accepted model has no unused command
abbrev pub CommandsAreUsed : Type 0
CommandsAreUsed = (m : PlantModel) → Accepted m → IsComplete m

-- while there is a goal, no good reply is idle
abbrev pub NeverIdle : Type 0
NeverIdle = (m : PlantModel) (s : List ℕ) (goal : List Pair) → IsGoodReply m s goal Idle → ⊥

-- the event is a tick
abbrev pub is_tick : Event → Bool
is_tick event.Tick = true
is_tick e = false

-- a fixed trace has as many reports as its events have ticks
abbrev pub AsManyAsTicks : Type 0
AsManyAsTicks = (b : CompiledModel) (events : List Event) (reports : List TickReport) → Trace b (IsChosenReply b) events reports → length reports ≡ count_by is_tick events
