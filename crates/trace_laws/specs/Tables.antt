-- Tables that are kept from tick to tick, seen as the state for which they were made.
use Rattle.std.specs.Prelude.{◌≡◌, ℕ, Bool, true, false, if◌then◌else◌, List, [], ◌++◌, ◌∷◌, Option, Some, None, option_to_list}
use Rattle.cca_base.specs.declared.cube.Pair.{Pair}
use Rattle.cca_base.specs.declared.events.Event.{Event}
use Rattle.cca_base.specs.declared.events.Event.TheVariants as event
use Rattle.cca_base.specs.declared.events.Reply.{Reply}
use Rattle.cca_base.specs.declared.events.Shown.{Shown}
use Rattle.cca_base.specs.declared.events.Shown.TheVariants.{Estimated, Unexplained, Holding}
use Rattle.cca_base.specs.declared.events.TickReport.{TickReport}
use Rattle.cca_base.specs.Accepted.{CompiledModel}
use Rattle.cca_base.specs.State.{IsState}
use Rattle.cca_base.specs.Choice.{IsChosenReply}
use Rattle.cca_base.specs.Trace.{ExecutiveState, ReplyRule}
use Rattle.trace_laws.specs.Fits.{IsKeptGoal}
use Rattle.trace_laws.specs.Events.{Acts}

-- whether tables for one state cover another
abbrev pub Cover : Type 0
Cover = List ℕ → List ℕ → Bool

-- the reply by the tables for one state, in another, to a goal
abbrev pub Planner : Type 0
Planner = List ℕ → List ℕ → List Pair → Reply

-- a state is covered by its own tables, and where tables cover a state their reply is the chosen one
pub record PlansWell (b : CompiledModel) (covers : Cover) (planner : Planner) : Type 0 where
  pub itself : (s : List ℕ) → IsState b.model s → covers s s ≡ true
  pub chosen : (base s : List ℕ) (goal : List Pair) → IsState b.model base → IsState b.model s → covers base s ≡ true → IsKeptGoal b goal
      → IsChosenReply b s goal (planner base s goal)

-- which tables a tick with a goal takes: by those that there are, and the estimate
abbrev pub Taking : Type 0
Taking = Option (List ℕ) → List ℕ → List ℕ

-- those that there are if they cover the estimate, and else new ones
abbrev pub kept : Cover → Taking
kept covers None s = s
kept covers (Some base) s = if covers base s then base else s

-- new ones at each tick
abbrev pub renewed : Taking
renewed base s = s

-- the tables after a tick with an estimate: some are taken where there is a goal
abbrev pub base_for : Taking → Option (List Pair) → Option (List ℕ) → List ℕ → Option (List ℕ)
base_for taking None base s = base
base_for taking (Some goal) base s = Some (taking base s)

-- the tables after a tick
abbrev pub base_shown : Taking → Option (List Pair) → Option (List ℕ) → Shown → Option (List ℕ)
base_shown taking goal base (Estimated cost state reply) = base_for taking goal base state.modes
base_shown taking goal base Unexplained = base
base_shown taking goal base Holding = base

-- the tables after an event: a tick with a goal and an estimate takes some, a reset drops them, and all others leave them
abbrev pub base_after : Taking → Option (List Pair) → Option (List ℕ) → Event → Option TickReport → Option (List ℕ)
base_after taking goal base e (Some report) = base_shown taking goal base report.shown
base_after taking goal base event.Reset None = None
base_after taking goal base (event.Goal pairs) None = base
base_after taking goal base event.Clear None = base
base_after taking goal base (event.Observe pairs) None = base
base_after taking goal base (event.Fault p) None = base
base_after taking goal base (event.Mirror v) None = base
base_after taking goal base event.Tick None = base

-- the planner's reply, by the tables that the tick takes
abbrev pub by_tables : Planner → Taking → Option (List ℕ) → ReplyRule
by_tables planner taking base s goal reply = reply ≡ planner (taking base s) s goal

-- some events, one after the other, lead from x to y with these reports, where an executive plans by tables
abbrev pub MakesByTables : CompiledModel → Planner → Taking → ExecutiveState → Option (List ℕ) → List Event → ExecutiveState → List TickReport → Type 0
MakesByTables b planner taking x base [] y reports = (y ≡ x) × (reports ≡ [])
MakesByTables b planner taking x base (e ∷ events) y reports =
    (z : ExecutiveState) × (report : Option TickReport) × (others : List TickReport)
    × Acts b (by_tables planner taking base) x e z report
    × MakesByTables b planner taking z (base_after taking x.goal base e report) events y others
    × (reports ≡ option_to_list report ++ others)

-- ---- tables as they are seen, with the state for which they were made

-- tables that were made for the state
abbrev pub IsNew : {T : Type 0} → (T → List ℕ) → List ℕ → Option T → Type 0
IsNew {T} base s after = (t : T) × (after ≡ Some t) × (base t ≡ s)

-- the old tables where they cover the state, and else new ones
abbrev pub StaysIf : {T : Type 0} → (T → List ℕ) → Bool → T → List ℕ → Option T → Type 0
StaysIf base true old s after = after ≡ Some old
StaysIf base false old s after = IsNew base s after

-- which tables a tick with a goal takes in a state, by those before it
abbrev pub Takes : {T : Type 0} → (T → List ℕ) → (T → List ℕ → Bool) → Option T → List ℕ → Option T → Type 0
Takes base covers None s after = IsNew base s after
Takes base covers (Some old) s after = StaysIf base (covers old s) old s after

-- without a goal they stay
abbrev pub TakesFor : {T : Type 0} → (T → List ℕ) → (T → List ℕ → Bool) → Option (List Pair) → Option T → List ℕ → Option T → Type 0
TakesFor base covers None before s after = after ≡ before
TakesFor base covers (Some goal) before s after = Takes base covers before s after

-- the tables after a tick
abbrev pub TablesShown : {T : Type 0} → (T → List ℕ) → (T → List ℕ → Bool) → Option (List Pair) → Option T → Shown → Option T → Type 0
TablesShown base covers goal before (Estimated cost state reply) after = TakesFor base covers goal before state.modes after
TablesShown base covers goal before Unexplained after = after ≡ before
TablesShown base covers goal before Holding after = after ≡ before

-- the tables after an event
abbrev pub TablesAfter : {T : Type 0} → (T → List ℕ) → (T → List ℕ → Bool) → Option (List Pair) → Option T → Event → Option TickReport → Option T → Type 0
TablesAfter base covers goal before e (Some report) after = TablesShown base covers goal before report.shown after
TablesAfter base covers goal before event.Reset None after = after ≡ None
TablesAfter base covers goal before (event.Goal pairs) None after = after ≡ before
TablesAfter base covers goal before event.Clear None after = after ≡ before
TablesAfter base covers goal before (event.Observe pairs) None after = after ≡ before
TablesAfter base covers goal before (event.Fault p) None after = after ≡ before
TablesAfter base covers goal before (event.Mirror v) None after = after ≡ before
TablesAfter base covers goal before event.Tick None after = after ≡ before
