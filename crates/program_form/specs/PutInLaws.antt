-- Laws of what a control program puts in, and of when it is said to have ended.
use Rattle.std.specs.Prelude.{◌≡◌, ◌<◌, ◌≤◌, ◌↔◌, ◌⊎◌, Bool, true, false, List, [], ◌∷◌, ◌++◌, length, filter, count_by, fold, codes, Option, Some, None, option_to_list, IsTrue}
use Rattle.std.specs.List.{AllByRecursion}
use Rattle.cca_base.specs.declared.cube.Pair.{Pair}
use Rattle.cca_base.specs.declared.events.Event.{Event}
use Rattle.cca_base.specs.declared.events.Event.TheVariants as event
use Rattle.cca_base.specs.declared.events.Reply.TheVariants.{Idle}
use Rattle.cca_base.specs.declared.events.Shown.{Shown}
use Rattle.cca_base.specs.declared.events.Shown.TheVariants.{Estimated, Unexplained, Holding}
use Rattle.cca_base.specs.Accepted.{CompiledModel}
use Rattle.cca_base.specs.Orders.{IsSorted}
use Rattle.cca_base.specs.Plans.{Promising}
use Rattle.cca_base.specs.PlantModel.{PlantModel}
use Rattle.cca_base.specs.State.{start_modes}
use Rattle.cca_base.specs.Trace.{ExecutiveState}
use Rattle.control_laws.specs.Rest.{Rest}
use Rattle.control_laws.specs.Turns.{Control, TurnsBy, fresh}
use Rattle.trace_laws.specs.Events.{Acts, IsTick}
use Rattle.trace_text.specs.JsonExamples.{line, valve_names}
use Rattle.program_form.specs.Printed.{told_text}
use Rattle.program_form.specs.PutIn.{PutIn, Sequencer, Told, TurnsBefore, asks, at_start, ends, estimate_after, is_holding}

-- a goal without pairs is cleared, and any other is set
abbrev pub AsksGoal : Type 0
AsksGoal = (goal : List Pair) → (goal ≡ [] → asks goal ≡ event.Clear) × (0 < length goal → asks goal ≡ event.Goal goal)

-- before the first tick the whole program has a turn with the start modes
abbrev pub TurnsAtStart : Type 0
TurnsAtStart = (m : PlantModel) (program : Rest) (full : List Event) (told : List Told) → PutIn m (at_start m program) (event.Tick ∷ []) full told
    → (goal : List Pair) × (y : Control) × TurnsBy m (start_modes m) (fresh program) goal y × (full ≡ asks goal ∷ event.Tick ∷ [])

-- between two ticks stands a turn with the estimate that the first one shows, and none where it is unexplained or holding
abbrev pub TurnsBetween : PlantModel → Shown → Control → List Event → List Event → Bool → Type 0
TurnsBetween m (Estimated cost state reply) y before full ended =
    (goal : List Pair) × (z : Control) × TurnsBy m state.modes y goal z × (full ≡ before ++ event.Tick ∷ asks goal ∷ event.Tick ∷ []) × (ended ≡ ends y z)
TurnsBetween m Unexplained y before full ended = (full ≡ before ++ event.Tick ∷ event.Tick ∷ []) × (ended ≡ false)
TurnsBetween m Holding y before full ended = (full ≡ before ++ event.Tick ∷ event.Tick ∷ []) × (ended ≡ false)

-- of two ticks, one behind the other, the first one's report decides whether the program has a turn before the second, and with which estimate
abbrev pub TurnsByReport : Type 0
TurnsByReport = (m : PlantModel) (x : Sequencer) (full : List Event) (a b : Told) → PutIn m x (event.Tick ∷ event.Tick ∷ []) full (a ∷ b ∷ [])
    → (put : Option Event) × (y : Control) × TurnsBefore x.holding m x put y × (a.ended ≡ ends x.control y)
    × TurnsBetween m a.report.shown y (option_to_list put) full b.ended

-- behind a reset all is as at the start
abbrev pub ResetsBeginAgain : Type 0
ResetsBeginAgain = (m : PlantModel) (x : Sequencer) (events full : List Event) (told : List Told)
    → PutIn m x (event.Reset ∷ events) full told ↔ ((rest : List Event) × (full ≡ event.Reset ∷ rest) × PutIn m (at_start m x.control.program) events rest told)

-- before an event that is no tick nothing is put in, and nothing is told of it; a reset begins the program again, and any other leaves all as it is
abbrev pub OthersPass : Type 0
OthersPass = (m : PlantModel) (x : Sequencer) (e : Event) (events full : List Event) (told : List Told) → (IsTick e → ⊥) → PutIn m x (e ∷ events) full told
    → (rest : List Event) × (full ≡ e ∷ rest) × (e ≡ event.Reset → PutIn m (at_start m x.control.program) events rest told) × ((e ≡ event.Reset → ⊥) → PutIn m x events rest told)

-- ---- the end of a program

-- the event is no reset
abbrev pub is_no_reset : Event → Bool
is_no_reset event.Reset = false
is_no_reset event.Tick = true
is_no_reset (event.Goal pairs) = true
is_no_reset event.Clear = true
is_no_reset (event.Observe pairs) = true
is_no_reset (event.Fault p) = true
is_no_reset (event.Mirror v) = true

-- before a tick stands its turn, and the tick is told with the program's end exactly where something was left of it before the turn and nothing is left behind it
abbrev pub EndsInItsTurn : Type 0
EndsInItsTurn = (m : PlantModel) (x : Sequencer) (events full : List Event) (t : Told) (told : List Told) → PutIn m x (event.Tick ∷ events) full (t ∷ told)
    → (put : Option Event) × (y : Control) × (rest : List Event) × TurnsBefore x.holding m x put y × (full ≡ option_to_list put ++ event.Tick ∷ rest)
    × (IsTrue t.ended ↔ ((x.control.left ≡ None → ⊥) × (y.left ≡ None)))

-- of ticks without a reset between them at most one is told with the program's end, and none where nothing was left before
abbrev pub EndsOnce : Type 0
EndsOnce = (m : PlantModel) (x : Sequencer) (events full : List Event) (told : List Told) → PutIn m x events full told
    → AllByRecursion (λ e. IsTrue (is_no_reset e)) events → (count_by (λ t. t.ended) told ≤ 1) × (x.control.left ≡ None → count_by (λ t. t.ended) told ≡ 0)

-- what is known behind events without a reset: the last estimate that was shown, whether the last report was unexplained or holding, and that nothing is left of the program exactly
-- where nothing was left before or its end is told
pub record KnownBehind (x y : Sequencer) (told : List Told) : Type 0 where
  pub program : y.control.program ≡ x.control.program
  pub estimate : y.estimate ≡ fold (λ last t. estimate_after last t.report.shown) x.estimate told
  pub holding : y.holding ≡ fold (λ last t. is_holding t.report.shown) x.holding told
  pub left : (y.control.left ≡ None) ↔ ((x.control.left ≡ None) ⊎ (count_by (λ t. t.ended) told ≡ 1))

-- what is put in before events of which the first have no reset is what is put in before the first, and then before the others from where the first lead
abbrev pub PutInSplits : Type 0
PutInSplits = (m : PlantModel) (x : Sequencer) (before events full : List Event) (told : List Told) → PutIn m x (before ++ events) full told
    → AllByRecursion (λ e. IsTrue (is_no_reset e)) before
    → (y : Sequencer) × (first last : List Event) × (early late : List Told) × KnownBehind x y early
    × PutIn m x before first early × PutIn m y events last late × (full ≡ first ++ last) × (told ≡ early ++ late)

-- ---- what is put in

-- the event neither sets nor clears a goal
abbrev pub sets_no_goal : Event → Bool
sets_no_goal (event.Goal pairs) = false
sets_no_goal event.Clear = false
sets_no_goal event.Tick = true
sets_no_goal event.Reset = true
sets_no_goal (event.Observe pairs) = true
sets_no_goal (event.Fault p) = true
sets_no_goal (event.Mirror v) = true

-- only goals are put in: where no line sets or clears one, all but those are the lines' events
abbrev pub OnlyGoalsArePut : Type 0
OnlyGoalsArePut = (m : PlantModel) (x : Sequencer) (events full : List Event) (told : List Told) → PutIn m x events full told
    → AllByRecursion (λ e. IsTrue (sets_no_goal e)) events → filter sets_no_goal full ≡ events

-- behind what a turn puts in, what it asks for is the goal in force, in the order of planning; where it asks for nothing there is none
abbrev pub TurnGoalIsInForce : Type 0
TurnGoalIsInForce = (b : CompiledModel) (x y : ExecutiveState) (goal : List Pair) → Acts b (Promising b) x (asks goal) y None
    → (goal ≡ [] → y.goal ≡ None) × (0 < length goal → (sorted : List Pair) × IsSorted b.order goal sorted × (y.goal ≡ Some sorted))

-- ---- what is printed

-- behind the line of the tick before which the program has ended stands one that says so, and behind the line of any other tick none
pub record DoneLines : Type 0 where
  pub done : told_text valve_names (record { report = record { tick = 6; shown = Estimated 0 (record { modes = 1 ∷ 1 ∷ [] }) Idle }; ended = true }) ≡ line (codes "tick 6 cost 0 modes drv=on valve=open idle") ++ line (codes "done 6")
  pub going : told_text valve_names (record { report = record { tick = 6; shown = Estimated 0 (record { modes = 1 ∷ 1 ∷ [] }) Idle }; ended = false }) ≡ line (codes "tick 6 cost 0 modes drv=on valve=open idle")
