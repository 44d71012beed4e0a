-- A lamp that is to be lit, where the goal is set anew before each tick, as a control program does.
use Rattle.std.specs.Prelude.{ℕ, List, [], ◌∷◌, Option, None, Some}
use Rattle.cca_base.specs.declared.events.Event.TheVariants as event
use Rattle.cca_base.specs.declared.events.Reply.{Reply}
use Rattle.cca_base.specs.declared.events.Reply.TheVariants.{Send, Achieved, Unreachable}
use Rattle.cca_base.specs.Bounds.{stated_number}
use Rattle.cca_base.specs.Runs.{TickRecord, IsStretch, ServesGoal}
use Rattle.cca_laws.specs.Examples.{lamp_compiled, lit}
use Rattle.trace_laws.specs.Examples.{lit_record, sent_on}
use Rattle.trace_laws.specs.Held.{IsHeldStretch, WithinHeld}

-- a tick before which the goal is set anew
abbrev pub asked_again : ℕ → Option ℕ → ℕ → Reply → TickRecord
asked_again ticks command mode reply = lit_record ticks (event.Goal lit ∷ []) command mode reply

-- the command is sent, and then the goal is achieved
abbrev pub held_ticks : List TickRecord
held_ticks = sent_on ∷ asked_again 1 (Some 0) 1 Achieved ∷ []

-- they are no stretch without a new goal, but the goal is held, and served
abbrev pub HeldIsServed : Type 0
HeldIsServed = (IsStretch held_ticks lit 0 1 → ⊥) × IsHeldStretch held_ticks lit 0 1 × ServesGoal (stated_number lamp_compiled.bounds lit) held_ticks 0 1

-- the command is sent twice
abbrev pub HeldSentTwice : Type 0
HeldSentTwice = WithinHeld lamp_compiled (sent_on ∷ asked_again 1 (Some 0) 1 (Send 1) ∷ []) → ⊥

-- the goal becomes unreachable
abbrev pub HeldIsLost : Type 0
HeldIsLost = WithinHeld lamp_compiled (sent_on ∷ asked_again 1 (Some 0) 1 (Unreachable 0 1) ∷ []) → ⊥

-- a tick with another goal in force
abbrev pub other_goal : TickRecord
other_goal = record (asked_again 1 (Some 0) 1 (Send 1)) { before = record (asked_again 1 (Some 0) 1 (Send 1)).before { goal = Some (record { item = 0; value = 0 } ∷ []) } }

-- a tick whose estimate is wrong: the plant is as it was
abbrev pub wrong_estimate : TickRecord
wrong_estimate = record (asked_again 1 (Some 0) 1 (Send 1)) { before = record (asked_again 1 (Some 0) 1 (Send 1)).before { plant = 0 ∷ [] } }

-- the first tick, and then this one, aren't one goal that is held
abbrev pub IsNoneHeld : TickRecord → Type 0
IsNoneHeld t = IsHeldStretch (sent_on ∷ t ∷ []) lit 0 1 → ⊥

-- nothing is promised where another goal is in force, behind a fault or a reset, at a wrong estimate, and where the goal was said to be unreachable at first
pub record HeldIsExcused : Type 0 where
  pub other : IsNoneHeld other_goal
  pub fault : IsNoneHeld (lit_record 1 (event.Fault (record { item = 0; value = 0 }) ∷ event.Goal lit ∷ []) (Some 0) 0 (Send 0))
  pub reset : IsNoneHeld (lit_record 1 (event.Reset ∷ event.Goal lit ∷ []) (Some 0) 0 (Send 0))
  pub wrong : IsNoneHeld wrong_estimate
  pub unreachable : IsHeldStretch (asked_again 0 None 0 (Unreachable 0 1) ∷ []) lit 0 0 → ⊥
