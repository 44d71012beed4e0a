-- When a goal is served within its number, and what stays right from one tick to the next.
use Rattle.std.specs.Prelude.{ℕ, [], ◌∷◌, Some}
use Rattle.cca_base.specs.declared.events.Reply.{Reply}
use Rattle.cca_base.specs.declared.events.Reply.TheVariants.{Idle, Send, Achieved, Unreachable}
use Rattle.cca_base.specs.declared.events.Shown.TheVariants.{Estimated}
use Rattle.cca_base.specs.Trace.{start}
use Rattle.cca_base.specs.Runs.{TickRecord, ServesGoal, Within, IsStretch}
use Rattle.cca_laws.specs.Examples.{lamp, lamp_compiled, lit}

-- a tick at which the lamp is to be lit and stands as it started, rightly estimated, with this reply
abbrev pub replied : Reply → TickRecord
replied reply = record {
  since = [];
  before = record (start lamp 0) { goal = Some lit };
  report = record { tick = 1; shown = Estimated 0 (record { modes = 0 ∷ [] }) reply };
}

-- one command and then achieved is served by the number one
abbrev pub OneOfOne : Type 0
OneOfOne = ServesGoal 1 (replied (Send 0) ∷ replied Achieved ∷ []) 0 1

-- two commands are too many for it
abbrev pub TwoOfOne : Type 0
TwoOfOne = ServesGoal 1 (replied (Send 0) ∷ replied (Send 1) ∷ []) 0 1 → ⊥

-- one command and then something else than achieved is too late
abbrev pub TooLate : Type 0
TooLate = ServesGoal 1 (replied (Send 0) ∷ replied Idle ∷ []) 0 1 → ⊥

-- no command comes after achieved, however large the number
abbrev pub NoneAfter : Type 0
NoneAfter = (number : ℕ) → ServesGoal number (replied Achieved ∷ replied (Send 0) ∷ []) 0 1 → ⊥

-- nothing is unreachable on the way
abbrev pub NotLost : Type 0
NotLost = (number : ℕ) → ServesGoal number (replied (Send 0) ∷ replied (Unreachable 0 1) ∷ []) 0 1 → ⊥

-- the lamp's stated number is one: two commands break its promise
abbrev pub LampIsPromised : Type 0
LampIsPromised = Within lamp_compiled (replied (Send 0) ∷ replied (Send 1) ∷ []) → ⊥

-- a tick that says unreachable begins no stretch
abbrev pub LostBeginsNone : Type 0
LostBeginsNone = (j : ℕ) → IsStretch (replied (Unreachable 0 1) ∷ []) lit 0 j → ⊥
