-- What is printed of answers, byte for byte, and what is pending.
use Rattle.std.specs.Prelude.{◌≡◌, ◌+◌, ℕ, List, [], ◌∷◌, ◌++◌, codes, None, Some}
use Rattle.cca_base.specs.declared.cube.Pair.{Pair}
use Rattle.cca_base.specs.PlantModel.{PlantModel}
use Rattle.model_form.specs.LinesEnds.{with_item}
use Rattle.trace_text.specs.JsonExamples.{line, valve_names}
use Rattle.watch_lines.specs.declared.watch_event.WatchEvent.TheVariants.{Observe, Reset, Sent, Tick}
use Rattle.window_laws.specs.Ticks.{Found, Unexplained, Holding}
use Rattle.window_laws.specs.Ticks as windows
use Rattle.window_laws.specs.Trajectories.{Entry}
use Rattle.watch_form.specs.Answered.{answer_line}
use Rattle.watch_form.specs.Calls.{Calls, FollowsBy, nothing_pending}

-- lines of ticks of a valve and its driver: the window, the cost and the last state, and what has changed where something has
pub record LinesOfValve : Type 0 where
  pub same : answer_line valve_names (record { tick = 9; answer = Found ((0 ∷ 0 ∷ []) ∷ (1 ∷ 0 ∷ []) ∷ (1 ∷ 1 ∷ []) ∷ []) 4 None })
      ≡ line (codes "tick 9 window 3 cost 4 modes drv=on valve=open")
  pub revised : answer_line valve_names (record { tick = 4; answer = Found ((0 ∷ 0 ∷ []) ∷ (1 ∷ 0 ∷ []) ∷ []) 2 (Some 3) })
      ≡ line (codes "tick 4 window 2 cost 2 modes drv=on valve=closed revised 3")
  pub unexplained : answer_line valve_names (record { tick = 4; answer = Unexplained }) ≡ line (codes "tick 4 unexplained")
  pub holding : answer_line valve_names (record { tick = 5; answer = Holding }) ≡ line (codes "tick 5 holding")

-- nothing is pending at the start
abbrev pub NothingFirst : Type 0
NothingFirst = (nothing_pending.command ≡ None) × (nothing_pending.seen ≡ [])

-- what two lines observe is pending together
abbrev pub BothPending : Type 0
BothPending = (m : PlantModel) (x z : Entry) (n : ℕ) (first second : List Pair) (r : Calls)
    → FollowsBy m (Observe first) x n (λ y. FollowsBy m (Observe second) y (n + 1) (λ pending rest. pending ≡ z)) r → z ≡ record x { seen = x.seen ++ first ++ second }

-- what is pending is of one tick: the first of two ticks is called with a command and observations before it, and the second with nothing; and behind a reset a tick is called with nothing
pub record PendingIsOfOneTick : Type 0 where
  pub tick : (m : PlantModel) (n k : ℕ) (pairs : List Pair) (r rest : Calls)
      → FollowsBy m (Sent k) nothing_pending n (λ x. FollowsBy m (Observe pairs) x (n + 1) (λ y. FollowsBy m Tick y (n + 2) (λ z. FollowsBy m Tick z (n + 3) (λ last others. others ≡ rest)))) r
      → r ≡ with_item (windows.Tick (record { command = Some k; seen = pairs })) (with_item (windows.Tick nothing_pending) rest)
  pub reset : (m : PlantModel) (n k : ℕ) (pairs : List Pair) (r rest : Calls)
      → FollowsBy m (Sent k) nothing_pending n (λ x. FollowsBy m (Observe pairs) x (n + 1) (λ y. FollowsBy m Reset y (n + 2) (λ z. FollowsBy m Tick z (n + 3) (λ last others. others ≡ rest)))) r
      → r ≡ with_item windows.Reset (with_item (windows.Tick nothing_pending) rest)
