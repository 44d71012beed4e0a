-- A lamp that is to be lit, and a valve whose flow is mirrored: ticks that keep the promises, and ticks that break them.
use Rattle.std.specs.Prelude.{◌+◌, false, ℕ, List, [], ◌∷◌, Option, None, Some}
use Rattle.cca_base.specs.declared.cube.Pair.{Pair}
use Rattle.cca_base.specs.declared.events.Event.{Event}
use Rattle.cca_base.specs.declared.events.Event.TheVariants as event
use Rattle.cca_base.specs.declared.events.Reply.{Reply}
use Rattle.cca_base.specs.declared.events.Reply.TheVariants.{Idle, Send, Achieved, Unreachable}
use Rattle.cca_base.specs.declared.events.Shown.TheVariants.{Estimated, Unexplained}
use Rattle.cca_base.specs.Bounds.{stated_number}
use Rattle.cca_base.specs.Runs.{TickRecord, Within, StaysRight, IsStretch, ServesGoal}
use Rattle.cca_base.specs.Trace.{ExecutiveState, start, Observed}
use Rattle.cca_laws.specs.Examples.{lamp_compiled, lit}
use Rattle.cca_laws.specs.RightExamples.{no_flow}
use Rattle.cca_laws.specs.ValveExamples.{valve_model}

-- a tick with the goal that the lamp is lit, and a right estimate
abbrev pub lit_record : ℕ → List Event → Option ℕ → ℕ → Reply → TickRecord
lit_record ticks since command mode reply = record {
  since = since;
  before = record { estimate = mode ∷ []; command = command; plant = mode ∷ []; pending = []; mirrored = 0; goal = Some lit; holding = false; ticks = ticks };
  report = record { tick = ticks + 1; shown = Estimated 0 (record { modes = mode ∷ [] }) reply };
}

-- the first tick: the command is sent
abbrev pub sent_on : TickRecord
sent_on = lit_record 0 (event.Goal lit ∷ []) None 0 (Send 0)

-- the command is sent, and then the goal is achieved
abbrev pub lit_ticks : List TickRecord
lit_ticks = sent_on ∷ lit_record 1 [] (Some 0) 1 Achieved ∷ []

-- they are a stretch, and keep the promise
abbrev pub LitIsServed : Type 0
LitIsServed = IsStretch lit_ticks lit 0 1 × ServesGoal (stated_number lamp_compiled.bounds lit) lit_ticks 0 1

-- the command is sent twice
abbrev pub SentTwiceIsNotServed : Type 0
SentTwiceIsNotServed = Within lamp_compiled (sent_on ∷ lit_record 1 [] (Some 0) 1 (Send 1) ∷ []) → ⊥

-- the goal becomes unreachable
abbrev pub LostIsNotServed : Type 0
LostIsNotServed = Within lamp_compiled (sent_on ∷ lit_record 1 [] (Some 0) 1 (Unreachable 0 1) ∷ []) → ⊥

-- the command is sent after the goal was achieved
abbrev pub SentAgainIsNotServed : Type 0
SentAgainIsNotServed = Within lamp_compiled (lit_record 0 (event.Goal lit ∷ []) None 1 Achieved ∷ lit_record 1 [] None 1 (Send 1) ∷ []) → ⊥

-- where the goal was said to be unreachable at first, nothing is promised; nor after another goal, a fault, or a wrong estimate
abbrev pub OthersAreExcused : Type 0
OthersAreExcused = (IsStretch (lit_record 0 (event.Goal lit ∷ []) None 0 (Unreachable 0 1) ∷ []) lit 0 0 → ⊥)
    × (IsStretch (sent_on ∷ lit_record 1 (event.Goal lit ∷ []) (Some 0) 1 (Send 1) ∷ []) lit 0 1 → ⊥)
    × (IsStretch (sent_on ∷ lit_record 1 (event.Fault (record { item = 0; value = 0 }) ∷ []) (Some 0) 0 (Send 0) ∷ []) lit 0 1 → ⊥)

-- a tick that shows nothing
abbrev pub silent : TickRecord
silent = record (lit_record 1 [] (Some 0) 1 Achieved) { report = record { tick = 2; shown = Unexplained } }

-- a tick whose right estimate costs something
abbrev pub dear : TickRecord
dear = record (lit_record 1 [] (Some 0) 1 Achieved) { report = record { tick = 2; shown = Estimated 3 (record { modes = 1 ∷ [] }) Achieved } }

-- after a right tick each of them breaks the other promise
abbrev pub SilentIsNotRight : Type 0
SilentIsNotRight = (StaysRight lamp_compiled (sent_on ∷ silent ∷ []) → ⊥) × (StaysRight lamp_compiled (sent_on ∷ dear ∷ []) → ⊥)

-- ---- what is mirrored

-- the valve at its start, with its flow mirrored
abbrev pub mirroring : ExecutiveState
mirroring = record (start valve_model 0) { mirrored = 1 }

-- the mirrored flow is observed with its one value
abbrev pub MirrorShowsFlow : Type 0
MirrorShowsFlow = Observed valve_model mirroring no_flow

-- the first tick, with the flow mirrored and nothing else observed, and an estimate in which the driver is on
abbrev pub mirrored_record : TickRecord
mirrored_record = record { since = event.Mirror 0 ∷ []; before = mirroring; report = record { tick = 1; shown = Estimated 0 (record { modes = 1 ∷ 0 ∷ [] }) Idle } }

-- it is not right, though it had to be: the plant can show what is mirrored
abbrev pub MirroredIsNotRight : Type 0
MirroredIsNotRight = (ways : List (List (List Pair))) (order bounds : List ℕ)
    → StaysRight (record { model = valve_model; ways = ways; order = order; bounds = bounds }) (mirrored_record ∷ []) → ⊥
