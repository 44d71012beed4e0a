-- How far a stretch of ticks goes, and within how many commands its goal is served.
use Rattle.std.specs.Prelude.{◌≡◌, ℕ, List, [], ◌∷◌, sum, Some}
use Rattle.cca_base.specs.declared.cube.Pair.{Pair}
use Rattle.cca_base.specs.declared.events.Event.TheVariants as event
use Rattle.cca_base.specs.declared.events.Reply.{Reply}
use Rattle.cca_base.specs.declared.events.Reply.TheVariants.{Send, Achieved}
use Rattle.cca_base.specs.declared.events.Shown.TheVariants.{Estimated}
use Rattle.cca_base.specs.Bounds.{stated_number}
use Rattle.cca_base.specs.Trace.{start}
use Rattle.cca_base.specs.Runs.{TickRecord, Within}
use Rattle.cca_laws.specs.ValveExamples.{valve_model}
use Rattle.cca_laws.specs.ExcuseExamples.{driver_started}
use Rattle.cca_laws.specs.RightExamples.{no_flow}
use Rattle.cca_laws.specs.MendExamples.{mending, mending_compiled, c_is_z}

-- ---- events within a stretch

-- the goal that the driver is on
abbrev pub driver_wanted : List Pair
driver_wanted = record { item = 0; value = 1 } ∷ []

-- the first tick under that goal sends the driver on
abbrev pub sent_moment : TickRecord
sent_moment = record {
  since = event.Goal driver_wanted ∷ [];
  before = record (start valve_model 0) { goal = Some driver_wanted };
  report = record { tick = 1; shown = Estimated 0 (record { modes = 0 ∷ 0 ∷ [] }) (Send 0) };
}

-- before the second tick it is observed that nothing flows; the driver is on, and yet one more command is sent
abbrev pub again_moment : TickRecord
again_moment = record {
  since = event.Observe no_flow ∷ [];
  before = record (driver_started driver_wanted) { pending = no_flow };
  report = record { tick = 2; shown = Estimated 0 (record { modes = 1 ∷ 0 ∷ [] }) (Send 2) };
}

-- one command is enough for the driver: a second one breaks the promise, since observing ends no stretch
abbrev pub ObservingEndsNoStretch : Type 0
ObservingEndsNoStretch = (ways : List (List (List Pair))) (order : List ℕ)
    → Within (record { model = valve_model; ways = ways; order = order; bounds = 1 ∷ 4 ∷ [] }) (sent_moment ∷ again_moment ∷ [])
    → ⊥

-- before the second tick the flow is mirrored instead
abbrev pub mirrored_moment : TickRecord
mirrored_moment = record again_moment {
  since = event.Mirror 0 ∷ [];
  before = record (driver_started driver_wanted) { mirrored = 1 };
}

-- neither does mirroring end a stretch
abbrev pub MirroringEndsNoStretch : Type 0
MirroringEndsNoStretch = (ways : List (List (List Pair))) (order : List ℕ)
    → Within (record { model = valve_model; ways = ways; order = order; bounds = 1 ∷ 4 ∷ [] }) (sent_moment ∷ mirrored_moment ∷ [])
    → ⊥

-- ---- the stated number

-- the goal that c is z
abbrev pub z_wanted : List Pair
z_wanted = c_is_z ∷ []

-- a tick under that goal, with these modes in the plant and in the estimate, and this reply
abbrev pub toward_z : List ℕ → Reply → TickRecord
toward_z modes reply = record {
  since = [];
  before = record (start mending 0) { plant = modes; goal = Some z_wanted };
  report = record { tick = 1; shown = Estimated 0 (record { modes = modes }) reply };
}

-- c is mended, b is moved though nobody wants it, and c is brought to z: three commands, and then achieved
abbrev pub with_a_detour : List TickRecord
with_a_detour =
    toward_z (0 ∷ 0 ∷ []) (Send 0) ∷ toward_z (1 ∷ 0 ∷ []) (Send 3) ∷ toward_z (1 ∷ 1 ∷ []) (Send 1)
    ∷ toward_z (2 ∷ 1 ∷ []) Achieved ∷ []

-- two commands are stated, the bound of c alone: three break the promise, though the bounds of both are five
abbrev pub OneBoundIsStated : Type 0
OneBoundIsStated = (stated_number mending_compiled.bounds z_wanted ≡ 2) × (sum mending_compiled.bounds ≡ 5)
    × (Within mending_compiled with_a_detour → ⊥)
