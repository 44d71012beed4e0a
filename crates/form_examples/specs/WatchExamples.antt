-- Lines that follow a plant which somebody else commands, as the guide spells them.
use Rattle.std.specs.Prelude.{◌≡◌, List, [], ◌∷◌, codes}
use Rattle.script_reader.specs.SaidLines.{Spells}
use Rattle.watch_lines.specs.Items.{Sent, Observe, Reset, Tick, grammar}
use Rattle.form_examples.specs.EventExamples.{named}

-- each form of such a line
pub record WatchLinesAreSpelt : Type 0 where
  pub sent : Spells grammar (codes "sent drv_on") (Sent (codes "drv_on"))
  pub observe : Spells grammar (codes "observe flow = some") (Observe (named (codes "flow") (codes "some") ∷ []))
  pub reset : Spells grammar (codes "reset") Reset
  pub tick : Spells grammar (codes "tick") Tick
