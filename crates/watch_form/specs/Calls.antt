-- What the lines behind a model call a tracker for.
use Rattle.std.specs.Prelude.{◌≡◌, ℕ, List, [], ◌++◌, Option, Some, None, Result}
use Rattle.std.specs.Option.{is_some}
use Rattle.cca_base.specs.PlantModel.{PlantModel}
use Rattle.model_form.specs.LinesEnds.{Asked, ReadsLines, with_item}
use Rattle.watch_lines.specs.WatchEvents.{IsWatchEventOf}
use Rattle.watch_lines.specs.declared.watch_event.WatchEvent.{WatchEvent}
use Rattle.watch_lines.specs.declared.watch_event.WatchEvent.TheVariants.{Sent, Observe, Reset, Tick}
use Rattle.window_laws.specs.Ticks as windows
use Rattle.window_laws.specs.Trajectories.{Entry}

-- neither a command nor an observation
abbrev pub nothing_pending : Entry
nothing_pending = record { command = None; seen = [] }

-- the calls of some lines, and how these end
abbrev pub Calls : Type 0
Calls = Asked windows.TrackerCall

module _ (m : PlantModel) where
  -- what a line says with what is pending
  abbrev pub IsSaid : Entry → List ℕ → Result (Option WatchEvent) ℕ → Type 0
  IsSaid x line said = IsWatchEventOf m x.seen (is_some x.command) line said

  -- an event and the later lines: a command or observations are pending for these; a tick is called with all that is pending, and a tick and a reset leave nothing pending
  abbrev pub FollowsBy : WatchEvent → Entry → ℕ → (Entry → Calls → Type 0) → Calls → Type 0
  FollowsBy (Sent command) x n Later r = Later (record x { command = Some command }) r
  FollowsBy (Observe pairs) x n Later r = Later (record x { seen = x.seen ++ pairs }) r
  FollowsBy Reset x n Later r = (rest : Calls) × Later nothing_pending rest × (r ≡ with_item windows.Reset rest)
  FollowsBy Tick x n Later r = (rest : Calls) × Later nothing_pending rest × (r ≡ with_item (windows.Tick x) rest)

  -- what the lines behind n lines call for, where this is pending
  abbrev pub ReadsCalls : Entry → ℕ → List (List ℕ) → Calls → Type 0
  ReadsCalls x n ls r = ReadsLines IsSaid FollowsBy x n ls r
