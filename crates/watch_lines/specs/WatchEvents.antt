-- What a line says, and the table of codes, in words of the names that stand in a line.
use Rattle.std.specs.Prelude.{◌≡◌, ◌⊎◌, ◌<◌, ℕ, Bool, true, false, List, Option, Some, None, Result, Ok, Err, length}
use Rattle.text_base.specs.Lexemes.{Lexeme}
use Rattle.cca_base.specs.declared.codes.TheConstants.{MALFORMED, NAME_UNKNOWN, REPEATED_PAIR}
use Rattle.cca_base.specs.declared.cube.Pair.{Pair}
use Rattle.cca_base.specs.PlantModel.{PlantModel}
use Rattle.cca_base.specs.Trace.{MayBeObserved}
use Rattle.formula_syntax.specs.Lookups.{place_of}
use Rattle.script_reader.specs.Items as scripts
use Rattle.script_reader.specs.Laws.{Applies as AppliesInScript}
use Rattle.script_reader.specs.Named.{value_pair, each_pair}
use Rattle.script_reader.specs.SaidLines.{IsLeast, SaidByItem, SaidByLine, SaidByWords, SaidByTokens}
use Rattle.watch_lines.specs.Items.{Item, Sent, Observe, Reset, Tick, grammar}
use Rattle.watch_lines.specs.declared.watch_event.WatchEvent.{WatchEvent}
use Rattle.watch_lines.specs.declared.watch_event.WatchEvent.TheVariants as event

-- the event is the one that the line's words name
abbrev pub IsNamed : PlantModel → Item → WatchEvent → Type 0
IsNamed m (Sent command) e = (k : ℕ) × (place_of m.commands command ≡ Some k) × (e ≡ event.Sent k)
IsNamed m (Observe pairs) e = (qs : List Pair) × (each_pair (value_pair m) pairs ≡ Some qs) × (e ≡ event.Observe qs)
IsNamed m Reset e = e ≡ event.Reset
IsNamed m Tick e = e ≡ event.Tick

module _ (m : PlantModel) (pending : List Pair) (sent : Bool) where
  -- the code applies to the item: the command isn't declared, or one is pending; to observations as in a script that mirrors nothing
  abbrev pub Applies : Item → ℕ → Type 0
  Applies (Sent command) code = ((code ≡ NAME_UNKNOWN) × (place_of m.commands command ≡ None)) ⊎ ((code ≡ REPEATED_PAIR) × (sent ≡ true))
  Applies (Observe pairs) code = AppliesInScript m pending 0 (scripts.Observe pairs) code
  Applies Reset code = ⊥
  Applies Tick code = ⊥

  -- the code applies, and none that is less
  abbrev pub IsLeastCode : Item → ℕ → Type 0
  IsLeastCode i code = IsLeast (Applies i) code

  -- the event is what the item says, and no code applies
  abbrev pub IsTaken : Item → WatchEvent → Type 0
  IsTaken i e = IsNamed m i e × ((code : ℕ) → Applies i code → ⊥)

  -- what the line says, or its least code
  abbrev pub IsWatchEventOf : List ℕ → Result (Option WatchEvent) ℕ → Type 0
  IsWatchEventOf line said = SaidByLine grammar (IsNamed m) Applies line said

  -- ---- what is read of some lexemes

  -- what an item says, or its code
  abbrev pub IsEventOfItem : Item → Result WatchEvent ℕ → Type 0
  IsEventOfItem i said = SaidByItem grammar (IsNamed m) Applies i said

  -- what an item of a script says: an observation, a reset or a tick as it says here, and any other form is malformed
  abbrev pub IsEventOfScript : scripts.Item → Result WatchEvent ℕ → Type 0
  IsEventOfScript (scripts.Observe pairs) r = IsEventOfItem (Observe pairs) r
  IsEventOfScript scripts.Reset r = r ≡ Ok event.Reset
  IsEventOfScript scripts.Tick r = r ≡ Ok event.Tick
  IsEventOfScript (scripts.Goal pairs) r = r ≡ Err MALFORMED
  IsEventOfScript scripts.Clear r = r ≡ Err MALFORMED
  IsEventOfScript (scripts.Fault pair) r = r ≡ Err MALFORMED
  IsEventOfScript (scripts.Mirror name) r = r ≡ Err MALFORMED

  -- what lexemes say, a first word among them
  abbrev pub IsEventOfWords : List Lexeme → Result WatchEvent ℕ → Type 0
  IsEventOfWords ls said = SaidByWords grammar (IsNamed m) Applies ls said

  -- the event of the tokens of a line, if it has any
  abbrev pub IsEventOfTokens : List Lexeme → Result (Option WatchEvent) ℕ → Type 0
  IsEventOfTokens ls said = SaidByTokens grammar (IsNamed m) Applies ls said

  -- the event may come: no other command is pending, and what is observed are values that may be seen
  abbrev pub FitsWatch : WatchEvent → Type 0
  FitsWatch (event.Sent command) = (command < length m.commands) × (sent ≡ false)
  FitsWatch (event.Observe pairs) = MayBeObserved m pending 0 pairs
  FitsWatch event.Reset = Unit {0}
  FitsWatch event.Tick = Unit {0}

-- a line says one thing, or has one code
abbrev pub WatchEventsAreOne : Type 0
WatchEventsAreOne =
    (m : PlantModel) (pending : List Pair) (sent : Bool) (line : List ℕ) (a b : Result (Option WatchEvent) ℕ) → IsWatchEventOf m pending sent line a → IsWatchEventOf m pending sent line b → a ≡ b

-- `sent` of a command that isn't declared has the code 2, also where a command is pending, and of a declared one 15, only where one is pending
abbrev pub SentCodes : Type 0
SentCodes =
    (m : PlantModel) (pending : List Pair) (sent : Bool) (command : List ℕ) (code : ℕ) → IsLeastCode m pending sent (Sent command) code
    → ((place_of m.commands command ≡ None) × (code ≡ 2)) ⊎ ((k : ℕ) × (place_of m.commands command ≡ Some k) × (code ≡ 15) × (sent ≡ true))
