-- Lines of a script, as the guide spells them.
use Rattle.std.specs.Prelude.{◌≡◌, ℕ, List, [], ◌∷◌, map, codes, Option, Some, None, Ok}
use Rattle.text_base.specs.Lexemes.{lexeme}
use Rattle.text_base.specs.Pairs.{NamedPair}
use Rattle.text_base.specs.Tokens.{Tok, tokens_of}
use Rattle.script_reader.specs.Items.{Item, Goal, Clear, Observe, Fault, Mirror, Reset, Tick, item_of}

-- a name with a value, by their words
abbrev pub named : List ℕ → List ℕ → NamedPair
named name value = record { name = name; value = value }

-- the line says this, or has no form
abbrev pub Says : List ℕ → Option Item → Type 0
Says line item = (ts : List Tok) × (tokens_of line ≡ Ok ts) × (item_of (map lexeme ts) ≡ item)

-- each form of an event line, and a word with one letter more
pub record EventsAreSpelt : Type 0 where
  pub goal : Says (codes "goal valve = open, drv = on") (Some (Goal (named (codes "valve") (codes "open") ∷ named (codes "drv") (codes "on") ∷ [])))
  pub clear : Says (codes "clear") (Some Clear)
  pub observe : Says (codes "observe flow = some") (Some (Observe (named (codes "flow") (codes "some") ∷ [])))
  pub fault : Says (codes "fault valve = stuck") (Some (Fault (named (codes "valve") (codes "stuck"))))
  pub mirror : Says (codes "mirror flow") (Some (Mirror (codes "flow")))
  pub reset : Says (codes "reset") (Some Reset)
  pub tick : Says (codes "tick") (Some Tick)
  pub comment : Says (codes "tick # and so on") (Some Tick)
  pub another : Says (codes "ticks") None
  pub one_more : Says (codes "tick tick") None
