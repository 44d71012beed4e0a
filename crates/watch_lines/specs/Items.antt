-- The forms of lines that follow a plant which somebody else commands.
use Rattle.std.specs.Prelude.{◌<◌, ℕ, List, [], ◌∷◌, length, codes, Option}
use Rattle.text_base.specs.Chain.{◌>>=◌}
use Rattle.text_base.specs.Lexemes.{Lexeme, word, name_word_at}
use Rattle.text_base.specs.Lists.{ended, AreNameWords}
use Rattle.script_reader.specs.SaidLines.{Grammar}
use Rattle.text_base.specs.Pairs.{NamedPair, pair_list_spelled, ArePairWords}

-- what a line says, by words in place of names
pub data Item : Type 0 where
  Sent : (command : List ℕ) → Item
  Observe : (pairs : List NamedPair) → Item
  Reset : Item
  Tick : Item

-- the grammar: how an item is spelled
abbrev pub line_spelled : Item → List Lexeme
line_spelled (Sent command) = word (codes "sent") ∷ word command ∷ []
line_spelled (Observe pairs) = word (codes "observe") ∷ pair_list_spelled pairs
line_spelled Reset = word (codes "reset") ∷ []
line_spelled Tick = word (codes "tick") ∷ []

-- which items the grammar spells: no reserved word stands in place of a name, and no list is empty
abbrev pub IsSpelled : Item → Type 0
IsSpelled (Sent command) = AreNameWords (command ∷ [])
IsSpelled (Observe pairs) = (0 < length pairs) × ArePairWords pairs
IsSpelled Reset = Unit {0}
IsSpelled Tick = Unit {0}

-- the grammar of lines
abbrev pub grammar : Grammar Item
grammar = record { spelled = line_spelled; IsSpelled = IsSpelled }

-- ---- words, read from left to right

-- a name, where nothing follows
unfoldable pub only_name : List Lexeme → Option (List ℕ)
only_name ls = name_word_at ls >>= λ name. ended name.0 name.1
