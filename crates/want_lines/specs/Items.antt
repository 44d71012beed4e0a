-- The forms of lines that ask for target states.
use Rattle.std.specs.Prelude.{◌<◌, ◌^◌, ℕ, List, [], ◌∷◌, ◌++◌, length, codes}
use Rattle.std.specs.Fmt.{decimal}
use Rattle.text_base.specs.Lexemes.{Lexeme, word, number}
use Rattle.text_base.specs.Pairs.{NamedPair, pair_spelled, pair_list_spelled, ArePairWords}
use Rattle.formula_syntax.specs.Grammar.{Whole, spelling}
use Rattle.script_reader.specs.SaidLines.{Grammar}

-- what a line says, by words in place of names
pub data Item : Type 0 where
  Weight : (pair : NamedPair) → (weight : ℕ) → Item
  At : (pairs : List NamedPair) → Item
  Want : (formula : Whole) → Item

-- the grammar: how an item is spelled
abbrev pub line_spelled : Item → List Lexeme
line_spelled (Weight pair weight) = word (codes "weight") ∷ pair_spelled pair ++ word (codes "cost") ∷ number (decimal weight) ∷ []
line_spelled (At pairs) = word (codes "at") ∷ pair_list_spelled pairs
line_spelled (Want formula) = word (codes "want") ∷ spelling formula

-- which items the grammar spells: no reserved word stands in place of a name, no list is empty, and no number passes 128 bits
abbrev pub IsSpelled : Item → Type 0
IsSpelled (Weight pair weight) = ArePairWords (pair ∷ []) × (weight < 2 ^ 128)
IsSpelled (At pairs) = (0 < length pairs) × ArePairWords pairs
IsSpelled (Want formula) = Unit {0}

-- the grammar of lines
abbrev pub grammar : Grammar Item
grammar = record { spelled = line_spelled; IsSpelled = IsSpelled }
