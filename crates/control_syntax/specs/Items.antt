-- The forms of the lines of a control program.
use Rattle.std.specs.Prelude.{◌<◌, ◌^◌, ℕ, List, [], ◌∷◌, length, codes}
use Rattle.std.specs.Fmt.{decimal}
use Rattle.text_base.specs.Lexemes.{Lexeme, word, number}
use Rattle.text_base.specs.Pairs.{NamedPair, pair_list_spelled, ArePairWords}
use Rattle.formula_syntax.specs.Grammar.{Whole, spelling}
use Rattle.script_reader.specs.SaidLines.{Grammar}

-- what a line says, by words in place of names
pub data Item : Type 0 where
  Program : Item
  Reach : (pairs : List NamedPair) → Item
  Await : (formula : Whole) → Item
  Seq : Item
  Both : Item
  Choose : (formula : Whole) → Item
  Otherwise : Item
  Repeat : (rounds : ℕ) → Item
  Done : Item
  End : Item

-- the word with which an item begins
abbrev pub first_word : Item → Lexeme
first_word Program = word (codes "program")
first_word (Reach pairs) = word (codes "reach")
first_word (Await formula) = word (codes "await")
first_word Seq = word (codes "seq")
first_word Both = word (codes "both")
first_word (Choose formula) = word (codes "choose")
first_word Otherwise = word (codes "otherwise")
first_word (Repeat rounds) = word (codes "repeat")
first_word Done = word (codes "done")
first_word End = word (codes "end")

-- what stands behind the first word of an item
abbrev pub behind : Item → List Lexeme
behind (Reach pairs) = pair_list_spelled pairs
behind (Await formula) = spelling formula
behind (Choose formula) = spelling formula
behind (Repeat rounds) = number (decimal rounds) ∷ []
behind Program = []
behind Seq = []
behind Both = []
behind Otherwise = []
behind Done = []
behind End = []

-- which items the grammar spells: no list is empty, no reserved word stands in place of a name, and no number passes 128 bits
abbrev pub IsSpelled : Item → Type 0
IsSpelled (Reach pairs) = (0 < length pairs) × ArePairWords pairs
IsSpelled (Repeat rounds) = rounds < 2 ^ 128
IsSpelled (Await formula) = Unit {0}
IsSpelled (Choose formula) = Unit {0}
IsSpelled Program = Unit {0}
IsSpelled Seq = Unit {0}
IsSpelled Both = Unit {0}
IsSpelled Otherwise = Unit {0}
IsSpelled Done = Unit {0}
IsSpelled End = Unit {0}

-- the grammar of the lines of a program
abbrev pub grammar : Grammar Item
grammar = record { spelled = λ i. first_word i ∷ behind i; IsSpelled = IsSpelled }
