-- The forms of model lines.
use Rattle.std.specs.Prelude.{◌<◌, length, ℕ, Bool, true, false, List, [], ◌∷◌, ◌++◌, Option, Some, None, codes, map, if◌then◌else◌}
use Rattle.text_base.specs.declared.token.Kind.TheVariants.{Number}
use Rattle.text_base.specs.Lexemes.{Lexeme, lexeme_of, same_kind, word, number, symbol, is_lexeme, next_is, name_word_at}
use Rattle.text_base.specs.Lists.{ended, names_at, name_list_spelled, AreNameWords}
use Rattle.model_syntax.specs.declared.item.Ends.{Ends as EndsOfCode}
use Rattle.model_syntax.specs.declared.item.Item.{Item as ItemOfCode}
use Rattle.model_syntax.specs.declared.item.Item.TheVariants as code
use Rattle.text_base.specs.Chain.{◌>>=◌}
use Rattle.formula_syntax.specs.Lookups.{or_else}

-- a component and two of its modes, by their words
pub record Ends : Type 0 where
  pub name : List ℕ
  pub source : List ℕ
  pub target : List ℕ

-- what a line says, by words in place of names
pub data Item : Type 0 where
  Header : (second : Bool) → Item
  Component : (name : List ℕ) → (modes : List (List ℕ)) → (start : List ℕ) → Item
  Variable : (name : List ℕ) → (values : List (List ℕ)) → (sensed : Bool) → Item
  Rule : (formula : List Lexeme) → Item
  Move : (repair : Bool) → (ends : Ends) → (command : List ℕ) → (guard : List Lexeme) → Item
  Failure : (ends : Ends) → (cost : List ℕ) → Item
  Script : Item

-- the digits of a number, and what stands behind them
abbrev pub number_at : List Lexeme → Option (List ℕ × List Lexeme)
number_at [] = None
number_at (l ∷ ls) = if same_kind l.0 Number then Some (l.1, ls) else None

-- a component, a mode, an arrow and a mode, and what stands behind them
unfoldable pub ends_at : List Lexeme → Option (Ends × List Lexeme)
ends_at ls = do
  name ← name_word_at ls
  source ← name_word_at name.1
  r ← next_is (symbol (codes "->")) source.1
  target ← name_word_at r
  Some (record { name = name.0; source = source.0; target = target.0 }, target.1)

-- this number of a version, and nothing behind it
abbrev pub header_of : Bool → List ℕ → List Lexeme → Option Item
header_of second digits ls = do
  r ← next_is (number digits) ls
  ended (Header second) r

-- behind the word titan: the number 1 or 2
unfoldable pub header_at : List Lexeme → Option Item
header_at ls = or_else (header_of false (codes "1") ls) (header_of true (codes "2") ls)

-- a name, an equals sign and a list of names, and what stands behind
unfoldable pub named_list_at : List Lexeme → Option (List ℕ × List (List ℕ) × List Lexeme)
named_list_at ls = do
  name ← name_word_at ls
  r ← next_is (symbol (codes "=")) name.1
  names ← names_at r
  Some (name.0, names.0, names.1)

-- behind the word component: a name with its modes, and the start mode
unfoldable pub component_at : List Lexeme → Option Item
component_at ls = do
  list ← named_list_at ls
  r ← next_is (word (codes "start")) list.2
  start ← name_word_at r
  ended (Component list.0 list.1 start.0) start.1

-- behind the values of a variable: nothing, or the word sensed
abbrev pub sensed_at : List ℕ → List (List ℕ) → List Lexeme → Option Item
sensed_at name values [] = Some (Variable name values false)
sensed_at name values (l ∷ ls) = if is_lexeme (word (codes "sensed")) l then ended (Variable name values true) ls else None

-- behind the word var: a name and its values
unfoldable pub variable_at : List Lexeme → Option Item
variable_at ls = do
  list ← named_list_at ls
  sensed_at list.0 list.1 list.2

-- behind the word move or repair: a component, its modes, a command, and all that stands behind when
unfoldable pub move_at : Bool → List Lexeme → Option Item
move_at repair ls = do
  ends ← ends_at ls
  r ← next_is (word (codes "by")) ends.1
  command ← name_word_at r
  guard ← next_is (word (codes "when")) command.1
  Some (Move repair ends.0 command.0 guard)

-- behind the word fail: a component, its modes, and a cost
unfoldable pub failure_at : List Lexeme → Option Item
failure_at ls = do
  ends ← ends_at ls
  r ← next_is (word (codes "cost")) ends.1
  cost ← number_at r
  ended (Failure ends.0 cost.0) cost.1

-- what a line with these tokens says, if it has a form
abbrev pub item_of : List Lexeme → Option Item
item_of [] = None
item_of (l ∷ ls) =
    if is_lexeme (word (codes "titan")) l then header_at ls
    else (if is_lexeme (word (codes "component")) l then component_at ls
    else (if is_lexeme (word (codes "var")) l then variable_at ls
    else (if is_lexeme (word (codes "rule")) l then Some (Rule ls)
    else (if is_lexeme (word (codes "move")) l then move_at false ls
    else (if is_lexeme (word (codes "repair")) l then move_at true ls
    else (if is_lexeme (word (codes "fail")) l then failure_at ls
    else (if is_lexeme (word (codes "script")) l then ended Script ls
    else None)))))))

-- a component, a mode, an arrow and a mode, before the rest
abbrev pub ends_spelled : Ends → List Lexeme → List Lexeme
ends_spelled e rest = word e.name ∷ word e.source ∷ symbol (codes "->") ∷ word e.target ∷ rest

-- the word sensed, or nothing
abbrev pub sensed_spelled : Bool → List Lexeme
sensed_spelled true = word (codes "sensed") ∷ []
sensed_spelled false = []

-- the first word of a move
abbrev pub move_word : Bool → List ℕ
move_word true = codes "repair"
move_word false = codes "move"

-- the grammar: how an item is spelled
abbrev pub line_spelled : Item → List Lexeme
line_spelled (Header false) = word (codes "titan") ∷ number (codes "1") ∷ []
line_spelled (Header true) = word (codes "titan") ∷ number (codes "2") ∷ []
line_spelled (Component name modes start) = word (codes "component") ∷ word name ∷ symbol (codes "=") ∷ name_list_spelled modes ++ word (codes "start") ∷ word start ∷ []
line_spelled (Variable name values sensed) = word (codes "var") ∷ word name ∷ symbol (codes "=") ∷ name_list_spelled values ++ sensed_spelled sensed
line_spelled (Rule formula) = word (codes "rule") ∷ formula
line_spelled (Move repair ends command guard) = word (move_word repair) ∷ ends_spelled ends (word (codes "by") ∷ word command ∷ word (codes "when") ∷ guard)
line_spelled (Failure ends cost) = word (codes "fail") ∷ ends_spelled ends (word (codes "cost") ∷ number cost ∷ [])
line_spelled Script = word (codes "script") ∷ []

-- which items the grammar spells: no reserved word stands in place of a name, and no list is empty
abbrev pub IsSpelled : Item → Type 0
IsSpelled (Header second) = Unit {0}
IsSpelled (Component name modes start) = (0 < length modes) × AreNameWords (name ∷ start ∷ []) × AreNameWords modes
IsSpelled (Variable name values sensed) = (0 < length values) × AreNameWords (name ∷ []) × AreNameWords values
IsSpelled (Rule formula) = Unit {0}
IsSpelled (Move repair ends command guard) = AreNameWords (ends.name ∷ ends.source ∷ ends.target ∷ command ∷ [])
IsSpelled (Failure ends cost) = AreNameWords (ends.name ∷ ends.source ∷ ends.target ∷ [])
IsSpelled Script = Unit {0}

-- the ends of a move of the code, without where their words lie
abbrev pub shown_ends : EndsOfCode → Ends
shown_ends e = record { name = e.name.now; source = e.source.now; target = e.target.now }

-- an item of the code, without where its words lie
abbrev pub shown_item : ItemOfCode → Item
shown_item (code.Header second) = Header second
shown_item (code.Component name modes start) = Component name.now (map (λ w. w.now) modes.items) start.now
shown_item (code.Variable name values sensed) = Variable name.now (map (λ w. w.now) values.items) sensed
shown_item (code.Rule formula) = Rule (map lexeme_of formula.now)
shown_item (code.Move repair ends command guard) = Move repair (shown_ends ends) command.now (map lexeme_of guard.now)
shown_item (code.Failure ends cost) = Failure (shown_ends ends) cost.now
shown_item code.Script = Script
