-- The forms of event lines.
use Rattle.std.specs.Prelude.{◌<◌, length, ℕ, List, [], ◌∷◌, Option, None, codes, map, if◌then◌else◌}
use Rattle.std.specs.Option.{option_map}
use Rattle.text_base.specs.Chain.{◌>>=◌}
use Rattle.text_base.specs.Lexemes.{Lexeme, word, is_lexeme, name_word_at}
use Rattle.text_base.specs.Lists.{ended, AreNameWords}
use Rattle.text_base.specs.Pairs.{NamedPair, pair_at, pairs_at, pair_spelled, pair_list_spelled, ArePairWords, shown_pair}
use Rattle.script_reader.specs.declared.item.Item.{Item as ItemOfCode}
use Rattle.script_reader.specs.declared.item.Item.TheVariants as code

-- what a line says, by words in place of names
pub data Item : Type 0 where
  Goal : (pairs : List NamedPair) → Item
  Clear : Item
  Observe : (pairs : List NamedPair) → Item
  Fault : (pair : NamedPair) → Item
  Mirror : (name : List ℕ) → Item
  Reset : Item
  Tick : Item

-- pairs, where nothing follows
unfoldable pub only_pairs : List Lexeme → Option (List NamedPair)
only_pairs ls = pairs_at ls >>= λ pairs. ended pairs.0 pairs.1

-- behind the word goal or observe: pairs
abbrev pub pairs_item : (List NamedPair → Item) → List Lexeme → Option Item
pairs_item form ls = option_map form (only_pairs ls)

-- behind the word fault: a pair
unfoldable pub fault_at : List Lexeme → Option Item
fault_at ls = pair_at ls >>= λ pair. ended (Fault pair.0) pair.1

-- behind the word mirror: a name
unfoldable pub mirror_at : List Lexeme → Option Item
mirror_at ls = name_word_at ls >>= λ name. ended (Mirror name.0) name.1

-- what a line with these tokens says, if it has a form
abbrev pub item_of : List Lexeme → Option Item
item_of [] = None
item_of (l ∷ ls) =
    if is_lexeme (word (codes "goal")) l then pairs_item Goal ls
    else (if is_lexeme (word (codes "clear")) l then ended Clear ls
    else (if is_lexeme (word (codes "observe")) l then pairs_item Observe ls
    else (if is_lexeme (word (codes "fault")) l then fault_at ls
    else (if is_lexeme (word (codes "mirror")) l then mirror_at ls
    else (if is_lexeme (word (codes "reset")) l then ended Reset ls
    else (if is_lexeme (word (codes "tick")) l then ended Tick ls
    else None))))))

-- the grammar: how an item is spelled
abbrev pub spelling : Item → List Lexeme
spelling (Goal pairs) = word (codes "goal") ∷ pair_list_spelled pairs
spelling Clear = word (codes "clear") ∷ []
spelling (Observe pairs) = word (codes "observe") ∷ pair_list_spelled pairs
spelling (Fault pair) = word (codes "fault") ∷ pair_spelled pair
spelling (Mirror name) = word (codes "mirror") ∷ word name ∷ []
spelling Reset = word (codes "reset") ∷ []
spelling Tick = word (codes "tick") ∷ []

-- which items the grammar spells: no reserved word stands in place of a name, and no list is empty
abbrev pub IsSpelled : Item → Type 0
IsSpelled (Goal pairs) = (0 < length pairs) × ArePairWords pairs
IsSpelled Clear = Unit {0}
IsSpelled (Observe pairs) = (0 < length pairs) × ArePairWords pairs
IsSpelled (Fault pair) = ArePairWords (pair ∷ [])
IsSpelled (Mirror name) = AreNameWords (name ∷ [])
IsSpelled Reset = Unit {0}
IsSpelled Tick = Unit {0}

-- an item of the code, without where its words lie
abbrev pub shown_item : ItemOfCode → Item
shown_item (code.Goal pairs) = Goal (map shown_pair pairs.items)
shown_item code.Clear = Clear
shown_item (code.Observe pairs) = Observe (map shown_pair pairs.items)
shown_item (code.Fault pair) = Fault (shown_pair pair)
shown_item (code.Mirror name) = Mirror name.now
shown_item code.Reset = Reset
shown_item code.Tick = Tick
