-- Pairs of a name and a value, and lists of them.
use Rattle.std.specs.Prelude.{ℕ, List, [], ◌∷◌, Option, Some, codes}
use Rattle.std.specs.List.{AllByRecursion}
use Rattle.text_base.specs.declared.pairs.NamedPair.{NamedPair as NamedPairOfCode}
use Rattle.text_base.specs.Chain.{◌>>=◌}
use Rattle.text_base.specs.Lexemes.{Lexeme, word, symbol, next_is, name_word_at}
use Rattle.text_base.specs.Lists.{list_at, parts_spelled, list_spelled, AreNameWords}

-- a name and a value, by their words
pub record NamedPair : Type 0 where
  pub name : List ℕ
  pub value : List ℕ

-- a pair of a name and a value, and what stands behind it
unfoldable pub pair_at : List Lexeme → Option (NamedPair × List Lexeme)
pair_at ls = do
  name ← name_word_at ls
  r ← next_is (symbol (codes "=")) name.1
  value ← name_word_at r
  Some (record { name = name.0; value = value.0 }, value.1)

-- one or more pairs with commas between them, and what stands behind
abbrev pub pairs_at : List Lexeme → Option (List NamedPair × List Lexeme)
pairs_at ls = list_at pair_at ls

-- a name, an equals sign, and a value
abbrev pub pair_spelled : NamedPair → List Lexeme
pair_spelled p = word p.name ∷ symbol (codes "=") ∷ word p.value ∷ []

-- pairs with commas between them
abbrev pub pairs_spelled : NamedPair → List NamedPair → List Lexeme
pairs_spelled p ps = parts_spelled pair_spelled p ps

-- a list of pairs
abbrev pub pair_list_spelled : List NamedPair → List Lexeme
pair_list_spelled ps = list_spelled pair_spelled ps

-- a pair of words, each of which may stand in place of a name
abbrev pub IsPairOfWords : NamedPair → Type 0
IsPairOfWords p = AreNameWords (p.name ∷ p.value ∷ [])

-- some pairs of words, each of which may stand in place of a name
abbrev pub ArePairWords : List NamedPair → Type 0
ArePairWords ps = AllByRecursion IsPairOfWords ps

-- a pair of the code, without where its words lie
abbrev pub shown_pair : NamedPairOfCode → NamedPair
shown_pair p = record { name = p.name.now; value = p.value.now }
