-- The words of a line that sets a weight, read from left to right.
use Rattle.std.specs.Prelude.{ℕ, List, Option, codes}
use Rattle.text_base.specs.Chain.{◌>>=◌}
use Rattle.text_base.specs.Lexemes.{Lexeme, word, next_is}
use Rattle.text_base.specs.Lists.{ended}
use Rattle.text_base.specs.Pairs.{NamedPair, pair_at}
use Rattle.model_syntax.specs.Items.{number_at}

-- behind the word weight: a pair, and the digits of its weight, where nothing follows
unfoldable pub weight_at : List Lexeme → Option (NamedPair × List ℕ)
weight_at ls = do
  pair ← pair_at ls
  r ← next_is (word (codes "cost")) pair.1
  digits ← number_at r
  ended (pair.0, digits.0) digits.1
