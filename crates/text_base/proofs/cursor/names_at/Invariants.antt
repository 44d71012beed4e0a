use Rattle.std.proofs.Common.{◌-◌, length, map}
use Rattle.text_base.specs.Lexemes.{name_word_at}
use Rattle.text_base.proofs.ListsRead.{IsReadingList}
use Rattle.text_base.proofs.cursor.names_at.Given as goal

abbrev pub invariant-names : goal.invariant-names
invariant-names l = IsReadingList name_word_at l.tokens (map (λ n. n.now) l.names.items) l.at

abbrev pub decreases-names : goal.decreases-names
decreases-names l = length l.tokens - l.at
