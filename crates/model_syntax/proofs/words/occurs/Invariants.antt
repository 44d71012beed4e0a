use Rattle.std.proofs.Common.{◌≡◌, drop, map}
use Rattle.std.specs.List.{list_any}
use Rattle.std.specs.Str.{bytes_eq}
use Rattle.model_syntax.proofs.words.occurs.Given as goal

-- no word so far is the text
abbrev pub invariant-words : goal.invariant-words
invariant-words l = list_any (bytes_eq l.text) (map (λ w. w.now) (drop l.word-index l.words)) ≡ list_any (bytes_eq l.text) (map (λ w. w.now) l.words)
