use Rattle.std.proofs.Common.{◌≡◌, drop, map}
use Rattle.std.specs.List.{list_any}
use Rattle.model_syntax.specs.Codes.{is_long}
use Rattle.model_syntax.proofs.words.any_long.Given as goal

-- no word so far is too long
abbrev pub invariant-words : goal.invariant-words
invariant-words l = list_any is_long (map (λ w. w.now) (drop l.word-index l.words)) ≡ list_any is_long (map (λ w. w.now) l.words)
