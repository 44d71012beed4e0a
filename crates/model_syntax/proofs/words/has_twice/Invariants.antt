use Rattle.std.proofs.Common.{◌≡◌, drop, map}
use Rattle.formula_syntax.specs.Meanings.{has_twice}
use Rattle.model_syntax.proofs.words.has_twice.Given as goal

-- no word so far stands twice
abbrev pub invariant-words : goal.invariant-words
invariant-words l = has_twice (map (λ w. w.now) (drop l.i l.words)) ≡ has_twice (map (λ w. w.now) l.words)
