use Rattle.std.proofs.Common.{◌≡◌, take, drop, map, false}
use Rattle.std.specs.List.{list_any}
use Rattle.model_syntax.specs.Codes.{is_long}
use Rattle.model_syntax.proofs.words.names_of.Given as goal

-- the words so far are read, and the others are short
abbrev pub invariant-words : goal.invariant-words
invariant-words l = record {
  read : l.names ≡ map (λ w. w.now) (take l.word-index l.words);
  short : list_any is_long (map (λ w. w.now) (drop l.word-index l.words)) ≡ false;
}
