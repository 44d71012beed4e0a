use Rattle.std.proofs.Common.{◌≡◌, ℕ, List, take}
use Rattle.clause_form.specs.Clauses.{is_met}
use Rattle.world_search.specs.Words.{AreInside, met}
use Rattle.world_search.proofs.words.words_of.Given as goal

abbrev pub invariant-loop-literal : goal.invariant-loop-literal
invariant-loop-literal l = record {
  inside : AreInside l.subjects l.words.items;
  same : (xs : List ℕ) → met xs l.words.items ≡ is_met xs (take l.literal-index l.literals);
}
