use Rattle.std.proofs.Common.{take}
use Rattle.std.specs.Prelude.{All}
use Rattle.std.specs.List.{AllZip}
use Rattle.clause_form.specs.declared.clause.Clause.{Clause}
use Rattle.world_search.specs.Words.{IsClauseInside, MeanSame}
use Rattle.world_search.proofs.words.word_clauses.Given as goal

abbrev pub invariant-loop-clause : goal.invariant-loop-clause
invariant-loop-clause l = record {
  inside : All (IsClauseInside l.subjects) l.all.items;
  same : AllZip (λ (c : Clause) w. MeanSame c.literals w) (take l.clause-index l.clauses) l.all.items;
}
