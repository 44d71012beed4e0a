-- A workspace once it has begun with what is seen.
use Rattle.std.proofs.Common.{◌≡◌, ℕ, Bool, List, subst}
use Rattle.std.specs.List.{AllZip}
use Rattle.clause_form.specs.declared.clause.Clause.{Clause}
use Rattle.clash_analysis.specs.Trails.{AllWithin}
use Rattle.clash_analysis.specs.Laws.{Passes}
use Rattle.world_search.specs.declared.words.WordClause.{WordClause}
use Rattle.world_search.specs.Settled.{AreWithinSets, NonePasses}
use Rattle.world_search.specs.Spaces.{IsBegun}
use Rattle.world_search.specs.Words.{AreMetIn, MeanSame}
use Rattle.world_search.specs.Worlds.{IsSolution}
use Rattle.world_search.proofs.WorldLaws.{is_world, met_in_worlds, no_world, test_world, worlds_within}

module _ (clauses : List Clause) (words : List WordClause) (same : AllZip (λ (c : Clause) w. MeanSame c.literals w) clauses words) (seen base start : List ℕ) (is : seen ≡ base) where
  pub stuck_space : ((want : List ℕ → Bool) → AreMetIn words want → AllWithin (Passes want) seen → NonePasses want) → (xs : List ℕ) → IsSolution clauses base xs → ⊥
  stuck_space none = subst (λ l. (xs : List ℕ) → IsSolution clauses l xs → ⊥) is
      (no_world clauses words same seen (none (is_world clauses seen) (met_in_worlds clauses words same seen) (worlds_within clauses seen)))

  pub begun_space : AreWithinSets start seen → ((want : List ℕ → Bool) → AreMetIn words want → AllWithin (Passes want) seen → AllWithin (Passes want) start) → IsBegun clauses base start
  begun_space within all = subst (λ l. IsBegun clauses l start) is (record {
    within = within;
    all = λ xs world. all (is_world clauses seen) (met_in_worlds clauses words same seen) (worlds_within clauses seen) xs (test_world clauses seen xs world);
  })
