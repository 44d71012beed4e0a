-- Worlds, and what an answer says of them.
use Rattle.std.specs.Prelude.{◌≡◌, ℕ, ◌<◌, Bool, true, List, length, slice_index, All, Contains}
use Rattle.cca_base.specs.Sets.{has}
use Rattle.cca_base.specs.declared.cube.Pair.{Pair}
use Rattle.clause_form.specs.declared.clause.Clause.{Clause}
use Rattle.clause_form.specs.Clauses.{meets}
use Rattle.clash_analysis.specs.Trails.{AllWithin}
use Rattle.clash_analysis.specs.Clashes.{NoneHas}
use Rattle.clash_analysis.specs.Laws.{Passes}
use Rattle.clash_analysis.specs.Learning.{HasPairs}
use Rattle.clash_analysis.specs.Subjects.{is_in}
use Rattle.world_search.specs.declared.words.WordClause.{WordClause}
use Rattle.world_search.specs.Choices.{AllMetBy, AreOf}
use Rattle.world_search.specs.declared.answer.Answer.{Answer}
use Rattle.world_search.specs.declared.answer.Answer.TheVariants.{Agrees, Clash}

-- a value of its own set for each subject, with which every clause is true
pub record IsSolution (clauses : List Clause) (base xs : List ℕ) : Type 0 where
  pub full : length xs ≡ length base
  pub within : (v : ℕ) → v < length base → has (slice_index base v) (slice_index xs v) ≡ true
  pub met : All (λ clause. meets xs clause ≡ true) clauses

-- each pair's subject has the pair's value
abbrev pub HasAll : List Pair → List ℕ → Type 0
HasAll pairs xs = (p : Pair) → Contains pairs p → slice_index xs p.item ≡ p.value

-- the world at hand has all pairs; or no world has those that are of the set's subjects
abbrev pub IsAnswer : List Clause → List ℕ → List ℕ → List Pair → Answer → Type 0
IsAnswer clauses base world pairs Agrees = IsSolution clauses base world × HasAll pairs world
IsAnswer clauses base world pairs (Clash set) = (xs : List ℕ) → IsSolution clauses base xs → HasPairs pairs (is_in set) xs → ⊥

-- the world at hand is of these sets, with all clauses of words true and all pairs; or no list that passes a test of which something holds, and which is within the sets, has the pairs of the set's subjects
abbrev pub IsAnswerOn : ((List ℕ → Bool) → Type 0) → List WordClause → List ℕ → List ℕ → List Pair → Answer → Type 0
IsAnswerOn holds clauses start world pairs Agrees = AreOf start world × AllMetBy world clauses × HasAll pairs world
IsAnswerOn holds clauses start world pairs (Clash set) = (want : List ℕ → Bool) → holds want → AllWithin (Passes want) start → NoneHas want pairs (is_in set)
