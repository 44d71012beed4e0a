-- What always holds of clauses that are made ready, and of a workspace for them.
use Rattle.std.specs.Prelude.{◌≡◌, ℕ, ◌-◌, ◌<◌, ◌≤◌, true, false, List, length, slice_index, sum_by, take, All}
use Rattle.std.specs.List.{AllZip}
use Rattle.cca_base.specs.Sets.{has}
use Rattle.clash_analysis.specs.declared.subjects.TheConstants.{SET_SUBJECTS}
use Rattle.clause_form.specs.declared.clause.Clause.{Clause}
use Rattle.clause_form.specs.declared.clause.Clauses.{Clauses}
use Rattle.clause_form.specs.Clauses.{AreClauses}
use Rattle.world_search.specs.declared.rules.Rules.{Rules}
use Rattle.world_search.specs.declared.space.Space.{Space}
use Rattle.world_search.specs.Mended.{HasRoom}
use Rattle.world_search.specs.Settled.{AreWithinSets}
use Rattle.world_search.specs.declared.store.Store.{Store}
use Rattle.world_search.specs.declared.words.WordClause.{WordClause}
use Rattle.world_search.specs.Stores.{IsStore, clause_of}
use Rattle.world_search.specs.Words.{IsClauseInside, MeanSame, met}
use Rattle.world_search.specs.Works.{IsRoomy, IsShaped}
use Rattle.world_search.specs.Worlds.{IsSolution}

-- each subject may be one of its values
abbrev pub AreInSizes : List ℕ → List ℕ → Type 0
AreInSizes sizes sets = (v a : ℕ) → has (slice_index sets v) a ≡ true → a < slice_index sizes v

-- the clauses of words mean the clauses, which speak of no other subjects
pub record AreWords (clauses : Clauses) (words : List WordClause) : Type 0 where
  pub below : AreClauses clauses
  pub inside : All (IsClauseInside (length clauses.sizes)) words
  pub same : AllZip (λ c w. MeanSame c.literals w) clauses.clauses words

-- so do those of the rules, and a set can hold all subjects
pub record IsBuilt (clauses : Clauses) (rules : Rules) : Type 0 where
  pub few : length clauses.sizes ≤ SET_SUBJECTS
  pub words : AreWords clauses rules.clauses.items

-- what is left of the sets is among them, and the values of each world are of what is left
pub record IsBegun (clauses : List Clause) (base start : List ℕ) : Type 0 where
  pub within : AreWithinSets start base
  pub all : (xs : List ℕ) → IsSolution clauses base xs → (v : ℕ) → v < length start → has (slice_index start v) (slice_index xs v) ≡ true

-- what each subject may be
abbrev pub base_in : Space → List ℕ
base_in s = s.base.items

-- the values at hand
abbrev pub world_in : Space → List ℕ
world_in s = s.world.items

-- there are buffers for so many subjects
pub record AreBuffers (n : ℕ) (s : Space) : Type 0 where
  pub shape : IsShaped s.work
  pub subjects : length s.work.start.items ≡ n
  pub base : length s.base.items ≡ n
  pub world : length s.world.items ≡ n
  pub trial : length s.trial.items ≡ n
  pub mending : HasRoom n s.mending
  pub store : IsStore n s.store

-- what was learned, and what was begun with, is the same
pub record KeepsSearch (old new : Space) : Type 0 where
  pub work : new.work ≡ old.work
  pub store : new.store ≡ old.store
  pub base : new.base.items ≡ old.base.items
  pub stuck : new.stuck ≡ old.stuck

-- each clause that is kept is true in each world
abbrev pub AreLearned : List Clause → List ℕ → Store → Type 0
AreLearned clauses base store = (xs : List ℕ) → IsSolution clauses base xs → All (λ s. met xs (clause_of s) ≡ true) (take store.kept store.slots.items)

-- there are buffers for the subjects of the clauses, and it is known what these leave of the sets, or that there is no world
pub record IsSpace (clauses : Clauses) (s : Space) : Type 0 where
  pub buffers : AreBuffers (length clauses.sizes) s
  pub room : length s.work.trail.items ≡ sum_by (λ n. n - 1) clauses.sizes
  pub sizes : AreInSizes clauses.sizes s.base.items
  pub learned : AreLearned clauses.clauses s.base.items s.store
  pub stuck : s.stuck ≡ true → (xs : List ℕ) → IsSolution clauses.clauses s.base.items xs → ⊥
  pub roomy : s.stuck ≡ false → IsRoomy s.work
  pub begun : s.stuck ≡ false → IsBegun clauses.clauses s.base.items s.work.start.items
