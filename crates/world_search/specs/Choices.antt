-- What comes of a step of a search.
use Rattle.std.specs.Prelude.{◌≡◌, ◌≢◌, ℕ, ◌<◌, ◌≤◌, Bool, true, List, length, slice_index, All}
use Rattle.cca_base.specs.Sets.{has}
use Rattle.cca_base.specs.declared.cube.Pair.{Pair}
use Rattle.cca_base.specs.declared.limits.TheConstants.{MAX_CHOICES}
use Rattle.clash_analysis.specs.Trails.{AllWithin, AreApart, is_within}
use Rattle.clash_analysis.specs.Learning.{IsLearned}
use Rattle.clash_analysis.specs.Laws.{Passes}
use Rattle.world_search.specs.declared.choose.Step.{Step}
use Rattle.world_search.specs.declared.choose.Step.TheVariants.{Found, Tried, Clash}
use Rattle.world_search.specs.declared.words.WordClause.{WordClause}
use Rattle.world_search.specs.declared.work.Work.{Work}
use Rattle.world_search.specs.Words.{met}
use Rattle.world_search.specs.Works.{IsClear, IsReady, IsRight, KeepsBelow, weight_of}

-- the values are of the sets, one for each subject
abbrev pub AreOf : List ℕ → List ℕ → Type 0
AreOf sets xs = (v : ℕ) → v < length sets → is_within sets xs v ≡ true

-- each clause is true
abbrev pub AllMetBy : List ℕ → List WordClause → Type 0
AllMetBy xs clauses = All (λ c. met xs c.literals.items ≡ true) clauses

-- the pair's value is left of its subject, and another one
pub record IsOpen (dom : List ℕ) (p : Pair) : Type 0 where
  pub subject : p.item < length dom
  pub small : p.value < MAX_CHOICES
  pub left : has (slice_index dom p.item) p.value ≡ true
  pub other : (a : ℕ) × (a ≢ p.value) × (has (slice_index dom p.item) a ≡ true)

-- the trail stays right for the tests of which something holds, with what stands below all levels, and weighs no more
pub record IsStep (holds : (List ℕ → Bool) → Type 0) (old new : Work) : Type 0 where
  pub ready : IsReady new
  pub start : new.start.items ≡ old.start.items
  pub room : length new.trail.items ≡ length old.trail.items
  pub below : KeepsBelow old new
  pub weight : weight_of new ≤ weight_of old
  pub right : (want : List ℕ → Bool) (pairs : List Pair) → holds want → IsRight want pairs old → IsRight want pairs new

-- the clause that is learned is a clash
abbrev pub IsFoundFalse : ((List ℕ → Bool) → Type 0) → Work → Type 0
IsFoundFalse holds w = (want : List ℕ → Bool) → holds want → AllWithin (Passes want) w.start.items → IsLearned (Passes want) w.learn.items × AreApart w.dom.items w.learn.items

-- the trial is of what is left, with all clauses true; or a value is tried; or a clause is found false
abbrev pub IsOutcome : ((List ℕ → Bool) → Type 0) → List WordClause → Work → Work → List ℕ → Step → Type 0
IsOutcome holds clauses old new trial Found = AreOf new.dom.items trial × AllMetBy trial clauses
IsOutcome holds clauses old new trial Tried = IsClear new × (weight_of new < weight_of old)
IsOutcome holds clauses old new trial Clash = IsFoundFalse holds new
