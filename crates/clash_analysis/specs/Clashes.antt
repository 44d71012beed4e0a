-- What is known while a clash is looked at.
use Rattle.std.specs.Prelude.{◌≡◌, ℕ, ◌<◌, Bool, List, length, All}
use Rattle.cca_base.specs.declared.cube.Pair.{Pair}
use Rattle.clash_analysis.specs.declared.entry.Entry.{Entry}
use Rattle.clash_analysis.specs.declared.entry.Why.{Why}
use Rattle.clash_analysis.specs.declared.entry.Why.TheVariants.{Assumed, Chosen, Because}
use Rattle.clash_analysis.specs.Trails.{AllWithin, AreApart, IsTrail}
use Rattle.clash_analysis.specs.Learning.{IsLearned, WithPairs}
use Rattle.clash_analysis.specs.Laws.{Passes}

-- the learned sets have a value of each world that has the blamed pairs, and none of what is left
pub record IsClash (want : List ℕ → Bool) (pairs : List Pair) (start : List ℕ) (trail : List Entry) (dom : List ℕ) (blamed : ℕ → Bool) (learn : List ℕ) : Type 0 where
  pub within : AllWithin (Passes want) start
  pub right : IsTrail (Passes want) pairs start trail dom
  pub long : length learn ≡ length start
  pub learned : IsLearned (WithPairs (Passes want) pairs blamed) learn
  pub apart : AreApart dom learn

-- it is no choice
abbrev pub IsNoChoice : Why → Type 0
IsNoChoice Assumed = Unit {0}
IsNoChoice Chosen = ⊥
IsNoChoice (Because set) = Unit {0}

-- no choice is among the entries
abbrev pub AreNoChoices : List Entry → Type 0
AreNoChoices trail = All (λ e. IsNoChoice e.why) trail

-- the entries are of subjects that there are
abbrev pub AreInside : ℕ → List Entry → Type 0
AreInside n trail = All (λ e. e.subject < n) trail

-- no world has the pairs that are of these subjects
abbrev pub NoneHas : (List ℕ → Bool) → List Pair → (ℕ → Bool) → Type 0
NoneHas want pairs blamed = (xs : List ℕ) → WithPairs (Passes want) pairs blamed xs → ⊥
