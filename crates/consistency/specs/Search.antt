-- Solutions of clauses: the first of them, and the values that all of them have.
use Rattle.std.specs.Prelude.{◌≡◌, ◌≢◌, ◌⊎◌, ◌↔◌, ℕ, ◌+◌, ◌<◌, IsTrue, true, Contains, List, length, slice_index, Option, Some, None}
use Rattle.cca_base.specs.declared.cube.Pair.{Pair}
use Rattle.cca_base.specs.Cube.{IsRising}
use Rattle.cca_base.specs.Sets.{has}
use Rattle.clause_form.specs.declared.clause.Clause.{Clause}
use Rattle.clash_analysis.specs.declared.subjects.SubjectSet.{SubjectSet}
use Rattle.clash_analysis.specs.Subjects.{is_in}
use Rattle.world_search.specs.Worlds.{HasAll, IsSolution}

-- something is true of each world
abbrev pub EachWorld : List Clause → List ℕ → (List ℕ → Type 0) → Type 0
EachWorld clauses base P = (xs : List ℕ) → IsSolution clauses base xs → P xs

-- something is true of each world with the pairs
abbrev pub EachWorldWith : List Clause → List ℕ → List Pair → (List ℕ → Type 0) → Type 0
EachWorldWith clauses base pairs P = (xs : List ℕ) → IsSolution clauses base xs → HasAll pairs xs → P xs

-- at the first place where they differ the one is less
pub record IsLess (xs ys : List ℕ) : Type 0 where
  pub place : ℕ
  pub inside : place < length xs
  pub same : (d : ℕ) → d < place → slice_index xs d ≡ slice_index ys d
  pub less : slice_index xs place < slice_index ys place

-- the first of the solutions
pub record IsFirst (clauses : List Clause) (base xs : List ℕ) : Type 0 where
  pub solution : IsSolution clauses base xs
  pub first : (ys : List ℕ) → IsSolution clauses base ys → (xs ≡ ys) ⊎ IsLess xs ys

-- the first solution, or there is none
abbrev pub IsFirstOrNone : List Clause → List ℕ → Option (List ℕ) → Type 0
IsFirstOrNone clauses base None = (xs : List ℕ) → IsSolution clauses base xs → ⊥
IsFirstOrNone clauses base (Some xs) = IsFirst clauses base xs

-- every solution has the pair's value at the pair's subject, counted from the first one's number
abbrev pub AllHave : List Clause → List ℕ → ℕ → Pair → Type 0
AllHave clauses base first p = (xs : List ℕ) → IsSolution clauses base xs → slice_index xs (first + p.item) ≡ p.value

-- exactly the pairs of these subjects that all solutions have, rising
pub record IsBackbone (clauses : List Clause) (base : List ℕ) (first vars : ℕ) (pairs : List Pair) : Type 0 where
  pub rising : IsRising pairs
  pub each : (p : Pair) → Contains pairs p ↔ (IsTrue (has vars p.item) × (first + p.item < length base) × AllHave clauses base first p)

-- two solutions differ on the subject, so no value there is in all of them
abbrev pub IsVaried : List Clause → List ℕ → ℕ → Type 0
IsVaried clauses base d = (xs : List ℕ) × (ys : List ℕ) × IsSolution clauses base xs × IsSolution clauses base ys × (slice_index xs d ≢ slice_index ys d)

-- each of these subjects is such
abbrev pub AreVaried : List Clause → List ℕ → SubjectSet → Type 0
AreVaried clauses base subjects = (d : ℕ) → is_in subjects d ≡ true → IsVaried clauses base d
