-- Subjects projected away.
use Rattle.std.specs.Prelude.{◌≡◌, ◌==◌, ◌<◌, ◌≤◌, ◌⊎◌, ℕ, Bool, false, IsTrue, ◌↔◌, ◌++◌, List, All, length, take, drop, slice_index, slice_set}
use Rattle.std.specs.List.{list_any}
use Rattle.cca_base.specs.Flags.{IsSet, is_set}
use Rattle.clause_form.specs.declared.clause.Clause.{Clause}
use Rattle.clause_form.specs.declared.clause.Clauses.{Clauses}
use Rattle.clause_form.specs.Clauses.{AllBelow, AllOthers, AreValues, all_met, any_below}

-- with some values of the subjects from keep on, all clauses are true
abbrev pub CanBeMet : Clauses → ℕ → List ℕ → Type 0
CanBeMet all keep xs = (ys : List ℕ) × AreValues (drop keep all.sizes) ys × IsTrue (all_met (xs ++ ys) all.clauses)

-- true of values of the subjects below keep exactly where some values of the others make all of the first clauses true
abbrev pub IsProjection : Clauses → ℕ → Clauses → Type 0
IsProjection all keep kept = (xs : List ℕ) → AreValues (take keep all.sizes) xs → IsTrue (all_met xs kept.clauses) ↔ CanBeMet all keep xs

-- true exactly where some value of the subject makes all of the first clauses true
abbrev pub IsWithout : Clauses → ℕ → Clauses → Type 0
IsWithout all x rest = (xs : List ℕ) → AreValues all.sizes xs
    → IsTrue (all_met xs rest.clauses) ↔ ((v : ℕ) × (v < slice_index all.sizes x) × IsTrue (all_met (slice_set xs x v) all.clauses))

-- true exactly where some value of the subject makes all of the old clauses true, and naming neither this subject nor one that these don't name
pub record AreResolvents (sizes : List ℕ) (x : ℕ) (old new : List Clause) : Type 0 where
  pub met : (xs : List ℕ) → AreValues sizes xs → all_met xs new ≡ any_below (slice_index sizes x) (λ v. all_met (slice_set xs x v) old)
  pub below : AllBelow (length sizes) new
  pub gone : AllOthers x new
  pub names : (y : ℕ) → AllOthers y old → AllOthers y new

-- a subject from keep on that isn't marked
pub record IsLeft (sizes : List ℕ) (keep : ℕ) (marks : List Bool) (x : ℕ) : Type 0 where
  pub above : keep ≤ x
  pub below : x < length sizes
  pub unmarked : is_set marks x ≡ false

-- a subject below keep, or a marked one
abbrev pub IsDone : ℕ → List Bool → ℕ → Type 0
IsDone keep marks x = (x < keep) ⊎ IsSet marks x

-- each subject that a clause names is below keep or marked
abbrev pub AreAllDone : ℕ → List Bool → List Clause → Type 0
AreAllDone keep marks clauses = All (λ clause. All (λ literal. IsDone keep marks literal.subject) clause.literals) clauses

-- the second values are the first but at marked subjects
abbrev pub DifferAtMarks : List Bool → List ℕ → List ℕ → Type 0
DifferAtMarks marks xs ys = (x : ℕ) → is_set marks x ≡ false → slice_index ys x ≡ slice_index xs x

-- the new clauses are true exactly where other values of the marked subjects make all of the old ones true
abbrev pub IsProjectedSoFar : List ℕ → List Bool → List Clause → List Clause → Type 0
IsProjectedSoFar sizes marks old new = (xs : List ℕ) → AreValues sizes xs
    → IsTrue (all_met xs new) ↔ ((ys : List ℕ) × AreValues sizes ys × DifferAtMarks marks xs ys × IsTrue (all_met ys old))

-- the new clauses are over the subjects below keep, and true exactly where other values of some of those from keep on make all of the old ones true
pub record AreProjected (sizes : List ℕ) (keep : ℕ) (old new : List Clause) : Type 0 where
  pub marks : List Bool
  pub above : (x : ℕ) → IsSet marks x → keep ≤ x
  pub exact : IsProjectedSoFar sizes marks old new
  pub below : AllBelow keep new

-- a subject from keep on has no value
abbrev pub has_empty : List ℕ → ℕ → Bool
has_empty sizes keep = list_any (λ n. n == 0) (drop keep sizes)
