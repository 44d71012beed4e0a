-- Levels of a trail: a mark says where one begins.
use Rattle.std.specs.Prelude.{◌≡◌, ◌≢◌, ℕ, ◌+◌, ◌-◌, ◌≤◌, ◌<◌, Bool, true, false, List, length, slice_index, slice_index_or, slice_set, take, drop, All, Option, None, Some}
use Rattle.cca_base.specs.Sets.{has}
use Rattle.cca_base.specs.declared.cube.Pair.{Pair}
use Rattle.clash_analysis.specs.declared.entry.Entry.{Entry}
use Rattle.clash_analysis.specs.declared.entry.Why.{Why}
use Rattle.clash_analysis.specs.declared.entry.Why.TheVariants.{Assumed, Chosen, Because}
use Rattle.clash_analysis.specs.declared.analysis.Point.{Point}
use Rattle.clash_analysis.specs.Trails.{AreApartBut, IsTrail}
use Rattle.clash_analysis.specs.Learning.{IsLearned, SharesNone}
use Rattle.clash_analysis.specs.Laws.{Passes}
use Rattle.clash_analysis.specs.Clashes.{AreInside, IsNoChoice, NoneHas}

-- each of the first so many marks is a place on a trail so long, or its end
abbrev pub AreWithin : List ℕ → ℕ → ℕ → Type 0
AreWithin marks levels long = (k : ℕ) → k < levels → slice_index marks k ≤ long

-- it has a reason
abbrev pub IsDerived : Why → Type 0
IsDerived Assumed = ⊥
IsDerived Chosen = ⊥
IsDerived (Because set) = Unit {0}

-- the first so many marks stand on the first so many entries, rising. No entry below them is a choice; each above one, but those at the marks, has a reason
pub record AreLevels (marks : List ℕ) (levels : ℕ) (trail : List Entry) (long : ℕ) : Type 0 where
  pub marks_room : levels ≤ length marks
  pub trail_room : long ≤ length trail
  pub rising : (j k : ℕ) → j < k → k < levels → slice_index marks j < slice_index marks k
  pub below : (k : ℕ) → k < levels → slice_index marks k < long
  pub first : (i : ℕ) (d : Entry) → i < long → ((k : ℕ) → k < levels → i < slice_index marks k) → IsNoChoice (slice_index_or trail i d).why
  pub derived : (i : ℕ) (d : Entry) → i < long → (k : ℕ) → k < levels → slice_index marks k < i → ((j : ℕ) → j < levels → slice_index marks j ≢ i) → IsDerived (slice_index_or trail i d).why

-- the trail is right up to behind the mark of a level, and a clause is learned; or no world has the blamed pairs
abbrev pub IsAnalysed : (List ℕ → Bool) → List Pair → List ℕ → List ℕ → List Entry → List ℕ → List ℕ → (ℕ → Bool) → Option ℕ → Type 0
IsAnalysed want pairs start marks trail dom learn blamed None = NoneHas want pairs blamed
IsAnalysed want pairs start marks trail dom learn blamed (Some level) = IsTrail (Passes want) pairs start (take (slice_index marks level + 1) trail) dom × IsLearned (Passes want) learn

-- a place on a trail where a clause is learned: a subject has some of its values, and not all, and all other subjects have none
pub record IsLearnedAt (W : List ℕ → Type 0) (pairs : List Pair) (start : List ℕ) (trail : List Entry) (dom learn : List ℕ) (u : ℕ) : Type 0 where
  pub right : IsTrail W pairs start trail dom
  pub learned : IsLearned W learn
  pub apart : AreApartBut u dom learn
  pub left : (a : ℕ) × (has (slice_index dom u) a ≡ true) × (has (slice_index learn u) a ≡ true)
  pub less : (a : ℕ) × (has (slice_index dom u) a ≡ true) × (has (slice_index learn u) a ≡ false)

-- such a place on a level, with the entries before it on the level apart too
pub record IsPoint (n : ℕ) (marks : List ℕ) (trail : List Entry) (learn : List ℕ) (p : Point) : Type 0 where
  pub subject : p.subject < n
  pub room : p.left < length trail
  pub some : 0 < p.level
  pub levels : p.level ≤ length marks
  pub marks_within : AreWithin marks p.level p.left
  pub inside : AreInside n (take p.left trail)
  pub first : All (SharesNone learn p.subject) (drop (slice_index marks (p.level - 1)) (take p.left trail))

-- such a place, or no world has the blamed pairs
abbrev pub IsClimbed : (List ℕ → Bool) → List Pair → List ℕ → List Entry → List ℕ → List ℕ → (ℕ → Bool) → Option Point → Type 0
IsClimbed want pairs start trail dom learn blamed None = NoneHas want pairs blamed
IsClimbed want pairs start trail dom learn blamed (Some p) = IsLearnedAt (Passes want) pairs start (take p.left trail) dom learn p.subject

-- an entry with a reason stands at the place, and all others stay
abbrev pub IsWritten : List Entry → ℕ → ℕ → List Entry → Type 0
IsWritten old place n new = (e : Entry) × (new ≡ slice_set old place e) × IsDerived e.why × (e.subject < n)
