-- A learned clause: for each subject a set of values, such that each world has one of them.
use Rattle.std.specs.Prelude.{◌≡◌, ◌⊎◌, ◌≢◌, ℕ, ◌<◌, Bool, true, false, ◌==◌, ◌||◌, ◌&&◌, not, List, length, slice_index, Contains, All}
use Rattle.cca_base.specs.Sets.{has}
use Rattle.cca_base.specs.declared.cube.Pair.{Pair}
use Rattle.clause_form.specs.declared.clause.Literal.{Literal}
use Rattle.clash_analysis.specs.declared.entry.Entry.{Entry}
use Rattle.clash_analysis.specs.declared.entry.Why.{Why}
use Rattle.clash_analysis.specs.declared.entry.Why.TheVariants.{Assumed, Chosen, Because}
use Rattle.clash_analysis.specs.Subjects.{is_in}
use Rattle.clash_analysis.specs.Trails.{is_within}

-- each world has a value of some subject in its set
abbrev pub IsLearned : (List ℕ → Type 0) → List ℕ → Type 0
IsLearned W learn = (xs : List ℕ) → W xs → (v : ℕ) × (is_within learn xs v ≡ true)

-- the pairs that are of these subjects hold
abbrev pub HasPairs : List Pair → (ℕ → Bool) → List ℕ → Type 0
HasPairs pairs blamed xs = (p : Pair) → Contains pairs p → blamed p.item ≡ true → slice_index xs p.item ≡ p.value

-- the worlds that have the blamed pairs
abbrev pub WithPairs : (List ℕ → Type 0) → List Pair → (ℕ → Bool) → List ℕ → Type 0
WithPairs W pairs blamed xs = W xs × HasPairs pairs blamed xs

-- the entry is not a choice, and if the question says it, its subject is blamed
abbrev pub IsBlamed : (ℕ → Bool) → ℕ → Why → Type 0
IsBlamed blamed subject Assumed = blamed subject ≡ true
IsBlamed blamed subject Chosen = ⊥
IsBlamed blamed subject (Because set) = Unit {0}

-- the subjects of the reason, if there is one
abbrev pub reason_of : Why → ℕ → Bool
reason_of Assumed v = false
reason_of Chosen v = false
reason_of (Because set) v = is_in set v

-- the learned sets with the entry's reason in place of the values that it took: of its own subject what it kept, and of those of its reason all that is taken from them
pub record IsResolved (start dom : List ℕ) (e : Entry) (learn new : List ℕ) : Type 0 where
  pub long : length new ≡ length learn
  pub values : (v a : ℕ) → v < length learn → has (slice_index new v) a
      ≡ ((has (slice_index learn v) a && (not (v == e.subject) || has e.kept a)) || (reason_of e.why v && (has (slice_index start v) a && not (has (slice_index dom v) a))))

-- the literal is the open one, or it is false of all that is left and its subject is one of the reason
abbrev pub IsOneOrOut : List ℕ → Literal → (ℕ → Bool) → Literal → Type 0
IsOneOrOut dom one reason l = (l ≡ one) ⊎ ((reason l.subject ≡ true) × ((a : ℕ) → has (slice_index dom l.subject) a ≡ true → has l.values a ≡ false))

-- the literal is false of all that is left
abbrev pub IsOut : List ℕ → Literal → Type 0
IsOut dom l = (a : ℕ) → has (slice_index dom l.subject) a ≡ true → has l.values a ≡ false

-- the values that some literal of the clause gives a subject, if the subject can have them
pub record IsClauseOf (start : List ℕ) (literals : List Literal) (learn : List ℕ) : Type 0 where
  pub each : All (λ l. (a : ℕ) → has (slice_index start l.subject) a ≡ true → has l.values a ≡ true → has (slice_index learn l.subject) a ≡ true) literals
  pub only : (v a : ℕ) → has (slice_index learn v) a ≡ true → (l : Literal) × Contains literals l × (l.subject ≡ v) × (has l.values a ≡ true)

-- if it isn't of this subject, what it had before shares nothing with the learned sets
abbrev pub SharesNone : List ℕ → ℕ → Entry → Type 0
SharesNone learn u e = e.subject ≢ u → (a : ℕ) → has e.before a ≡ true → has (slice_index learn e.subject) a ≡ false
