-- Sets of values, one for each subject, and the trail of what was taken from them. W says which lists of values are worlds that agree with what is seen.
use Rattle.std.specs.Prelude.{◌≡◌, ◌≢◌, ℕ, ◌<◌, Bool, true, false, List, [], ◌∷◌, length, slice_index, slice_set, bit_and, Contains}
use Rattle.cca_base.specs.Sets.{has}
use Rattle.cca_base.specs.declared.cube.Pair.{Pair}
use Rattle.clash_analysis.specs.declared.entry.Entry.{Entry}
use Rattle.clash_analysis.specs.declared.entry.Why.{Why}
use Rattle.clash_analysis.specs.declared.entry.Why.TheVariants.{Assumed, Chosen, Because}
use Rattle.clash_analysis.specs.Subjects.{is_in}

-- the subject's value is in its set
abbrev pub is_within : List ℕ → List ℕ → ℕ → Bool
is_within sets xs v = has (slice_index sets v) (slice_index xs v)

-- the value of each subject of each world is in the subject's set
abbrev pub AllWithin : (List ℕ → Type 0) → List ℕ → Type 0
AllWithin W sets = (xs : List ℕ) → W xs → (v : ℕ) → v < length sets → is_within sets xs v ≡ true

-- no subject has a value in both
abbrev pub AreApart : List ℕ → List ℕ → Type 0
AreApart sets others = (v a : ℕ) → has (slice_index sets v) a ≡ true → has (slice_index others v) a ≡ false

-- no other subject has
abbrev pub AreApartBut : ℕ → List ℕ → List ℕ → Type 0
AreApartBut u sets others = (v a : ℕ) → v ≢ u → has (slice_index sets v) a ≡ true → has (slice_index others v) a ≡ false

-- each world whose values are in the sets of the reason's subjects has a kept value of the subject
pub record IsReason (W : List ℕ → Type 0) (dom : List ℕ) (reason : ℕ → Bool) (subject kept : ℕ) : Type 0 where
  pub inside : (v : ℕ) → reason v ≡ true → v < length dom
  pub follows : (xs : List ℕ) → W xs → ((v : ℕ) → reason v ≡ true → is_within dom xs v ≡ true) → has kept (slice_index xs subject) ≡ true

-- why only the kept values are left: a pair of the question has one of them, or they are tried, or there is a reason
abbrev pub IsWhy : (List ℕ → Type 0) → List Pair → List ℕ → ℕ → ℕ → Why → Type 0
IsWhy W pairs dom subject kept Assumed = (p : Pair) × Contains pairs p × (p.item ≡ subject) × (has kept p.value ≡ true)
IsWhy W pairs dom subject kept Chosen = Unit {0}
IsWhy W pairs dom subject kept (Because set) = IsReason W dom (is_in set) subject kept

-- an entry that is right of the sets before it: it leaves some of the subject's values, and not all
pub record IsEntry (W : List ℕ → Type 0) (pairs : List Pair) (dom : List ℕ) (e : Entry) : Type 0 where
  pub inside : e.subject < length dom
  pub before : e.before ≡ slice_index dom e.subject
  pub left : (a : ℕ) × (has e.before a ≡ true) × (has e.kept a ≡ true)
  pub less : (a : ℕ) × (has e.before a ≡ true) × (has e.kept a ≡ false)
  pub why : IsWhy W pairs dom e.subject e.kept e.why

-- the sets once the subject has the kept values alone
abbrev pub narrowed : List ℕ → Entry → List ℕ
narrowed dom e = slice_set dom e.subject (bit_and e.before e.kept)

-- the sets once it has its former values again
abbrev pub undone : List ℕ → Entry → List ℕ
undone dom e = slice_set dom e.subject e.before

-- what the entries leave, the first of them first
abbrev pub left_by : List ℕ → List Entry → List ℕ
left_by start [] = start
left_by start (e ∷ trail) = left_by (narrowed start e) trail

-- each entry is right of the sets that those before it left
abbrev pub AreEntries : (List ℕ → Type 0) → List Pair → List ℕ → List Entry → Type 0
AreEntries W pairs start [] = Unit {0}
AreEntries W pairs start (e ∷ trail) = IsEntry W pairs start e × AreEntries W pairs (narrowed start e) trail

-- the trail leads from the one sets to the others
pub record IsTrail (W : List ℕ → Type 0) (pairs : List Pair) (start : List ℕ) (trail : List Entry) (dom : List ℕ) : Type 0 where
  pub entries : AreEntries W pairs start trail
  pub leads : dom ≡ left_by start trail
