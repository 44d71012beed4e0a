-- What holds of trails, reasons and learned clauses. A world is a list of values that passes a test.
use Rattle.std.specs.Prelude.{◌≡◌, ◌≢◌, ℕ, ◌+◌, ◌<◌, ◌≤◌, Bool, IsTrue, true, false, List, [], ◌∷◌, ◌++◌, length, slice_index, take, All, Contains}
use Rattle.cca_base.specs.Sets.{has}
use Rattle.cca_base.specs.declared.cube.Pair.{Pair}
use Rattle.clause_form.specs.declared.clause.Literal.{Literal}
use Rattle.clause_form.specs.Clauses.{is_met}
use Rattle.clash_analysis.specs.declared.entry.Entry.{Entry}
use Rattle.clash_analysis.specs.declared.subjects.SubjectSet.{SubjectSet}
use Rattle.clash_analysis.specs.declared.entry.Why.TheVariants.{Because}
use Rattle.clash_analysis.specs.Subjects.{is_in}
use Rattle.clash_analysis.specs.Trails.{AllWithin, AreApart, AreApartBut, IsEntry, IsReason, IsTrail, left_by, narrowed, undone}
use Rattle.clash_analysis.specs.Learning.{IsBlamed, IsClauseOf, IsLearned, IsOneOrOut, IsOut, IsResolved, SharesNone, WithPairs}
use Rattle.clash_analysis.specs.Ends.{AreSets, count_all, weight}

-- the lists that pass the test
abbrev pub Passes : (List ℕ → Bool) → List ℕ → Type 0
Passes want xs = IsTrue (want xs)

-- the clause is true in each world
abbrev pub IsMetBy : (List ℕ → Bool) → List Literal → Type 0
IsMetBy want literals = (xs : List ℕ) → IsTrue (want xs) → is_met xs literals ≡ true

-- ---- trails

-- an entry that is right of what a trail left makes a longer trail
abbrev pub PushesRight : Type 0
PushesRight = (want : List ℕ → Bool) (pairs : List Pair) (start dom : List ℕ) (trail : List Entry) (e : Entry) → IsTrail (Passes want) pairs start trail dom → IsEntry (Passes want) pairs dom e
    → IsTrail (Passes want) pairs start (trail ++ e ∷ []) (narrowed dom e)

-- without its last entry a trail leads to what there was before, of which that entry is right
abbrev pub PopsBack : Type 0
PopsBack = (want : List ℕ → Bool) (pairs : List Pair) (start dom : List ℕ) (trail : List Entry) (e : Entry) → IsTrail (Passes want) pairs start (trail ++ e ∷ []) dom
    → IsTrail (Passes want) pairs start trail (undone dom e) × IsEntry (Passes want) pairs (undone dom e) e × (dom ≡ narrowed (undone dom e) e)

-- a trail leaves each subject a value, and with the subjects it is no longer than the values are many
abbrev pub TrailsFit : Type 0
TrailsFit = (want : List ℕ → Bool) (pairs : List Pair) (width : ℕ) (start dom : List ℕ) (trail : List Entry) → AreSets width start → IsTrail (Passes want) pairs start trail dom
    → AreSets width dom × (length trail + length start ≤ count_all width start)

-- ---- clauses

-- the subjects of the literals that are out are a reason for the open one
abbrev pub OpenLiteralsFollow : Type 0
OpenLiteralsFollow = (want : List ℕ → Bool) (literals : List Literal) (dom : List ℕ) (one : Literal) (reason : ℕ → Bool) → IsMetBy want literals
    → ((v : ℕ) → reason v ≡ true → v < length dom) → All (IsOneOrOut dom one reason) literals → IsReason (Passes want) dom reason one.subject one.values

-- a clause with no open literal is learned, apart from what is left
abbrev pub FalseClausesAreLearned : Type 0
FalseClausesAreLearned = (want : List ℕ → Bool) (literals : List Literal) (start dom learn : List ℕ) → IsMetBy want literals → AllWithin (Passes want) start
    → All (λ l. l.subject < length start) literals → IsClauseOf start literals learn → All (IsOut dom) literals → IsLearned (Passes want) learn × AreApart dom learn

-- so is a pair of the question of whose value nothing is left
abbrev pub LostPairsAreLearned : Type 0
LostPairsAreLearned = (want : List ℕ → Bool) (pairs : List Pair) (start learn : List ℕ) (p : Pair) (blamed : ℕ → Bool) → AllWithin (Passes want) start → p.item < length start → Contains pairs p
    → blamed p.item ≡ true → (has (slice_index start p.item) p.value ≡ true → has (slice_index learn p.item) p.value ≡ true) → IsLearned (WithPairs (Passes want) pairs blamed) learn

-- ---- learning

-- what is learned stays so where an entry's reason is put in its place, and is apart from what there was before the entry
abbrev pub ResolvedIsLearned : Type 0
ResolvedIsLearned = (want : List ℕ → Bool) (pairs : List Pair) (start dom learn new : List ℕ) (e : Entry) (blamed more : ℕ → Bool) → AllWithin (Passes want) start → length dom ≡ length start
    → length learn ≡ length start → IsEntry (Passes want) pairs dom e → IsResolved start dom e learn new → ((v : ℕ) → blamed v ≡ true → more v ≡ true) → IsBlamed more e.subject e.why
    → IsLearned (WithPairs (Passes want) pairs blamed) learn → AreApart (narrowed dom e) learn → IsLearned (WithPairs (Passes want) pairs more) new × AreApart dom new

-- an entry of whose former values none is learned needs nothing
abbrev pub OthersStayApart : Type 0
OthersStayApart = (want : List ℕ → Bool) (pairs : List Pair) (dom learn : List ℕ) (e : Entry) → IsEntry (Passes want) pairs dom e
    → ((a : ℕ) → has e.before a ≡ true → has (slice_index learn e.subject) a ≡ false) → AreApart (narrowed dom e) learn → AreApart dom learn

-- what is undone leaves the learned sets apart but for one subject, if no entry of another one had a value in them; and all subjects keep what they have
abbrev pub UndoneStaysApart : Type 0
UndoneStaysApart = (want : List ℕ → Bool) (pairs : List Pair) (start dom learn : List ℕ) (front back : List Entry) (u : ℕ) → IsTrail (Passes want) pairs start (front ++ back) dom
    → All (SharesNone learn u) back → AreApartBut u dom learn
    → IsTrail (Passes want) pairs start front (left_by start front) × AreApartBut u (left_by start front) learn
    × ((v a : ℕ) → has (slice_index dom v) a ≡ true → has (slice_index (left_by start front) v) a ≡ true)

-- the learned sets narrow the one subject from which they aren't apart, and their other subjects are the reason
abbrev pub LearnedNarrows : Type 0
LearnedNarrows = (want : List ℕ → Bool) (pairs : List Pair) (dom learn : List ℕ) (u : ℕ) (set : SubjectSet) → length learn ≡ length dom → u < length dom → IsLearned (Passes want) learn
    → AreApartBut u dom learn → ((v a : ℕ) → v ≢ u → has (slice_index learn v) a ≡ true → is_in set v ≡ true) → ((v : ℕ) → is_in set v ≡ true → v < length dom)
    → (a : ℕ) × (has (slice_index dom u) a ≡ true) × (has (slice_index learn u) a ≡ true) → (a : ℕ) × (has (slice_index dom u) a ≡ true) × (has (slice_index learn u) a ≡ false)
    → IsEntry (Passes want) pairs dom (record { subject = u; before = slice_index dom u; kept = slice_index learn u; why = Because set })

-- with learned sets apart from all that there was at the start, no world has the blamed pairs
abbrev pub NothingIsLeft : Type 0
NothingIsLeft = (want : List ℕ → Bool) (pairs : List Pair) (start learn : List ℕ) (blamed : ℕ → Bool) → AllWithin (Passes want) start → length learn ≡ length start → AreApart start learn
    → IsLearned (WithPairs (Passes want) pairs blamed) learn → (xs : List ℕ) → WithPairs (Passes want) pairs blamed xs → ⊥

-- ---- the end

-- a level that ends later weighs less, whatever the levels behind it
abbrev pub LaterWeighsLess : Type 0
LaterWeighsLess = (room n : ℕ) (front rest more : List ℕ) (end later : ℕ) → end < later → later ≤ room → length front < n → weight room n (front ++ later ∷ more) < weight room n (front ++ end ∷ rest)

-- so does one level more
abbrev pub MoreLevelsWeighLess : Type 0
MoreLevelsWeighLess = (room n : ℕ) (front more : List ℕ) (end : ℕ) → length front < n → weight room n (front ++ end ∷ more) < weight room n front

-- there are no more marks than entries
abbrev pub MarksAreFew : Type 0
MarksAreFew = (marks : List ℕ) (levels long : ℕ) → ((j k : ℕ) → j < k → k < levels → slice_index marks j < slice_index marks k) → ((k : ℕ) → k < levels → slice_index marks k < long) → levels ≤ long

-- a trail that ends behind the mark of a level weighs less than one with all levels
abbrev pub LearnedWeighsLess : Type 0
LearnedWeighsLess = (room : ℕ) (marks : List ℕ) (levels level long : ℕ) → level < levels → levels ≤ length marks → levels ≤ room → slice_index marks level < room
    → weight room (room + 1) (take level marks ++ (slice_index marks level + 1) ∷ []) < weight room (room + 1) (take levels marks ++ long ∷ [])
