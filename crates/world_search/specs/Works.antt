-- What always holds of a search's buffers, and how they change.
use Rattle.std.specs.Prelude.{◌≡◌, ℕ, ◌+◌, ◌<◌, ◌≤◌, ◌++◌, [], ◌∷◌, Bool, true, false, List, length, slice_index, slice_set, bit_and, take}
use Rattle.cca_base.specs.Sets.{has}
use Rattle.cca_base.specs.declared.cube.Pair.{Pair}
use Rattle.cca_base.specs.declared.limits.TheConstants.{MAX_CHOICES}
use Rattle.clash_analysis.specs.declared.entry.Why.{Why}
use Rattle.clash_analysis.specs.declared.subjects.TheConstants.{SET_SUBJECTS}
use Rattle.clash_analysis.specs.Trails.{IsTrail}
use Rattle.clash_analysis.specs.Clashes.{AreInside, IsClash, IsNoChoice}
use Rattle.clash_analysis.specs.Levels.{AreLevels, IsDerived}
use Rattle.clash_analysis.specs.Ends.{AreSets, count_all, weight}
use Rattle.clash_analysis.specs.Laws.{Passes}
use Rattle.world_search.specs.declared.work.Work.{Work}
use Rattle.world_search.specs.declared.work.TheConstants.{MAX_ROOM}

-- there is a set for each subject, and a mark for each entry of the trail
pub record IsShaped (w : Work) : Type 0 where
  pub dom : length w.dom.items ≡ length w.start.items
  pub learn : length w.learn.items ≡ length w.start.items
  pub small : length w.start.items ≤ SET_SUBJECTS
  pub marks : length w.marks.items ≡ length w.trail.items
  pub short : length w.trail.items ≤ MAX_ROOM

-- each subject has a value at the start, and there is room on the trail for all values but one of each
pub record IsRoomy (w : Work) : Type 0 where
  pub sets : AreSets MAX_CHOICES w.start.items
  pub room : count_all MAX_CHOICES w.start.items ≤ length w.trail.items + length w.start.items

-- each subject has a value left, there is room on the trail for all others, and levels stand on it
pub record IsReady (w : Work) : Type 0 where
  pub shape : IsShaped w
  pub roomy : IsRoomy w
  pub sets : AreSets MAX_CHOICES w.dom.items
  pub room : w.long + count_all MAX_CHOICES w.dom.items ≤ length w.trail.items + length w.dom.items
  pub levels : AreLevels w.marks.items w.levels w.trail.items w.long
  pub inside : AreInside (length w.dom.items) (take w.long w.trail.items)

-- the trail leads from what each subject may be at the start to what it has left
abbrev pub IsRight : (List ℕ → Bool) → List Pair → Work → Type 0
IsRight want pairs w = IsTrail (Passes want) pairs w.start.items (take w.long w.trail.items) w.dom.items

-- nothing is learned
abbrev pub IsClear : Work → Type 0
IsClear w = (v : ℕ) → slice_index w.learn.items v ≡ 0

-- two sets share a value
abbrev pub ShareSome : ℕ → ℕ → Type 0
ShareSome set other = (a : ℕ) × (has set a ≡ true) × (has other a ≡ true)

-- the set has a value that the other hasn't
abbrev pub HasMore : ℕ → ℕ → Type 0
HasMore set other = (a : ℕ) × (has set a ≡ true) × (has other a ≡ false)

-- an entry for this reason may stand behind the levels: it is no choice, and above a mark it follows
pub record MayFollow (w : Work) (why : Why) : Type 0 where
  pub plain : IsNoChoice why
  pub derived : 0 < w.levels → IsDerived why

-- the trail has one entry more, and the subject has the kept ones of its values
pub record IsPut (old : Work) (subject kept : ℕ) (why : Why) (new : Work) : Type 0 where
  pub start : new.start.items ≡ old.start.items
  pub learn : new.learn.items ≡ old.learn.items
  pub head : new.head ≡ old.head
  pub long : new.long ≡ old.long + 1
  pub trail : new.trail.items ≡ slice_set old.trail.items old.long (record { subject = subject; before = slice_index old.dom.items subject; kept = kept; why = why })
  pub dom : new.dom.items ≡ slice_set old.dom.items subject (bit_and (slice_index old.dom.items subject) kept)

-- the levels are the same
pub record KeepsLevels (old new : Work) : Type 0 where
  pub marks : new.marks.items ≡ old.marks.items
  pub levels : new.levels ≡ old.levels

-- the trail is the same up to where it ended, and maybe longer
pub record IsLonger (old new : Work) : Type 0 where
  pub start : new.start.items ≡ old.start.items
  pub longer : old.long ≤ new.long
  pub room : length new.trail.items ≡ length old.trail.items
  pub kept : take old.long new.trail.items ≡ take old.long old.trail.items

-- all entries stand on the levels that there were
pub record IsMoved (old new : Work) : Type 0 where
  pub levels : KeepsLevels old new
  pub longer : IsLonger old new

-- the number that falls with each step of a search
abbrev pub weight_of : Work → ℕ
weight_of w = weight (length w.trail.items) (length w.trail.items + 1) (take w.levels w.marks.items ++ w.long ∷ [])

-- the first so many entries stand below all levels
pub record StandsAbove (n : ℕ) (w : Work) : Type 0 where
  pub room : n ≤ w.long
  pub marks : (k : ℕ) → k < w.levels → n ≤ slice_index w.marks.items k

-- what stands below all levels stays
abbrev pub KeepsBelow : Work → Work → Type 0
KeepsBelow old new = (n : ℕ) → StandsAbove n old → StandsAbove n new × (take n new.trail.items ≡ take n old.trail.items)

-- what is learned is a clash with nothing blamed
abbrev pub IsClashed : (List ℕ → Bool) → List Pair → Work → Type 0
IsClashed want pairs w = IsClash want pairs w.start.items (take w.long w.trail.items) w.dom.items (λ _. false) w.learn.items

-- the trail ends behind the mark of a lower level, up to which it is the same
pub record IsFurther (old new : Work) : Type 0 where
  pub marks : new.marks.items ≡ old.marks.items
  pub fewer : new.levels < old.levels
  pub long : new.long ≡ slice_index old.marks.items new.levels + 1
  pub kept : take (slice_index old.marks.items new.levels) new.trail.items ≡ take (slice_index old.marks.items new.levels) old.trail.items
