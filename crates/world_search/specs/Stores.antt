-- Clauses that a search has learned, and what always holds of the room for them.
use Rattle.std.specs.Prelude.{◌≡◌, ℕ, ◌≤◌, Bool, List, length, take, All}
use Rattle.world_search.specs.declared.store.Slot.{Slot}
use Rattle.world_search.specs.declared.store.TheConstants.{SLOT_LITERALS}
use Rattle.world_search.specs.declared.store.Store.{Store}
use Rattle.world_search.specs.declared.words.WordLiteral.{WordLiteral}
use Rattle.world_search.specs.Words.{AreInside, IsMetIn}

-- the clause of a slot: its first so many literals
abbrev pub clause_of : Slot → List WordLiteral
clause_of s = take s.long s.literals

-- it has room for its literals, which are of subjects that there are
pub record IsSlot (n : ℕ) (s : Slot) : Type 0 where
  pub room : s.long ≤ SLOT_LITERALS
  pub inside : AreInside n (clause_of s)

-- each clause is true in each list that passes the test
abbrev pub AreSlotsMetIn : List Slot → (List ℕ → Bool) → Type 0
AreSlotsMetIn slots want = All (λ s. IsMetIn (clause_of s) want) slots

-- so is each clause that is kept
abbrev pub AreKept : Store → (List ℕ → Bool) → Type 0
AreKept l want = AreSlotsMetIn (take l.kept l.slots.items) want

-- no more are kept than there is room for, and there is a note for each slot and a number for each subject
pub record IsStore (n : ℕ) (l : Store) : Type 0 where
  pub room : l.kept ≤ length l.slots.items
  pub slots : All (IsSlot n) l.slots.items
  pub marks : length l.notes.items ≡ length l.slots.items
  pub counts : length l.activity.items ≡ n

-- the clauses are the same, with as many notes and numbers
pub record KeepsClauses (old new : Store) : Type 0 where
  pub slots : new.slots.items ≡ old.slots.items
  pub kept : new.kept ≡ old.kept
  pub marks : length new.notes.items ≡ length old.notes.items
  pub counts : length new.activity.items ≡ length old.activity.items
