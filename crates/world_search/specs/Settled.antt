-- What is left of sets of values.
use Rattle.std.specs.Prelude.{◌≡◌, ℕ, Bool, IsTrue, true, List, slice_index}
use Rattle.cca_base.specs.Sets.{has}

-- what each subject may be is among what it may be in the others
abbrev pub AreWithinSets : List ℕ → List ℕ → Type 0
AreWithinSets sets others = (v a : ℕ) → has (slice_index sets v) a ≡ true → has (slice_index others v) a ≡ true

-- no list passes the test
abbrev pub NonePasses : (List ℕ → Bool) → Type 0
NonePasses want = (xs : List ℕ) → IsTrue (want xs) → ⊥
