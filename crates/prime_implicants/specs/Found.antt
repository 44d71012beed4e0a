-- Partial values that nothing meeting all rows has, the minimal ones, and their keys.
use Rattle.std.specs.Prelude.{◌≡◌, ℕ, zero, suc, Bool, true, false, ◌<◌, ◌≤◌, ◌&&◌, ◌||◌, List, [], ◌∷◌, length, Option, Some, None, map, filter, slice_index, slice_index_or, slice_set, IsTrue, ◌≢◌, nat_lt, nat_le}
use Rattle.std.specs.Option.{is_none, is_some}
use Rattle.std.proofs.Common.{Vec, Global}
use Rattle.std.specs.List.Sorted.{IsStrictlySortedBy}
use Rattle.std.specs.Cmp.Lexicographic.{slice_cmp}
use Rattle.std.specs.Ordering.{nat_cmp}
use Rattle.std.specs.List.{list_all}
use Rattle.cca_base.specs.declared.limits.TheConstants.{MAX_ROWS}
use Rattle.cca_base.specs.Sets.{has}
use Rattle.cca_base.specs.declared.cube.Pair.{Pair}
use Rattle.prime_implicants.specs.Partial.{IsTotal, IsWithin}
use Rattle.prime_implicants.specs.DenseClauses.{all_unfalsified, mentions}

-- the first has the second's value, if it has one
abbrev pub CoversAt : Option ℕ → Option ℕ → Type 0
CoversAt o None = Unit {0}
CoversAt o (Some v) = o ≡ Some v

-- the first has each value of the second
abbrev pub Covers : List (Option ℕ) → List (Option ℕ) → Type 0
Covers [] [] = Unit {0}
Covers [] (p ∷ q) = ⊥
Covers (o ∷ a) [] = ⊥
Covers (o ∷ a) (p ∷ q) = CoversAt o p × Covers a q

-- no values of all subjects that make all rows true have these
abbrev pub IsBlockedByRows : List ℕ → List (List ℕ) → List (Option ℕ) → Type 0
IsBlockedByRows sizes rows q = (a : List (Option ℕ)) → IsWithin sizes a → IsTotal a → Covers a q → all_unfalsified a rows ≡ false

-- rows that are true of the same values of all subjects, of which all that is blocked makes one false
pub record AreComplete (sizes : List ℕ) (first rows : List (List ℕ)) : Type 0 where
  pub same : (a : List (Option ℕ)) → IsWithin sizes a → IsTotal a → all_unfalsified a rows ≡ all_unfalsified a first
  pub complete : (q : List (Option ℕ)) → IsWithin sizes q → IsBlockedByRows sizes first q → all_unfalsified q rows ≡ false

-- blocked, and each blocked part is the whole
pub record IsPrimeByRows (sizes : List ℕ) (rows : List (List ℕ)) (q : List (Option ℕ)) : Type 0 where
  pub within : IsWithin sizes q
  pub blocked : IsBlockedByRows sizes rows q
  pub minimal : (part : List (Option ℕ)) → Covers q part → IsBlockedByRows sizes rows part → part ≡ q

-- each number below passes
abbrev pub all_below : ℕ → (ℕ → Bool) → Bool
all_below zero test = true
all_below (suc n) test = all_below n test && test n

-- the subject has no value, or all rows may be true without it
abbrev pub is_needed : List (List ℕ) → List (Option ℕ) → ℕ → Bool
is_needed rows q i = is_none (slice_index_or q i None) || all_unfalsified (slice_set q i None) rows

-- the row names each subject that has a value
abbrev pub names_all : List (Option ℕ) → List ℕ → Bool
names_all q row = all_below (length q) (λ i. is_none (slice_index_or q i None) || mentions i row)

-- in range, with a row that is false, and each value needed
pub record IsFoundable (sizes : List ℕ) (rows : List (List ℕ)) (q : List (Option ℕ)) : Type 0 where
  pub within : IsWithin sizes q
  pub refuted : all_unfalsified q rows ≡ false
  pub minimal : all_below (length q) (is_needed rows q) ≡ true

-- the two agree below a subject
abbrev pub AgreesTo : ℕ → List (Option ℕ) → List (Option ℕ) → Type 0
AgreesTo at q p = (i : ℕ) → i < at → slice_index_or p i None ≡ slice_index_or q i None

-- no value where the row has no set, else one outside the set
abbrev pub IsChoice : Option ℕ → ℕ → Type 0
IsChoice None s = s ≡ 0
IsChoice (Some v) s = (s ≢ 0) × (has s v ≡ false)

-- from a subject on, the values make the row false and no more
abbrev pub IsChoiceFrom : ℕ → List ℕ → List (Option ℕ) → Type 0
IsChoiceFrom at row p = (i : ℕ) → at ≤ i → i < length p → IsChoice (slice_index_or p i None) (slice_index row i)

-- below a subject the values are these, and from it on they make the row false and no more
abbrev pub IsChoiceBehind : ℕ → List ℕ → List (Option ℕ) → List (Option ℕ) → Type 0
IsChoiceBehind at row q p = AgreesTo at q p × IsChoiceFrom at row p

-- how many pairs a cube has, and then each pair's subject and value
abbrev pub Key : Type 0
Key = List ℕ

-- each subject from k on that has a value, with its value
abbrev pub key_from : ℕ → List (Option ℕ) → List ℕ
key_from k [] = []
key_from k (None ∷ q) = key_from (suc k) q
key_from k (Some v ∷ q) = k ∷ v ∷ key_from (suc k) q

-- the key of the subjects that have a value
abbrev pub key_of : List (Option ℕ) → List ℕ
key_of q = length (filter (λ o. is_some o) q) ∷ key_from 0 q

-- every key passes
abbrev pub all_keys : (List ℕ → Bool) → List (Vec ℕ Global) → Bool
all_keys t keys = list_all (λ k. t k.items) keys

-- the keys rise
abbrev pub AreOrdered : List (Vec ℕ Global) → Type 0
AreOrdered keys = IsStrictlySortedBy (λ (a b : Vec ℕ Global). slice_cmp nat_cmp a.items b.items) keys

-- more keys than that, each of one that the tests find
abbrev pub AreMany : List ℕ → List (List ℕ) → ℕ → Type 0
AreMany sizes rows most = (keys : List (Vec ℕ Global)) × (most < length keys) × AreOrdered keys
    × ((t : List ℕ → Bool) → ((p : List (Option ℕ)) → IsFoundable sizes rows p → t (key_of p) ≡ true) → all_keys t keys ≡ true)

-- more keys: each is of values that the tests find, and, unless there are too many, those of the values of which P is true are among them
pub record AreAdded (sizes : List ℕ) (rows : List (List ℕ)) (most : ℕ) (P : List (Option ℕ) → Type 0) (old new : List (Vec ℕ Global)) : Type 0 where
  pub sound : (t : Key → Bool) → IsTrue (all_keys t old) → ((p : List (Option ℕ)) → IsFoundable sizes rows p → IsTrue (t (key_of p))) → IsTrue (all_keys t new)
  pub grown : (t : Key → Bool) → IsTrue (all_keys t new) → IsTrue (all_keys t old)
  pub found : length new ≤ most → (p : List (Option ℕ)) → IsFoundable sizes rows p → P p → (t : Key → Bool) → IsTrue (all_keys t new) → IsTrue (t (key_of p))

-- the pairs that are listed, each as a subject and a value
abbrev pub pairs_listed : List ℕ → List Pair
pairs_listed [] = []
pairs_listed (i ∷ []) = []
pairs_listed (i ∷ v ∷ rest) = record { item = i; value = v } ∷ pairs_listed rest

-- the pairs of a key
abbrev pub pairs_of_key : List ℕ → List Pair
pairs_of_key [] = []
pairs_of_key (n ∷ rest) = pairs_listed rest

-- pairs in the range of their types, of rising subjects from k on
abbrev pub are_listed_from : ℕ → List ℕ → Bool
are_listed_from k [] = true
are_listed_from k (i ∷ []) = false
are_listed_from k (i ∷ v ∷ rest) = (nat_le k i && nat_lt i MAX_ROWS) && (nat_lt v 256 && are_listed_from (suc i) rest)

-- a key of a cube
abbrev pub is_proper : List ℕ → Bool
is_proper [] = false
is_proper (n ∷ rest) = are_listed_from 0 rest

-- the cubes of the keys
abbrev pub cubes_of_keys : List (Vec ℕ Global) → List (List Pair)
cubes_of_keys keys = map (λ k. pairs_of_key k.items) keys
