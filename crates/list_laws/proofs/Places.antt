-- What stands at a place of a list.
use Rattle.std.proofs.Common.{◌≡◌, ◌<◌, ℕ, zero, suc, List, [], ◌∷◌, length, take, slice_get, slice_index, get_or, Some, All, inl, inr, refl, ap, subst, ◌∙◌, arith}
use Rattle.std.proofs.lemmas.Bool.{cases_lt}
use Rattle.std.proofs.lemmas.List.{get_or_past}
use Rattle.std.proofs.lemmas.Option.{get_or_from_slice_get, slice_get-get_or, slice_get_within}

-- something stands at each place of the list
pub some_at : {X : Type 0} (xs : List X) (i : ℕ) → i < length xs → (x : X) × (slice_get xs i ≡ Some x)
some_at [] i h = absurd (omega arith)
some_at (x ∷ xs) zero h = (x, refl)
some_at (x ∷ xs) (suc i) h = some_at xs i (omega arith)

-- what stands at a place stands there in the first elements
pub get_take : {X : Type 0} (xs : List X) (n k : ℕ) → k < n → slice_get (take n xs) k ≡ slice_get xs k
get_take xs zero k h = absurd (omega (arith, h))
get_take [] (suc n) k h = refl
get_take (x ∷ xs) (suc n) zero h = refl
get_take (x ∷ xs) (suc n) (suc k) h = get_take xs n k (omega (arith, h))

-- what holds of all holds of what stands at a place
pub all_at : {X : Type 0} (P : X → Type 0) (xs : List X) (i : ℕ) (x : X) → All P xs → slice_get xs i ≡ Some x → P x
all_at P xs i x all at = subst P (get_or_from_slice_get xs i x x at) (all i x (slice_get_within xs i x at))

-- the number at a place, by both words
pub value_at : (xs : List ℕ) (i v : ℕ) → slice_get xs i ≡ Some v → slice_index xs i ≡ v
value_at xs i v h = get_or_from_slice_get xs i v 0 h

pub get_at : (xs : List ℕ) (i v : ℕ) → i < length xs → slice_index xs i ≡ v → slice_get xs i ≡ Some v
get_at xs i v h e = slice_get-get_or xs i 0 h ∙ ap Some e

-- a number that is above another stands at a place of the list
pub place_inside : (xs : List ℕ) (i v : ℕ) → v < get_or xs i 0 → i < length xs
place_inside xs i v h = elim (cases_lt i (length xs)) [ inl inside ↦ inside | inr past ↦ absurd (omega (arith, h, get_or_past xs i 0 past)) ]
