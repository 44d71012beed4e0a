-- What holds of each of a few elements, or of each of a few numbers.
use Rattle.std.proofs.Common.{◌<◌, ℕ, zero, suc, [], ◌∷◌, All, arith}
use Rattle.std.proofs.lemmas.List.Elements.{All-cons, All-nil}

pub one_at : {X : Type 0} (P : X → Type 0) (x : X) → P x → All P (x ∷ [])
one_at P x h = All-cons P x [] h (All-nil P)

-- below two
pub below_two : (P : ℕ → Type 0) → P 0 → P 1 → (k : ℕ) → k < 2 → P k
below_two P a b zero h = a
below_two P a b (suc zero) h = b
below_two P a b (suc (suc k)) h = absurd (omega arith)

-- below three
pub below_three : (P : ℕ → Type 0) → P 0 → P 1 → P 2 → (k : ℕ) → k < 3 → P k
below_three P a b c zero h = a
below_three P a b c (suc zero) h = b
below_three P a b c (suc (suc zero)) h = c
below_three P a b c (suc (suc (suc k))) h = absurd (omega arith)

-- below one
pub below_one : (P : ℕ → Type 0) → P 0 → (k : ℕ) → k < 1 → P k
below_one P a zero h = a
below_one P a (suc k) h = absurd (omega arith)

pub two_at : {X : Type 0} (P : X → Type 0) (x y : X) → P x → P y → All P (x ∷ y ∷ [])
two_at P x y h k = All-cons P x (y ∷ []) h (one_at P y k)

pub three_at : {X : Type 0} (P : X → Type 0) (x y z : X) → P x → P y → P z → All P (x ∷ y ∷ z ∷ [])
three_at P x y z h k l = All-cons P x (y ∷ z ∷ []) h (two_at P y z k l)

pub four_at : {X : Type 0} (P : X → Type 0) (x y z u : X) → P x → P y → P z → P u → All P (x ∷ y ∷ z ∷ u ∷ [])
four_at P x y z u h k l m = All-cons P x (y ∷ z ∷ u ∷ []) h (three_at P y z u k l m)

pub five_at : {X : Type 0} (P : X → Type 0) (x y z u v : X) → P x → P y → P z → P u → P v → All P (x ∷ y ∷ z ∷ u ∷ v ∷ [])
five_at P x y z u v h k l m n = All-cons P x (y ∷ z ∷ u ∷ v ∷ []) h (four_at P y z u v k l m n)
