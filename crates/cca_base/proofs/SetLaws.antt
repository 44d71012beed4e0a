-- Members of a set of small numbers.
use Rattle.std.proofs.Common.{◌≡◌, ℕ, ◌*◌, ◌%◌, ◌<◌, ◌≤◌, ◌^◌, ◌+◌, ◌-◌, ◌≢◌, ◌==◌, true, false, ◌||◌, ◌&&◌, eqb, ltb, sym, ap, subst, ◌∙◌, arith, bit_or, bit_and, max, min, inl, inr}
use Rattle.std.specs.Int.{bit_at}
use Rattle.std.proofs.lemmas.Bool.{le-ltb, lt-ltb, cases_lt, eqb-true}
use Rattle.std.proofs.lemmas.Bool.Decides.{nat_tests}
use Rattle.std.proofs.lemmas.Nat.{or_lt, or_block, pow_pos}
use Rattle.std.proofs.lemmas.Nat.Bits.{bit_at_above, bit_at_or, bit_at_and, bit_at_ones, bit_at_ones_above, bit_at_cat_low, bit_at_cat_high, same_from_bits, bit_at-zero, bit_at-pow_same, bit_at-pow_other, bit_at-lt}
use Rattle.std.proofs.Math.Nat.{mod-eq_of_lt, mod-lt}
use Rattle.std.proofs.Math.Pow.{pow-lt, pow-add}
use Rattle.cca_base.specs.Sets.{has, with_number}

-- nothing from the width on is in the set
pub has_above : (w set n : ℕ) → set < 2 ^ w → w ≤ n → ltb n w ≡ has set n
has_above w set n h k = le-ltb n w k ∙ sym (ap (λ b. eqb b 1) (bit_at_above set w n h k))

-- what is set in a word stays within its width
pub or_of_word : (w a b : ℕ) → a < 2 ^ w → bit_or a (b % 2 ^ w) < 2 ^ w
or_of_word w a b h = or_lt w a (b % 2 ^ w) h (mod-lt b (pow_pos w))

tested : (x b k m n : ℕ) → x ≡ max b k → b < 2 → (m ≡ n → k ≡ 1) → (m ≢ n → k ≡ 0) → eqb x 1 ≡ (eqb m n || eqb b 1)
tested x b k m n e small same other = grind (arith, nat_tests)

-- a number is in the set with n, or was
pub has-with_number : (set n m : ℕ) → has (with_number set n) m ≡ (eqb m n || has set m)
has-with_number set n m =
    tested (bit_at (bit_or set (2 ^ n)) m) (bit_at set m) (bit_at (2 ^ n) m) m n (bit_at_or set (2 ^ n) m) (bit_at-lt set m)
    (λ e. subst (λ k. bit_at (2 ^ n) k ≡ 1) (sym e) (bit_at-pow_same n)) (bit_at-pow_other n m)

fits_bit : (w n : ℕ) → n < w → 1 * 2 ^ n % 2 ^ w ≡ 2 ^ n
fits_bit w n h = let small : 2 ^ n < 2 ^ w = pow-lt h in let one : 1 * 2 ^ n ≡ 2 ^ n = omega arith in rw one (mod-eq_of_lt small)

-- the same of the program's shift and `|`
pub members_of : (w bits n : ℕ) → n < w → (m : ℕ) → has (bit_or bits (1 * 2 ^ n % 2 ^ w)) m ≡ (eqb m n || has bits m)
members_of w bits n h m = ap (λ b. has (bit_or bits b) m) (fits_bit w n h) ∙ has-with_number bits n m

pub has-empty : (m : ℕ) → has 0 m ≡ false
has-empty m = ap (λ b. eqb b 1) (bit_at-zero m)

or_tests : (x a b : ℕ) → a < 2 → b < 2 → x ≡ max a b → eqb x 1 ≡ (eqb a 1 || eqb b 1)
or_tests x a b h k e = grind (arith, nat_tests)

and_tests : (x a b : ℕ) → a < 2 → b < 2 → x ≡ min a b → eqb x 1 ≡ (eqb a 1 && eqb b 1)
and_tests x a b h k e = grind (arith, nat_tests)

pub has-or : (a b m : ℕ) → has (bit_or a b) m ≡ (has a m || has b m)
has-or a b m = or_tests _ (bit_at a m) (bit_at b m) (bit_at-lt a m) (bit_at-lt b m) (bit_at_or a b m)

pub has-and : (a b m : ℕ) → has (bit_and a b) m ≡ (has a m && has b m)
has-and a b m = and_tests _ (bit_at a m) (bit_at b m) (bit_at-lt a m) (bit_at-lt b m) (bit_at_and a b m)

-- the set of all numbers below n
pub has_ones : (n m : ℕ) → has (2 ^ n - 1) m ≡ ltb m n
has_ones n m = elim (cases_lt m n) [ inl l ↦ ap (λ b. eqb b 1) (bit_at_ones n m l) ∙ sym (lt-ltb m n l) | inr g ↦ ap (λ b. eqb b 1) (bit_at_ones_above n m g) ∙ sym (le-ltb m n g) ]

-- the same of the program's shift
pub has_full : (w n : ℕ) → n < w → (m : ℕ) → has (1 * 2 ^ n % 2 ^ w - 1) m ≡ ltb m n
has_full w n h m = ap (λ b. has (b - 1) m) (fits_bit w n h) ∙ has_ones n m

-- ---- sets of two words

-- a number of the low word is in the set if it is in that word
pub has_low : (w high low n : ℕ) → n < w → has (high * 2 ^ w + low) n ≡ has low n
has_low w high low n h = ap (λ b. eqb b 1) (bit_at_cat_low high w low n h)

-- a later one is if it is in the high word
pub has_high : (w high low n : ℕ) → low < 2 ^ w → w ≤ n → has (high * 2 ^ w + low) n ≡ has high (n - w)
has_high w high low n h k = ap (λ b. eqb b 1) (bit_at_cat_high high w low n h k)

or_nothing : (a : ℕ) → bit_or a 0 ≡ a
or_nothing a = same_from_bits (bit_or a 0) a (λ i. bit_at_or a 0 i ∙ ap (max (bit_at a i)) (bit_at-zero i) ∙ omega arith)

-- a number of the low word is put into that word
pub with_low : (w high low n : ℕ) → low < 2 ^ w → n < w → high * 2 ^ w + bit_or low (1 * 2 ^ n % 2 ^ w) ≡ with_number (high * 2 ^ w + low) n
with_low w high low n h k =
    let both = or_block w high 0 low (2 ^ n) h (pow-lt k) in
    ap (λ b. high * 2 ^ w + bit_or low b) (fits_bit w n k) ∙ ap (λ b. b * 2 ^ w + bit_or low (2 ^ n)) (sym (or_nothing high))
    ∙ sym both ∙ ap (bit_or (high * 2 ^ w + low)) (omega arith)

-- a later one is put into the high word
pub with_high : (w high low n : ℕ) → low < 2 ^ w → w ≤ n → n - w < w → bit_or high (1 * 2 ^ (n - w) % 2 ^ w) * 2 ^ w + low ≡ with_number (high * 2 ^ w + low) n
with_high w high low n h k l =
    let both = or_block w high (2 ^ (n - w)) low 0 h (pow_pos w) in
    let same : n ≡ n - w + w = omega arith in
    let split : 2 ^ n ≡ 2 ^ (n - w) * 2 ^ w + 0 = ap (λ e. 2 ^ e) same ∙ pow-add 2 (n - w) w ∙ omega arith in
    ap (λ b. bit_or high b * 2 ^ w + low) (fits_bit w (n - w) l) ∙ ap (λ b. bit_or high (2 ^ (n - w)) * 2 ^ w + b) (sym (or_nothing low))
    ∙ sym both ∙ ap (bit_or (high * 2 ^ w + low)) (sym split)

pub ruleset members = (has-with_number, has-empty, has-or, has-and)

-- a set that the union does not change has all of the other
pub within : (a b v : ℕ) → (bit_or a b == b) ≡ true → has a v ≡ true → has b v ≡ true
within a b v h k = subst (λ s. has s v ≡ true) (eqb-true (bit_or a b) b h) (has-or a b v ∙ ap (λ x. x || has b v) k)
