-- Sets of values in words of bits.
use Rattle.std.proofs.Common.{◌≡◌, ◌≢◌, inl, inr, ℕ, ◌+◌, ◌-◌, ◌*◌, ◌/◌, ◌%◌, ◌^◌, ◌<◌, ◌≤◌, true, false, eqb, bit_and, bit_or, sym, ap, subst, ◌∙◌, arith, w64}
use Rattle.std.specs.Prelude.{count_ones}
use Rattle.std.specs.Int.{bit_at}
use Rattle.std.specs.Int.Bits.{or_add_and}
use Rattle.std.proofs.lemmas.Bool.{and_parts, both_ways, cases_eq, cases_lt, eqb-true, le-ltb}
use Rattle.std.proofs.lemmas.Nat.{mod_below, one_shl, ones_cat, ones_le_self, pow_pos, shr_split, zero_from_ones}
use Rattle.std.proofs.lemmas.Nat.Bits.{and_pow, bit_at_above, bit_at_and, bit_at_clear_other, bit_at_clear_same, bit_at_or, bit_at-lt, bit_at-pow_other, bit_at-pow_same, bit_at-trailing_zeros, same_from_bits}
use Rattle.cca_base.specs.Sets.{has}
use Rattle.cca_base.proofs.SetLaws.{has_above, has-and}

-- what a word has is below its width
pub low_member : (word a : ℕ) → word < 2 ^ 64 → has word a ≡ true → a < 64
low_member word a h is = elim (cases_lt a 64) [
  | inl less ↦ less
  | inr more ↦ absurd (both_ways (has word a) (sym (has_above 64 word a h more) ∙ le-ltb a 64 more) is)
]

-- a set that isn't empty has a value
pub ones_some : (word : ℕ) → 1 ≤ word → 1 ≤ count_ones word
ones_some word some = elim (cases_lt 0 (count_ones word)) [
  | inl one ↦ one
  | inr none ↦
      let empty : word ≡ 0 = zero_from_ones word (omega (arith, none)) in
      omega (arith, empty, some)
]

-- a value more is one more
pub ones_more : (rest value word : ℕ) → has rest value ≡ false → rest + 2 ^ value ≡ word → count_ones word ≡ count_ones rest + 1
ones_more rest value word gone sum =
    let high = rest / 2 ^ value in let low = rest % 2 ^ value in let half = high / 2 in
    let below : low < 2 ^ value = mod_below rest (2 ^ value) (pow_pos value) in
    let parts : high * 2 ^ value + low ≡ rest = shr_split rest value in
    let bit : high % 2 ≡ 0 = elim (cases_eq (bit_at rest value) 1) [
      | inl is ↦ absurd (both_ways (has rest value) gone (ap (λ b. eqb b 1) is))
      | inr other ↦ let less = bit_at-lt rest value in omega (arith, other, less)
    ] in
    let even : half * 2 ^ 1 + 0 ≡ high = omega (arith, bit) in
    let odd : half * 2 ^ 1 + 1 ≡ high + 1 = omega (arith, bit) in
    let whole : (high + 1) * 2 ^ value + low ≡ word = omega (arith, parts, sum) in
    let of_rest = ap count_ones (sym parts) ∙ ones_cat value high low below in
    let of_word = ap count_ones (sym whole) ∙ ones_cat value (high + 1) low below in
    let of_high = ap count_ones (sym even) ∙ ones_cat 1 half 0 (omega arith) in
    let of_next = ap count_ones (sym odd) ∙ ones_cat 1 half 1 (omega arith) in
    omega (arith, of_rest, of_word, of_high, of_next, ones_le_self 0, ones_le_self 1, ones_some 1 (omega arith))

-- the set of one value
module _ (value : ℕ) (inside : value < 64) where
  pub one_is : 1 * 2 ^ value % 2 ^ 64 ≡ 2 ^ value
  one_is = one_shl value 64 inside

  pub one_has : has (1 * 2 ^ value % 2 ^ 64) value ≡ true
  one_has = ap (λ s. has s value) one_is ∙ ap (λ b. eqb b 1) (bit_at-pow_same value)

  pub one_only : (a : ℕ) → has (1 * 2 ^ value % 2 ^ 64) a ≡ true → a ≡ value
  one_only a is = elim (cases_eq a value) [
    | inl same ↦ same
    | inr other ↦ absurd (both_ways (has (1 * 2 ^ value % 2 ^ 64) a) (ap (λ s. has s a) one_is ∙ ap (λ b. eqb b 1) (bit_at-pow_other value a other)) is)
  ]

-- a word without a value
module _ (word value : ℕ) (small : word < 2 ^ 64) (inside : value < 64) where
  abbrev pub cleared : ℕ
  cleared = bit_and word (2 ^ 64 - 1 - 1 * 2 ^ value % 2 ^ 64)

  pub cleared_kept : (a : ℕ) → has word a ≡ true → a ≢ value → has cleared a ≡ true
  cleared_kept a is other = ap (λ b. eqb b 1) (bit_at_clear_other w64 word value inside a (low_member word a small is) other) ∙ is

  pub cleared_gone : has cleared value ≡ false
  cleared_gone = ap (λ b. eqb b 1) (bit_at_clear_same w64 word value inside)

  pub cleared_within : (a : ℕ) → has cleared a ≡ true → has word a ≡ true
  cleared_within a is = let both = and_parts _ _ (sym (has-and word (2 ^ 64 - 1 - 1 * 2 ^ value % 2 ^ 64) a) ∙ is) in both.0

  refilled : has word value ≡ true → (i : ℕ) → bit_at (bit_or cleared (2 ^ value)) i ≡ bit_at word i
  refilled is i = elim (cases_eq i value) [
    | inl same ↦
        let its : bit_at word i ≡ 1 = ap (bit_at word) same ∙ eqb-true (bit_at word value) 1 is in
        let bit : bit_at (2 ^ value) i ≡ 1 = ap (bit_at (2 ^ value)) same ∙ bit_at-pow_same value in
        let low = bit_at-lt cleared i in
        bit_at_or cleared (2 ^ value) i ∙ omega (arith, its, bit, low)
    | inr other ↦
        let bit = bit_at-pow_other value i other in
        let same : bit_at cleared i ≡ bit_at word i = elim (cases_lt i 64) [
          | inl less ↦ bit_at_clear_other w64 word value inside i less other
          | inr more ↦
              let none = bit_at_above word 64 i small more in
              bit_at_and word (2 ^ 64 - 1 - 1 * 2 ^ value % 2 ^ 64) i ∙ omega (arith, none)
        ] in
        bit_at_or cleared (2 ^ value) i ∙ omega (arith, bit, same)
  ]

  pub cleared_sum : has word value ≡ true → cleared + 2 ^ value ≡ word
  cleared_sum is =
      let all = same_from_bits (bit_or cleared (2 ^ value)) word (refilled is) in
      let apart : bit_and cleared (2 ^ value) ≡ 0 = and_pow cleared value ∙ ap (λ b. b * 2 ^ value) (bit_at_clear_same w64 word value inside) ∙ omega arith in
      let sum = or_add_and cleared (2 ^ value) in
      omega (arith, all, apart, sum)

same_bit : (x y : ℕ) → x < 2 → y < 2 → (x ≡ 1 → y ≡ 1) → (y ≡ 1 → x ≡ 1) → x ≡ y
same_bit x y h k there back = elim (cases_eq x 1) [
  | inl one ↦ one ∙ sym (there one)
  | inr other ↦ elim (cases_eq y 1) [ inl one ↦ absurd (other (back one)) | inr none ↦ omega (arith, h, k, other, none) ]
]

-- words with the same values are the same
pub same_values : (word rest : ℕ) → ((a : ℕ) → has word a ≡ true → has rest a ≡ true) → ((a : ℕ) → has rest a ≡ true → has word a ≡ true) → word ≡ rest
same_values word rest there back = same_from_bits word rest (λ i. same_bit (bit_at word i) (bit_at rest i) (bit_at-lt word i) (bit_at-lt rest i)
    (λ e. eqb-true (bit_at rest i) 1 (there i (ap (λ b. eqb b 1) e))) (λ e. eqb-true (bit_at word i) 1 (back i (ap (λ b. eqb b 1) e))))

-- a word with a value less has it no more
pub lacks : (word rest value : ℕ) → rest + 2 ^ value ≡ word → ((a : ℕ) → has word a ≡ true → a ≢ value → has rest a ≡ true)
    → ((a : ℕ) → has rest a ≡ true → has word a ≡ true) → has rest value ≡ true → ⊥
lacks word rest value sum kept within left =
    let there : (a : ℕ) → has word a ≡ true → has rest a ≡ true = λ a is. elim (cases_eq a value) [
      | inl same ↦ subst (λ b. has rest b ≡ true) (sym same) left
      | inr other ↦ kept a is other
    ] in
    let same = same_values word rest there within in
    let some = pow_pos value in
    omega (arith, sum, same, some)

-- a word that is not 0 has a value
pub some_value : (word : ℕ) → 0 < word → word < 2 ^ 64 → (a : ℕ) × (has word a ≡ true)
some_value word some small = let lowest = bit_at-trailing_zeros w64 word some small in (_, ap (λ b. eqb b 1) lowest.1)

-- what a word has besides a value
pub another_value : (word rest value : ℕ) → rest + 2 ^ value ≡ word → ((a : ℕ) → has word a ≡ true → a ≢ value → has rest a ≡ true)
    → ((a : ℕ) → has rest a ≡ true → has word a ≡ true) → word < 2 ^ 64 → 0 < rest → (a : ℕ) × (a ≢ value) × (has word a ≡ true)
another_value word rest value sum kept within small some =
    let found = some_value rest some (omega (arith, sum, small)) in
    (found.0, λ same. lacks word rest value sum kept within (subst (λ a. has rest a ≡ true) same found.1), within found.0 found.1)
