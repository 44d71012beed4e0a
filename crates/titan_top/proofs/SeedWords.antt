-- The number that a word says: the one of 64 bits whose decimal text the word is.
use Rattle.std.proofs.Common.{◌≡◌, ℕ, ◌<◌, ◌^◌, Bool, true, false, cond, ◌&&◌, nat_lt, List, Option, Some, None, refl, sym, ap, subst, ◌∙◌, arith}
use Rattle.std.specs.Fmt.{decimal}
use Rattle.std.specs.Str.{bytes_eq}
use Rattle.std.specs.Str.Parse.{digits_value}
use Rattle.std.proofs.lemmas.Bool.{ltb-true, lt-ltb, and_parts, and_from}
use Rattle.std.proofs.lemmas.Fmt.{decimal_is_IsNumeral_wide}
use Rattle.std.proofs.lemmas.Slice.Eq.{bytes_eq-Decides}
use Rattle.trace_text.specs.LineWords.{IsReadFrom}
use Rattle.titan_top.specs.Words.{seed_of}

-- the two tests of a word, for the number that its digits make
abbrev says : List ℕ → ℕ → Bool
says w v = bytes_eq (decimal v) w && nat_lt v (2 ^ 64)

value_of : (w : List ℕ) (n : ℕ) → n < 2 ^ 128 → w ≡ decimal n → digits_value 10 w ≡ n
value_of w n small is = ap (digits_value 10) is ∙ (decimal_is_IsNumeral_wide n (omega (arith, small))).1

-- the word is the number's text
says_number : (w : List ℕ) (n : ℕ) → n < 2 ^ 64 → w ≡ decimal n → Some n ≡ seed_of w
says_number w n small is =
    let v : digits_value 10 w ≡ n = value_of w n (omega (arith, small)) is in
    let same : bytes_eq (decimal (digits_value 10 w)) w ≡ true = (bytes_eq-Decides (decimal (digits_value 10 w)) w).1 (ap decimal v ∙ sym is) in
    let below : nat_lt (digits_value 10 w) (2 ^ 64) ≡ true = lt-ltb (digits_value 10 w) (2 ^ 64) (subst (λ (k : ℕ). k < 2 ^ 64) (sym v) small) in
    sym (ap (λ (t : Bool). cond t (Some (digits_value 10 w)) None) (and_from (bytes_eq (decimal (digits_value 10 w)) w) (nat_lt (digits_value 10 w) (2 ^ 64)) same below) ∙ ap (λ (k : ℕ). Some k) v)

-- the word is no such text
says_none : (w : List ℕ) → ((n : ℕ) → n < 2 ^ 64 → w ≡ decimal n → ⊥) → None ≡ seed_of w
says_none w never = elim (says w (digits_value 10 w)) as (λ (t : Bool). says w (digits_value 10 w) ≡ t → None ≡ cond t (Some (digits_value 10 w)) None) [
  | true ↦ λ e.
      let v = digits_value 10 w in
      absurd (never v (ltb-true v (2 ^ 64) (and_parts (bytes_eq (decimal v) w) (nat_lt v (2 ^ 64)) e).1) (sym ((bytes_eq-Decides (decimal v) w).0 (and_parts (bytes_eq (decimal v) w) (nat_lt v (2 ^ 64)) e).0)))
  | false ↦ λ e. refl
] refl

-- what is read of a word is the number that it says
pub seed_read : (w : List ℕ) (read : Option ℕ) → IsReadFrom w (λ n. n < 2 ^ 64) decimal read → read ≡ seed_of w
seed_read w None never = says_none w (λ n small is. never n small (sym is))
seed_read w (Some n) (small, is) = says_number w n small (sym is)
