-- A set of small numbers, written as a number whose bits say which are in it.
use Rattle.std.specs.Prelude.{ℕ, Bool, ◌==◌, ◌^◌, bit_or}
use Rattle.std.specs.Int.{bit_at}

-- the number is in the set
abbrev pub has : ℕ → ℕ → Bool
has set n = bit_at set n == 1

-- the set with the number in it besides
abbrev pub with_number : ℕ → ℕ → ℕ
with_number set n = bit_or set (2 ^ n)
