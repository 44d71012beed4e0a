-- Numbers that are drawn one after the other.
use Rattle.std.specs.Prelude.{ℕ, ◌+◌, ◌*◌, ◌/◌, ◌%◌, ◌^◌, Bool, if◌then◌else◌, List, [], ◌∷◌, ◌++◌}

-- by what a number is multiplied to make the next one
abbrev pub multiplier : ℕ
multiplier = 6364136223846793005

-- what is added to make the next number
abbrev pub increment : ℕ
increment = 1442695040888963407

-- the number behind a number
unfoldable pub next_number : ℕ → ℕ
next_number x = (x * multiplier + increment) % 2 ^ 64

-- what is drawn from a number on: something, and the number behind its draws
abbrev pub Drawing : Type 0 → Type 0
Drawing A = ℕ → A × ℕ

-- a draw of n: a number below n
abbrev pub draw : ℕ → Drawing ℕ
draw n x = (next_number x / 2 ^ 33 % n, next_number x)

-- something without a draw
abbrev pub undrawn : {A : Type 0} → A → Drawing A
undrawn a x = (a, x)

-- what is drawn behind something, and may use it
abbrev pub drawn_behind : {A B : Type 0} → A × ℕ → (A → Drawing B) → B × ℕ
drawn_behind first second = second first.0 first.1

infixl 10 ◌>>=◌
-- the second is drawn behind the first
abbrev pub ◌>>=◌ : {A B : Type 0} → Drawing A → (A → Drawing B) → Drawing B
(first >>= second) x = drawn_behind (first x) second

-- something is drawn where a test is true, and else nothing
abbrev pub drawn_if : {A : Type 0} → Bool → Drawing (List A) → Drawing (List A)
drawn_if test drawing = if test then drawing else undrawn []

-- what is drawn for each item in turn, all in one list
abbrev pub each : {X A : Type 0} → (X → Drawing (List A)) → List X → Drawing (List A)
each drawing [] = undrawn []
each drawing (item ∷ items) = do
  first ← drawing item
  rest ← each drawing items
  undrawn (first ++ rest)
