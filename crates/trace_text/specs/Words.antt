-- A line as words with single spaces between them.
use Rattle.std.specs.Prelude.{◌≡◌, ◌≢◌, ℕ, [], ◌∷◌, ◌++◌, List, All, flat_map}

-- words, each behind a space
abbrev pub behind_spaces : List (List ℕ) → List ℕ
behind_spaces words = flat_map (λ word. 32 ∷ word) words

-- the line that begins with a word: the other words follow it, each behind a space, and then the LF
abbrev pub spaced_line : List ℕ → List (List ℕ) → List ℕ
spaced_line word words = word ++ behind_spaces words ++ 10 ∷ []

-- no byte of the word is a space
abbrev pub HasNoSpace : List ℕ → Type 0
HasNoSpace word = All (λ b. b ≢ 32) word

-- the line's words: none has a space, and single spaces stand between them
pub record AreWords (line : List ℕ) (words : List (List ℕ)) : Type 0 where
  pub spaced : behind_spaces words ≡ 32 ∷ line
  pub apart : All HasNoSpace words
