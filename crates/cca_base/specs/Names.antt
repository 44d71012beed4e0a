-- Words and names.
use Rattle.std.specs.Prelude.{ℕ, Bool, false, not, List, [], ◌∷◌, length, codes, ◌==◌, ◌&&◌, ◌||◌, nat_le, IsTrue, All, AllPairs, ◌≢◌}
use Rattle.std.specs.List.{list_all, list_any}
use Rattle.std.specs.Str.{bytes_eq}
use Rattle.std.specs.Char.{is_ascii_digit, is_ascii_lowercase}
use Rattle.cca_base.specs.declared.limits.TheConstants.{MAX_NAME}

-- a letter a to z, a digit or _
abbrev pub is_word_byte : ℕ → Bool
is_word_byte b = (is_ascii_lowercase b || is_ascii_digit b) || (b == 95)

-- a letter a to z, and then letters, digits and _
abbrev pub is_word : List ℕ → Bool
is_word [] = false
is_word (b ∷ bs) = is_ascii_lowercase b && list_all is_word_byte bs

-- the words that the text of a model uses itself
abbrev pub reserved : List (List ℕ)
reserved =
    codes "and" ∷ codes "or" ∷ codes "not" ∷ codes "in" ∷ codes "implies" ∷ codes "iff" ∷ codes "true" ∷ codes "false" ∷ codes "when" ∷ codes "by" ∷ codes "start" ∷ codes "cost"
    ∷ codes "sensed" ∷ []

-- the text is one of these words
abbrev pub is_reserved : List ℕ → Bool
is_reserved text = list_any (bytes_eq text) reserved

-- a word that is not too long and not reserved
abbrev pub is_name : List ℕ → Bool
is_name text = is_word text && (nat_le (length text) MAX_NAME && not (is_reserved text))

-- no two places have the same
abbrev pub AreDifferent : {X : Type 0} → List X → Type 0
AreDifferent xs = AllPairs (λ x y. x ≢ y) xs

-- each one a name, all different
pub record AreNames (names : List (List ℕ)) : Type 0 where
  pub each : All (λ name. IsTrue (is_name name)) names
  pub different : AreDifferent names
