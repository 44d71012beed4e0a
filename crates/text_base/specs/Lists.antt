-- Lists of parts with commas between them.
use Rattle.std.specs.Prelude.{◌≡◌, ℕ, zero, suc, false, List, [], ◌∷◌, ◌++◌, length, Option, Some, None}
use Rattle.std.specs.List.{AllByRecursion}
use Rattle.cca_base.specs.Names.{is_reserved}
use Rattle.text_base.specs.Chain.{◌>>=◌}
use Rattle.text_base.specs.Lexemes.{Lexeme, word, comma, next_is, name_word_at}

-- nothing may follow
abbrev pub ended : {A : Type 0} → A → List Lexeme → Option A
ended x [] = Some x
ended x (l ∷ ls) = None

-- ---- lists of any parts

-- a part, put before what was read behind it
abbrev pub with_part : {A : Type 0} → A → Option (List A × List Lexeme) → Option (List A × List Lexeme)
with_part x None = None
with_part x (Some read) = Some (x ∷ read.0, read.1)

-- a part alone, or before the list behind its comma
abbrev pub and_more : {A : Type 0} → A → List Lexeme → Option (List Lexeme) → (List Lexeme → Option (List A × List Lexeme)) → Option (List A × List Lexeme)
and_more x behind None more = Some (x ∷ [], behind)
and_more x behind (Some ls) more = with_part x (more ls)

-- so many parts at most, with commas between them
abbrev pub list_within : {A : Type 0} → (List Lexeme → Option (A × List Lexeme)) → ℕ → List Lexeme → Option (List A × List Lexeme)
list_within part zero ls = None
list_within part (suc n) ls = part ls >>= λ x. and_more x.0 x.1 (next_is comma x.1) (list_within part n)

-- one or more parts with commas between them, and what stands behind; each part takes a lexeme at least
abbrev pub list_at : {A : Type 0} → (List Lexeme → Option (A × List Lexeme)) → List Lexeme → Option (List A × List Lexeme)
list_at part ls = list_within part (length ls) ls

-- parts with commas between them
abbrev pub parts_spelled : {A : Type 0} → (A → List Lexeme) → A → List A → List Lexeme
parts_spelled spelled x [] = spelled x
parts_spelled spelled x (next ∷ xs) = spelled x ++ comma ∷ parts_spelled spelled next xs

-- a list of parts
abbrev pub list_spelled : {A : Type 0} → (A → List Lexeme) → List A → List Lexeme
list_spelled spelled [] = []
list_spelled spelled (x ∷ xs) = parts_spelled spelled x xs

-- ---- lists of names

-- one or more words in place of names, with commas between them, and what stands behind
abbrev pub names_at : List Lexeme → Option (List (List ℕ) × List Lexeme)
names_at ls = list_at name_word_at ls

-- a name
abbrev pub name_spelled : List ℕ → List Lexeme
name_spelled name = word name ∷ []

-- names with commas between them
abbrev pub names_spelled : List ℕ → List (List ℕ) → List Lexeme
names_spelled name names = parts_spelled name_spelled name names

-- a list of names
abbrev pub name_list_spelled : List (List ℕ) → List Lexeme
name_list_spelled names = list_spelled name_spelled names

-- a word that may stand in place of a name
abbrev pub IsFree : List ℕ → Type 0
IsFree name = is_reserved name ≡ false

-- some words, each of which may stand in place of a name
abbrev pub AreNameWords : List (List ℕ) → Type 0
AreNameWords names = AllByRecursion IsFree names
