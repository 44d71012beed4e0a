-- A text that is made token by token.
use Rattle.std.specs.Prelude.{ℕ, zero, suc, Bool, false, ◌&&◌, if◌then◌else◌, List, [], ◌∷◌, ◌++◌}
use Rattle.text_base.specs.Lexemes.{Lexeme, word}
use Rattle.model_syntax.specs.Printing.{is_plain}

-- the bytes so far, and whether the last token of the line is a word or a number
pub record Draft : Type 0 where
  pub text : List ℕ
  pub plain : Bool

-- nothing
abbrev pub blank : Draft
blank = record { text = []; plain = false }

-- a token more, behind a space if there are two words or numbers
unfoldable pub with_token : Draft → Lexeme → Draft
with_token t l = record { text = t.text ++ (if t.plain && is_plain l then 32 ∷ [] else []) ++ l.1; plain = is_plain l }

-- some tokens more
abbrev pub with_tokens : Draft → List Lexeme → Draft
with_tokens t [] = t
with_tokens t (l ∷ ls) = with_tokens (with_token t l) ls

-- the line's end
unfoldable pub with_end : Draft → Draft
with_end t = record { text = t.text ++ 10 ∷ []; plain = false }

-- some lines more
abbrev pub with_lines : Draft → List (List Lexeme) → Draft
with_lines t [] = t
with_lines t (line ∷ lines) = with_lines (with_end (with_tokens t line)) lines

-- the word before a part, unless it is the first
abbrev pub word_before : ℕ → List ℕ → List Lexeme
word_before zero text = []
word_before (suc k) text = word text ∷ []
