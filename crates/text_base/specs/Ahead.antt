-- What of a line is ahead of a place.
use Rattle.std.specs.Prelude.{◌≡◌, ℕ, ◌<◌, ◌≤◌, List, [], map, length, drop, Option, Some, None, Result, Ok, Err}
use Rattle.text_base.specs.declared.token.Next.{Next}
use Rattle.text_base.specs.declared.token.Next.TheVariants.{End, Here, Bad}
use Rattle.text_base.specs.Tokens.{Tok, token_view, tokens_from, with_first}
use Rattle.text_base.specs.Lexemes.{Lexeme, lexeme}

-- the tokens of a line from a place on
abbrev pub tokens_ahead : List ℕ → ℕ → Result (List Tok) ℕ
tokens_ahead line at = tokens_from 0 at (drop at line)

-- the lexemes that were read
abbrev pub lexemes_read : Result (List Tok) ℕ → List Lexeme
lexemes_read (Ok ts) = map lexeme ts
lexemes_read (Err at) = []

-- the lexemes of a line from a place on
abbrev pub ahead : List ℕ → ℕ → List Lexeme
ahead line at = lexemes_read (tokens_ahead line at)

-- from the place on each byte belongs to something
pub record IsGood (line : List ℕ) (at : ℕ) : Type 0 where
  pub within : at ≤ length line
  pub tokens : List Tok
  pub read : tokens_ahead line at ≡ Ok tokens

-- no token, the first token before those behind it, or the first byte that belongs to nothing
abbrev pub IsNext : List ℕ → ℕ → Next → Type 0
IsNext line from End = tokens_ahead line from ≡ Ok []
IsNext line from (Here t) = (from < t.end) × (t.end ≤ length line) × (tokens_ahead line from ≡ with_first (token_view t) (tokens_ahead line t.end))
IsNext line from (Bad b) = tokens_ahead line from ≡ Err b.at

-- the lexemes of the tokens, or that there are none
abbrev pub AreLexemes : Option (List Lexeme) → Result (List Tok) ℕ → Type 0
AreLexemes None read = (at : ℕ) × (read ≡ Err at)
AreLexemes (Some ls) read = (ts : List Tok) × (read ≡ Ok ts) × (ls ≡ map lexeme ts)
