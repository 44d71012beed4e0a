-- Tokens that are read one by one from the start of a line.
use Rattle.std.proofs.Common.{◌≡◌, ℕ, ◌≤◌, List, [], ◌∷◌, ◌++◌, length}
use Rattle.text_base.specs.declared.token.Token.{Token}
use Rattle.text_base.specs.Tokens.{Tok, token_view, with_first}
use Rattle.text_base.specs.Ahead.{tokens_ahead}
use Rattle.text_base.proofs.Loop.{IsReading, after_token}

-- some tokens were read before the place
abbrev pub IsRead : List ℕ → ℕ → Type 0
IsRead line at = (front : List Tok) × IsReading line front at

pub read_more : (line : List ℕ) (at : ℕ) (t : Token) → IsRead line at → t.end ≤ length line → tokens_ahead line at ≡ with_first (token_view t) (tokens_ahead line t.end) → IsRead line t.end
read_more line at t r within first = (r.0 ++ token_view t ∷ [], after_token line r.0 at (token_view t) r.1 within first)
