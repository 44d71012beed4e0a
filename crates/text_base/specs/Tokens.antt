-- The tokens of a line.
use Rattle.std.specs.Prelude.{◌≡◌, ℕ, zero, suc, ◌+◌, Bool, not, List, [], ◌∷◌, take, Option, Some, None, Result, Ok, Err, ◌==◌, ◌&&◌, ◌||◌, if◌then◌else◌, position, ◌≤◌, ◌<◌, ◌-◌, length, drop, ⊤, false, codes, IsTrue}
use Rattle.std.specs.List.{prefix_len, list_all, list_any}
use Rattle.std.specs.Str.{bytes_eq}
use Rattle.std.specs.Char.{is_ascii_digit, is_ascii_lowercase}
use Rattle.text_base.specs.declared.token.Kind.{Kind}
use Rattle.text_base.specs.declared.token.Kind.TheVariants.{Word, Number, Symbol}
use Rattle.text_base.specs.declared.token.Token.{Token}
use Rattle.text_base.specs.declared.token.Piece.{Piece}
use Rattle.text_base.specs.declared.token.Piece.TheVariants.{Blank, Comment, Run, Bad}
use Rattle.text_base.specs.declared.token.TokenFault.{TokenFault}
use Rattle.text_base.specs.declared.token.TokenFault.TheVariants as faults
use Rattle.cca_base.specs.Names.{is_word_byte, is_word}
use Rattle.text_base.specs.Bytes.{is_blank, is_symbol, is_comment_byte}

-- a token: its kind, where it begins and ends, and its bytes
pub record Tok : Type 0 where
  pub kind : Kind
  pub start : ℕ
  pub end : ℕ
  pub text : List ℕ

-- a token of the code, without where its bytes lie
abbrev pub token_view : Token → Tok
token_view t = record { kind = t.kind; start = t.start; end = t.end; text = t.text.now }

-- -> or !=
abbrev pub is_pair : ℕ → List ℕ → Bool
is_pair b [] = not (0 == 0)
is_pair b (c ∷ bs) = ((b == 45) && (c == 62)) || ((b == 33) && (c == 61))

-- what begins at a byte: a run says how many more bytes it has, as many as can be
abbrev pub piece_of : ℕ → List ℕ → Piece
piece_of b bs =
    if is_blank b then Blank
    else (if b == 35 then Comment
    else (if is_ascii_lowercase b then Run Word (prefix_len is_word_byte bs)
    else (if is_ascii_digit b then Run Number (prefix_len is_ascii_digit bs)
    else (if is_pair b bs then Run Symbol 1
    else (if is_symbol b then Run Symbol 0
    else Bad)))))

-- a run stays within the bytes behind its first
abbrev pub StaysWithin : Piece → ℕ → Type 0
StaysWithin (Run kind more) n = more ≤ n
StaysWithin Blank n = ⊤
StaysWithin Comment n = ⊤
StaysWithin Bad n = ⊤

-- a comment runs to the end, and each of its bytes is a tab or 32 to 126
abbrev pub comment_end : ℕ → Option ℕ → Result (List Tok) ℕ
comment_end at None = Ok []
comment_end at (Some k) = Err (at + k)

-- a token before those that follow
abbrev pub with_first : Tok → Result (List Tok) ℕ → Result (List Tok) ℕ
with_first t (Ok ts) = Ok (t ∷ ts)
with_first t (Err at) = Err at

-- the tokens from a piece on; after k is what comes behind k more bytes
abbrev pub tokens_of_piece : Piece → ℕ → List ℕ → (ℕ → Result (List Tok) ℕ) → Result (List Tok) ℕ
tokens_of_piece Blank at bs after = after 0
tokens_of_piece Comment at bs after = comment_end at (position (λ b. not (is_comment_byte b)) bs)
tokens_of_piece (Run kind more) at bs after = with_first (record { kind = kind; start = at; end = at + (more + 1); text = take (more + 1) bs }) (after more)
tokens_of_piece Bad at bs after = Err at

-- the tokens of bytes at a place, the first of which belong to what came before; or the first place that belongs to nothing
abbrev pub tokens_from : ℕ → ℕ → List ℕ → Result (List Tok) ℕ
tokens_from covered at [] = Ok []
tokens_from (suc k) at (b ∷ bs) = tokens_from k (at + 1) bs
tokens_from zero at (b ∷ bs) = tokens_of_piece (piece_of b bs) at (b ∷ bs) (λ k. tokens_from k (at + 1) bs)

-- the tokens of a line, or the first place that belongs to nothing
abbrev pub tokens_of : List ℕ → Result (List Tok) ℕ
tokens_of line = tokens_from 0 0 line

-- a fault that may stand in place of what is read: the first bad place, or memory that ran out
abbrev pub Fails : TokenFault → Result (List Tok) ℕ → Type 0
Fails faults.Memory read = Unit {0}
Fails (faults.Bad b) read = read ≡ Err b.at

-- what `tokens` answers: the tokens, or why there are none
abbrev pub Gives : {X : Type 0} → (X → List Tok) → Result X TokenFault → Result (List Tok) ℕ → Type 0
Gives view (Ok x) read = read ≡ Ok (view x)
Gives view (Err e) read = Fails e read

-- a token is a part of the line
pub record IsPartOf (line : List ℕ) (t : Tok) : Type 0 where
  pub some : t.start < t.end
  pub within : t.end ≤ length line
  pub text : t.text ≡ take (t.end - t.start) (drop t.start line)

-- each begins behind the one before it
abbrev pub Rise : ℕ → List Tok → Type 0
Rise from [] = ⊤
Rise from (t ∷ ts) = (from ≤ t.start) × Rise t.end ts

-- the eight symbols
abbrev pub symbols : List (List ℕ)
symbols = codes "->" ∷ codes "!=" ∷ codes "=" ∷ codes "," ∷ codes "(" ∷ codes ")" ∷ codes "{" ∷ codes "}" ∷ []

-- one or more digits
abbrev pub is_digits : List ℕ → Bool
is_digits [] = false
is_digits (b ∷ bs) = is_ascii_digit b && list_all is_ascii_digit bs

-- bytes of a kind
abbrev pub is_of_kind : Kind → List ℕ → Bool
is_of_kind Word text = is_word text
is_of_kind Number text = is_digits text
is_of_kind Symbol text = list_any (bytes_eq text) symbols

-- a token's bytes are a word, digits or a symbol, as its kind says
abbrev pub IsOfItsKind : Tok → Type 0
IsOfItsKind t = IsTrue (is_of_kind t.kind t.text)
