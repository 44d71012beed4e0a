-- What of a line is accounted for: its tokens, each as long as it can be, its blanks and its comment.
use Rattle.std.specs.Prelude.{◌≡◌, ◌≢◌, ◌⊎◌, ℕ, ◌-◌, ◌<◌, ◌≤◌, false, IsTrue, List, length, take, drop, slice_index, Contains, Ok}
use Rattle.std.specs.List.{AllByRecursion}
use Rattle.text_base.specs.declared.token.Kind.{Kind}
use Rattle.text_base.specs.Bytes.{is_blank, is_comment_byte}
use Rattle.text_base.specs.Tokens.{Tok, tokens_of, is_of_kind}

-- the place is in one of the tokens
abbrev pub IsInToken : List Tok → ℕ → Type 0
IsInToken ts k = (t : Tok) × Contains ts t × (t.start ≤ k) × (k < t.end)

-- a # stands at the place, outside the tokens
abbrev pub IsHashOutside : List ℕ → List Tok → ℕ → Type 0
IsHashOutside line ts k = (slice_index line k ≡ 35) × (IsInToken ts k → ⊥)

-- the comment begins at the first # outside the tokens
pub record BeginsComment (line : List ℕ) (ts : List Tok) (k : ℕ) : Type 0 where
  pub here : IsHashOutside line ts k
  pub first : (j : ℕ) → j < k → IsHashOutside line ts j → ⊥

-- the place is the one that begins the comment or lies behind it, and its byte may stand in a comment
abbrev pub IsInComment : List ℕ → List Tok → ℕ → Type 0
IsInComment line ts k = (j : ℕ) × BeginsComment line ts j × (j ≤ k) × IsTrue (is_comment_byte (slice_index line k))

-- the place is in a token, is a blank or is in the comment
abbrev pub BelongsToLine : List ℕ → List Tok → ℕ → Type 0
BelongsToLine line ts k = IsInToken ts k ⊎ (IsTrue (is_blank (slice_index line k)) ⊎ IsInComment line ts k)

-- the token stands before the place
abbrev pub StandsBefore : ℕ → Tok → Type 0
StandsBefore k t = t.end ≤ k

-- a comment begins before the place
abbrev pub HasCommentBefore : List ℕ → List Tok → ℕ → Type 0
HasCommentBefore line ts at = (j : ℕ) × (j < at) × BeginsComment line ts j

-- the byte at the place is no blank, no # and no first byte of a token of any kind and length
pub record BeginsNothing (line : List ℕ) (at : ℕ) : Type 0 where
  pub blank : is_blank (slice_index line at) ≡ false
  pub hash : slice_index line at ≢ 35
  pub token : (kind : Kind) (n : ℕ) → at < n → n ≤ length line → is_of_kind kind (take (n - at) (drop at line)) ≡ false

-- the byte at the place belongs to nothing: behind the begin of a comment it may not stand there, and elsewhere nothing begins with it
pub record BelongsToNothing (line : List ℕ) (ts : List Tok) (at : ℕ) : Type 0 where
  pub commented : HasCommentBefore line ts at → is_comment_byte (slice_index line at) ≡ false
  pub elsewhere : (HasCommentBefore line ts at → ⊥) → BeginsNothing line at

-- a token's bytes with any more of those behind it are not of its kind
abbrev pub IsLongest : List ℕ → Tok → Type 0
IsLongest line t = (n : ℕ) → t.end < n → n ≤ length line → is_of_kind t.kind (take (n - t.start) (drop t.start line)) ≡ false

-- the line has tokens up to the place, each longest in the whole line, and the byte there belongs to nothing
pub record StopsAt (line : List ℕ) (at : ℕ) : Type 0 where
  pub within : at < length line
  pub before : (ts : List Tok) × (tokens_of (take at line) ≡ Ok ts) × AllByRecursion (IsLongest line) ts × BelongsToNothing line ts at
