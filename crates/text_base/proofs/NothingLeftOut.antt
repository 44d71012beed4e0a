-- Each place of a line that has tokens belongs to a token, is a blank or is in the comment.
use Rattle.std.proofs.Common.{◌≡◌, ◌⊎◌, ℕ, zero, suc, ◌+◌, ◌-◌, ◌<◌, ◌≤◌, true, not, List, [], ◌∷◌, length, get_or, take, drop, slice_index, Option, Some, None, Result, Ok, Err, IsTrue, inl, inr, refl, sym, ap, subst, ◌∙◌, arith, nat_lt, length-drop}
use Rattle.std.specs.Prelude.{position}
use Rattle.std.specs.List.{position_or_len}
use Rattle.std.proofs.lemmas.Bool.{cases_lt, not-true, not-false, ltb-false}
use Rattle.std.proofs.lemmas.List.{get_or-drop}
use Rattle.std.proofs.lemmas.List.Sums.{prefix_len_passes}
use Rattle.list_laws.proofs.Tests.{if_none}
use Rattle.text_base.specs.declared.token.Piece.{Piece}
use Rattle.text_base.specs.declared.token.Piece.TheVariants.{Blank, Comment, Run, Bad}
use Rattle.text_base.specs.declared.token.Kind.{Kind}
use Rattle.text_base.specs.Bytes.{is_blank, is_comment_byte}
use Rattle.text_base.specs.Tokens.{Tok, piece_of, comment_end, with_first, tokens_of_piece, tokens_from, tokens_of}
use Rattle.text_base.specs.Coverage.{IsInToken, BelongsToLine}
use Rattle.text_base.proofs.PieceBytes.{Says, piece_says, byte_at}
use Rattle.text_base.proofs.CommentBegins.{BeginsFrom, Steps, begins_whole, begins_before, begins_here, blank_is_other, in_first, over_byte, over_token}
use Rattle.text_base.proofs.Spans.{oks, one_less}

-- the place is in a token, is a blank or is in the comment, if nothing before the first place is looked at
abbrev BelongsFrom : List ℕ → ℕ → List Tok → ℕ → Type 0
BelongsFrom line from ts k = IsInToken ts k ⊎ (IsTrue (is_blank (slice_index line k)) ⊎ ((j : ℕ) × BeginsFrom line from ts j × (j ≤ k) × IsTrue (is_comment_byte (slice_index line k))))

abbrev Covers : List ℕ → ℕ → List Tok → Type 0
Covers line from ts = (k : ℕ) → from ≤ k → k < length line → BelongsFrom line from ts k

belongs_before : (line : List ℕ) (from : ℕ) (ts : List Tok) (to : ℕ) (us : List Tok) (k : ℕ) → Steps line from ts to us → BelongsFrom line to us k → BelongsFrom line from ts k
belongs_before line from ts to us k s (inl inside) = inl (s.more k inside)
belongs_before line from ts to us k s (inr (inl blank)) = inr (inl blank)
belongs_before line from ts to us k s (inr (inr c)) = inr (inr (c.0, begins_before line from ts to us c.0 s c.1, c.2, c.3))

-- where no byte fails the test of comments, each passes
all_comment : (bs : List ℕ) (i : ℕ) → position (λ x. not (is_comment_byte x)) bs ≡ None → i < length bs → is_comment_byte (get_or bs i 0) ≡ true
all_comment bs i none lt =
    let n = position_or_len (λ (x : ℕ). not (is_comment_byte x)) bs in
    let past : length bs ≤ n = ltb-false n (length bs) (if_none (nat_lt n (length bs)) n none) in
    not-false (is_comment_byte (get_or bs i 0)) (not-true (not (is_comment_byte (get_or bs i 0))) (prefix_len_passes (λ (x : ℕ). not (not (is_comment_byte x))) bs i 0 (omega arith)))

blank_covers : (line : List ℕ) (b : ℕ) (bs : List ℕ) (at : ℕ) (ts : List Tok) → is_blank b ≡ true → b ∷ bs ≡ drop at line → Covers line (at + 1) ts → Covers line at ts
blank_covers line b bs at ts blank e rest k low lt =
    let here = byte_at line at b bs e in
    elim (cases_lt at k) [
      | inl behind ↦ belongs_before line at ts (at + 1) ts k (over_byte line at ts (λ is. blank_is_other b blank (sym here ∙ is))) (rest k (omega arith) lt)
      | inr before ↦ let same : k ≡ at = omega arith in inr (inl (ap (λ (n : ℕ). is_blank (slice_index line n)) same ∙ ap is_blank here ∙ blank))
    ]

run_covers : (line : List ℕ) (b : ℕ) (bs : List ℕ) (kind : Kind) (more at : ℕ) (r : Result (List Tok) ℕ) (ts : List Tok) → ((us : List Tok) → r ≡ Ok us → Covers line (at + 1 + more) us)
    → with_first (record { kind = kind; start = at; end = at + (more + 1); text = take (more + 1) (b ∷ bs) }) r ≡ Ok ts → Covers line at ts
run_covers line b bs kind more at (Ok us) ts ih h =
    let t : Tok = record { kind = kind; start = at; end = at + (more + 1); text = take (more + 1) (b ∷ bs) } in
    let rest : Covers line (at + (more + 1)) us = subst (λ (n : ℕ). Covers line n us) (omega arith) (ih us refl) in
    subst (Covers line at) (oks (t ∷ us) ts h) (λ k low lt. elim (cases_lt k (at + (more + 1))) [
      | inl inside ↦ inl (in_first t us k low inside)
      | inr behind ↦ belongs_before line at (t ∷ us) (at + (more + 1)) us k (over_token line t us (omega arith)) (rest k behind lt)
    ])
run_covers line b bs kind more at (Err k) ts ih h = absurd cc

comment_covers : (line bs : List ℕ) (at : ℕ) (o : Option ℕ) (ts : List Tok) → slice_index line at ≡ 35 → bs ≡ drop at line → position (λ x. not (is_comment_byte x)) bs ≡ o → comment_end at o ≡ Ok ts → Covers line at ts
comment_covers line bs at None ts is e none h =
    let len : length bs ≡ length line - at = ap length e ∙ length-drop at line in
    subst (Covers line at) (oks [] ts h) (λ k low lt.
    let n : at + (k - at) ≡ k = omega arith in
    let byte : get_or bs (k - at) 0 ≡ slice_index line k = ap (λ (l : List ℕ). get_or l (k - at) 0) e ∙ get_or-drop at line (k - at) 0 ∙ ap (slice_index line) n in
    inr (inr (at, begins_here line at is, low, ap is_comment_byte (sym byte) ∙ all_comment bs (k - at) none (omega (arith, len)))))
comment_covers line bs at (Some k) ts is e none h = absurd cc

by_piece : (line : List ℕ) (b : ℕ) (bs : List ℕ) (at : ℕ) (ts : List Tok) (piece : Piece) → Says b bs piece → b ∷ bs ≡ drop at line → ((k : ℕ) (us : List Tok) → tokens_from k (at + 1) bs ≡ Ok us → Covers line (at + 1 + k) us)
    → tokens_of_piece piece at (b ∷ bs) (λ k. tokens_from k (at + 1) bs) ≡ Ok ts → Covers line at ts
by_piece line b bs at ts Blank p e ih h = blank_covers line b bs at ts p e (subst (λ (n : ℕ). Covers line n ts) (omega arith) (ih 0 ts h))
by_piece line b bs at ts Comment p e ih h = comment_covers line (b ∷ bs) at (position (λ x. not (is_comment_byte x)) (b ∷ bs)) ts (byte_at line at b bs e ∙ p) e refl h
by_piece line b bs at ts (Run kind more) p e ih h = run_covers line b bs kind more at (tokens_from more (at + 1) bs) ts (ih more) h
by_piece line b bs at ts Bad p e ih h = absurd cc

-- nothing stands behind the end
end_covers : (line : List ℕ) (from at : ℕ) (ts : List Tok) → at ≤ from → [] ≡ drop at line → Covers line from ts
end_covers line from at ts le e k low lt = absurd (omega (arith, ap length e, length-drop at line))

from_covers : (line bs : List ℕ) (k at : ℕ) (ts : List Tok) → bs ≡ drop at line → tokens_from k at bs ≡ Ok ts → Covers line (at + k) ts
from_covers line [] k at ts e h = end_covers line (at + k) at ts (omega arith) e
from_covers line (b ∷ bs) zero at ts e h =
    subst (λ (n : ℕ). Covers line n ts) (omega arith)
    (by_piece line b bs at ts (piece_of b bs) (piece_says b bs) e (λ k us g. from_covers line bs k (at + 1) us (one_less line b bs at e) g) h)
from_covers line (b ∷ bs) (suc k) at ts e h =
    subst (λ (n : ℕ). Covers line n ts) (omega arith) (from_covers line bs k (at + 1) ts (one_less line b bs at e) h)

belongs_whole : (line : List ℕ) (ts : List Tok) (k : ℕ) → BelongsFrom line 0 ts k → BelongsToLine line ts k
belongs_whole line ts k (inl inside) = inl inside
belongs_whole line ts k (inr (inl blank)) = inr (inl blank)
belongs_whole line ts k (inr (inr c)) = inr (inr (c.0, begins_whole line ts c.0 c.1, c.2, c.3))

pub tokens_cover_line : (line : List ℕ) (ts : List Tok) → tokens_of line ≡ Ok ts → (k : ℕ) → k < length line → BelongsToLine line ts k
tokens_cover_line line ts h k lt = belongs_whole line ts k (from_covers line line 0 0 ts refl h k (omega arith) lt)
