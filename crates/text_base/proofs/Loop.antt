-- Reading tokens one after the other, as a loop does.
use Rattle.std.proofs.Common.{◌≡◌, ℕ, zero, suc, ◌+◌, ◌-◌, ◌<◌, ◌≤◌, List, [], ◌∷◌, ◌++◌, length, get_or, take, drop, Result, Ok, Err, refl, sym, ap, ◌∙◌, append_assoc, append-nil, add-zero, arith}
use Rattle.std.proofs.lemmas.List.{take_rest, drop-drop}
use Rattle.list_laws.proofs.GoneThrough.{front_and_rest}
use Rattle.text_base.specs.declared.token.Piece.{Piece}
use Rattle.text_base.specs.declared.token.Kind.{Kind}
use Rattle.text_base.specs.declared.token.Piece.TheVariants.{Run}
use Rattle.text_base.specs.Ahead.{tokens_ahead}
use Rattle.text_base.specs.Tokens.{Tok, piece_of, with_first, tokens_of_piece, tokens_from, tokens_of}

-- what was read before, and what is still read
abbrev pub with_front : List Tok → Result (List Tok) ℕ → Result (List Tok) ℕ
with_front front (Ok ts) = Ok (front ++ ts)
with_front front (Err at) = Err at

-- what comes before covers k bytes
skip : (bs : List ℕ) (k at : ℕ) → tokens_from k at bs ≡ tokens_from 0 (at + k) (drop k bs)
skip [] zero at = refl
skip [] (suc k) at = refl
skip (b ∷ bs) zero at = rw add-zero refl
skip (b ∷ bs) (suc k) at =
    let e : at + 1 + k ≡ at + suc k = omega arith in
    skip bs k (at + 1) ∙ ap (λ (n : ℕ). tokens_from 0 n (drop k bs)) e

-- the tokens from a place on, by what begins there
abbrev pub rest_of : List ℕ → ℕ → Piece → Result (List Tok) ℕ
rest_of line at piece = tokens_of_piece piece at (drop at line) (λ k. tokens_from k (at + 1) (drop (at + 1) line))

step : (line : List ℕ) (at : ℕ) → at < length line → tokens_from 0 at (drop at line) ≡ rest_of line at (piece_of (get_or line at 0) (take (length line - (at + 1)) (drop (at + 1) line)))
step line at h =
    let e = front_and_rest line at h in
    ap (tokens_from 0 at) e
    ∙ ap (λ (bs : List ℕ). tokens_of_piece (piece_of (get_or line at 0) (drop (at + 1) line)) at bs (λ k. tokens_from k (at + 1) (drop (at + 1) line))) (sym e)
    ∙ ap (λ (bs : List ℕ). rest_of line at (piece_of (get_or line at 0) bs)) (sym (take_rest line (at + 1)))

-- the piece at a place
abbrev pub PieceIs : List ℕ → ℕ → Piece → Type 0
PieceIs line at piece = piece ≡ piece_of (get_or line at 0) (take (length line - (at + 1)) (drop (at + 1) line))

-- ---- the next token

-- the tokens from here on are those from an earlier place on
pub record IsAt (line : List ℕ) (from at : ℕ) : Type 0 where
  pub behind : from ≤ at
  pub within : at ≤ length line
  pub same : tokens_ahead line at ≡ tokens_ahead line from

by_place : (line : List ℕ) (from at : ℕ) (piece : Piece) → IsAt line from at → at < length line → PieceIs line at piece → rest_of line at piece ≡ tokens_ahead line from
by_place line from at piece r h p = ap (rest_of line at) p ∙ sym (step line at h) ∙ r.same

-- the token of a run, as the code makes it
abbrev run_token : List ℕ → ℕ → Kind → ℕ → Tok
run_token line at kind more = record { kind = kind; start = at; end = at + more + 1; text = take (at + more + 1 - at) (drop at line) }

run_first : (line : List ℕ) (at : ℕ) (kind : Kind) (more : ℕ) → rest_of line at (Run kind more) ≡ with_first (run_token line at kind more) (tokens_ahead line (at + more + 1))
run_first line at kind more =
    let e : at + 1 + more ≡ at + more + 1 = omega arith in
    let n : more + 1 ≡ at + more + 1 - at = omega arith in
    let m : at + (more + 1) ≡ at + more + 1 = omega arith in
    let t : Tok = record { kind = kind; start = at; end = at + (more + 1); text = take (more + 1) (drop at line) } in
    let t-is : t ≡ run_token line at kind more =
    ap (λ (k : ℕ). record { kind = kind; start = at; end = k; text = take (more + 1) (drop at line) }) m
    ∙ ap (λ (k : ℕ). record { kind = kind; start = at; end = at + more + 1; text = take k (drop at line) }) n in
    let tail : tokens_from more (at + 1) (drop (at + 1) line) ≡ tokens_ahead line (at + more + 1) =
    skip (drop (at + 1) line) more (at + 1) ∙ ap (tokens_from 0 (at + 1 + more)) (drop-drop more (at + 1) line) ∙ ap (λ (k : ℕ). tokens_from 0 k (drop k line)) e in
    ap (λ (x : Tok). with_first x (tokens_from more (at + 1) (drop (at + 1) line))) t-is ∙ ap (with_first (run_token line at kind more)) tail

-- a run at the place is the next token
pub run_here : (line : List ℕ) (from at : ℕ) (kind : Kind) (more : ℕ) → IsAt line from at → at < length line → more ≤ length line - (at + 1) → PieceIs line at (Run kind more)
    → (from < at + more + 1) × (at + more + 1 ≤ length line) × (tokens_ahead line from ≡ with_first (run_token line at kind more) (tokens_ahead line (at + more + 1)))
run_here line from at kind more r h le p = (omega (arith, r.behind), omega (arith, h, le), sym (by_place line from at (Run kind more) r h p) ∙ run_first line at kind more)

-- ---- all tokens

-- what the loop keeps
pub record IsReading (line : List ℕ) (front : List Tok) (at : ℕ) : Type 0 where
  pub within : at ≤ length line
  pub same : with_front front (tokens_ahead line at) ≡ tokens_of line

regroup : (front : List Tok) (t : Tok) (r : Result (List Tok) ℕ) → with_front front (with_first t r) ≡ with_front (front ++ t ∷ []) r
regroup front t (Ok ts) = ap (λ (l : List Tok). Ok l) (simp append_assoc)
regroup front t (Err at) = refl

-- one token more
pub after_token : (line : List ℕ) (front : List Tok) (at : ℕ) (t : Tok) → IsReading line front at → t.end ≤ length line → tokens_ahead line at ≡ with_first t (tokens_ahead line t.end) → IsReading line (front ++ t ∷ []) t.end
after_token line front at t r within first = record {
  within = within;
  same = sym (regroup front t (tokens_ahead line t.end)) ∙ ap (with_front front) (sym first) ∙ r.same;
}

-- no token more
pub at_end : (line : List ℕ) (front : List Tok) (at : ℕ) → IsReading line front at → tokens_ahead line at ≡ Ok [] → tokens_of line ≡ Ok front
at_end line front at r none = sym r.same ∙ ap (with_front front) none ∙ ap (λ (l : List Tok). Ok l) (simp append-nil)

-- a byte that belongs to nothing
pub at_bad : (line : List ℕ) (front : List Tok) (at bad : ℕ) → IsReading line front at → tokens_ahead line at ≡ Err bad → tokens_of line ≡ Err bad
at_bad line front at bad r none = sym r.same ∙ ap (with_front front) none
