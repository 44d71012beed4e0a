-- Each token of a line stands before the place where the comment begins.
use Rattle.std.proofs.Common.{◌≡◌, ℕ, zero, suc, ◌+◌, true, not, List, [], ◌∷◌, take, drop, Option, Some, None, Result, Ok, Err, refl, sym, subst, ◌∙◌, arith}
use Rattle.std.specs.Prelude.{position}
use Rattle.std.specs.List.{AllByRecursion}
use Rattle.text_base.specs.declared.token.Piece.{Piece}
use Rattle.text_base.specs.declared.token.Piece.TheVariants.{Blank, Comment, Run, Bad}
use Rattle.text_base.specs.declared.token.Kind.{Kind}
use Rattle.text_base.specs.Bytes.{is_blank, is_comment_byte}
use Rattle.text_base.specs.Tokens.{Tok, piece_of, comment_end, with_first, tokens_of_piece, tokens_from, tokens_of}
use Rattle.text_base.specs.Coverage.{BeginsComment, StandsBefore}
use Rattle.text_base.proofs.PieceBytes.{Says, piece_says, byte_at}
use Rattle.text_base.proofs.CommentBegins.{BeginsFrom, begins_from, begins_behind, blank_is_other, over_byte, over_token}
use Rattle.text_base.proofs.Spans.{oks, one_less}

-- each token stands before the comment, if nothing before the first place is looked at
abbrev AreBeforeComment : List ℕ → ℕ → List Tok → Type 0
AreBeforeComment line from ts = (j : ℕ) → BeginsFrom line from ts j → AllByRecursion (StandsBefore j) ts

blank_before : (line : List ℕ) (b : ℕ) (bs : List ℕ) (at : ℕ) (ts : List Tok) → is_blank b ≡ true → b ∷ bs ≡ drop at line → AreBeforeComment line (at + 1) ts → AreBeforeComment line at ts
blank_before line b bs at ts blank e rest j begins =
    let here = byte_at line at b bs e in
    rest j (begins_behind line at ts (at + 1) ts j (over_byte line at ts (λ is. blank_is_other b blank (sym here ∙ is))) begins)

run_before : (line : List ℕ) (b : ℕ) (bs : List ℕ) (kind : Kind) (more at : ℕ) (r : Result (List Tok) ℕ) (ts : List Tok) → ((us : List Tok) → r ≡ Ok us → AreBeforeComment line (at + 1 + more) us)
    → with_first (record { kind = kind; start = at; end = at + (more + 1); text = take (more + 1) (b ∷ bs) }) r ≡ Ok ts → AreBeforeComment line at ts
run_before line b bs kind more at (Ok us) ts ih h =
    let t : Tok = record { kind = kind; start = at; end = at + (more + 1); text = take (more + 1) (b ∷ bs) } in
    let rest : AreBeforeComment line (at + (more + 1)) us = subst (λ (n : ℕ). AreBeforeComment line n us) (omega arith) (ih us refl) in
    subst (AreBeforeComment line at) (oks (t ∷ us) ts h) (λ j begins.
    let behind = begins_behind line at (t ∷ us) (at + (more + 1)) us j (over_token line t us (omega arith)) begins in
    (behind.low, rest j behind))
run_before line b bs kind more at (Err k) ts ih h = absurd cc

comment_before : (line : List ℕ) (at : ℕ) (o : Option ℕ) (ts : List Tok) → comment_end at o ≡ Ok ts → AreBeforeComment line at ts
comment_before line at None ts h = subst (AreBeforeComment line at) (oks [] ts h) (λ j begins. tt)
comment_before line at (Some k) ts h = absurd cc

by_piece : (line : List ℕ) (b : ℕ) (bs : List ℕ) (at : ℕ) (ts : List Tok) (piece : Piece) → Says b bs piece → b ∷ bs ≡ drop at line → ((k : ℕ) (us : List Tok) → tokens_from k (at + 1) bs ≡ Ok us → AreBeforeComment line (at + 1 + k) us)
    → tokens_of_piece piece at (b ∷ bs) (λ k. tokens_from k (at + 1) bs) ≡ Ok ts → AreBeforeComment line at ts
by_piece line b bs at ts Blank p e ih h = blank_before line b bs at ts p e (subst (λ (n : ℕ). AreBeforeComment line n ts) (omega arith) (ih 0 ts h))
by_piece line b bs at ts Comment p e ih h = comment_before line at (position (λ x. not (is_comment_byte x)) (b ∷ bs)) ts h
by_piece line b bs at ts (Run kind more) p e ih h = run_before line b bs kind more at (tokens_from more (at + 1) bs) ts (ih more) h
by_piece line b bs at ts Bad p e ih h = absurd cc

from_before : (line bs : List ℕ) (k at : ℕ) (ts : List Tok) → bs ≡ drop at line → tokens_from k at bs ≡ Ok ts → AreBeforeComment line (at + k) ts
from_before line [] zero at ts e h = subst (AreBeforeComment line (at + 0)) (oks [] ts h) (λ j begins. tt)
from_before line [] (suc k) at ts e h = subst (AreBeforeComment line (at + suc k)) (oks [] ts h) (λ j begins. tt)
from_before line (b ∷ bs) zero at ts e h =
    subst (λ (n : ℕ). AreBeforeComment line n ts) (omega arith)
    (by_piece line b bs at ts (piece_of b bs) (piece_says b bs) e (λ k us g. from_before line bs k (at + 1) us (one_less line b bs at e) g) h)
from_before line (b ∷ bs) (suc k) at ts e h =
    subst (λ (n : ℕ). AreBeforeComment line n ts) (omega arith) (from_before line bs k (at + 1) ts (one_less line b bs at e) h)

pub tokens_before_comment : (line : List ℕ) (ts : List Tok) → tokens_of line ≡ Ok ts → (j : ℕ) → BeginsComment line ts j → AllByRecursion (StandsBefore j) ts
tokens_before_comment line ts h j begins = from_before line line 0 0 ts refl h j (begins_from line ts j begins)
