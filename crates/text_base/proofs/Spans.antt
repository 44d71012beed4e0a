-- Tokens are parts of their line, one behind the other.
use Rattle.std.proofs.Common.{◌≡◌, ℕ, zero, suc, ◌+◌, ◌-◌, ◌≤◌, Bool, true, false, cond, not, List, [], ◌∷◌, length, take, drop, Option, Some, None, Result, Ok, Err, refl, sym, ap, subst, ◌∙◌, arith, length-drop, nat_eq}
use Rattle.std.specs.Prelude.{position}
use Rattle.std.specs.List.{AllByRecursion, prefix_len}
use Rattle.std.specs.Char.{is_ascii_digit, is_ascii_lowercase}
use Rattle.std.proofs.lemmas.List.{drop-drop}
use Rattle.std.proofs.lemmas.List.Sums.{prefix_len-le-length}
use Rattle.text_base.specs.declared.token.Piece.{Piece}
use Rattle.text_base.specs.declared.token.Piece.TheVariants.{Blank, Comment, Run, Bad}
use Rattle.text_base.specs.declared.token.Kind.{Kind}
use Rattle.text_base.specs.declared.token.Kind.TheVariants.{Word, Number, Symbol}
use Rattle.cca_base.specs.Names.{is_word_byte}
use Rattle.text_base.specs.Bytes.{is_blank, is_symbol, is_comment_byte}
use Rattle.text_base.specs.Tokens.{Tok, is_pair, piece_of, StaysWithin, comment_end, with_first, tokens_of_piece, tokens_from, tokens_of, IsPartOf, Rise}

abbrev Fine : List ℕ → ℕ → List Tok → Type 0
Fine line from ts = AllByRecursion (IsPartOf line) ts × Rise from ts

Rise-le : (ts : List Tok) (m n : ℕ) → m ≤ n → Rise n ts → Rise m ts
Rise-le [] m n le r = tt
Rise-le (t ∷ ts) m n le r = (omega (arith, r.0), r.1)

choose : (b : Bool) (x y : Piece) (n : ℕ) → StaysWithin x n → StaysWithin y n → StaysWithin (cond b x y) n
choose true x y n p q = p
choose false x y n p q = q

pair_within : (b : ℕ) (bs : List ℕ) (y : Piece) → StaysWithin y (length bs) → StaysWithin (cond (is_pair b bs) (Run Symbol 1) y) (length bs)
pair_within b [] y q = q
pair_within b (c ∷ bs) y q = choose (is_pair b (c ∷ bs)) (Run Symbol 1) y (length (c ∷ bs)) (omega arith) q

piece_within : (b : ℕ) (bs : List ℕ) → StaysWithin (piece_of b bs) (length bs)
piece_within b bs =
    let n = length bs in
    choose (is_blank b) Blank _ n tt (choose (nat_eq b 35) Comment _ n tt
    (choose (is_ascii_lowercase b) (Run Word (prefix_len is_word_byte bs)) _ n (prefix_len-le-length is_word_byte bs)
    (choose (is_ascii_digit b) (Run Number (prefix_len is_ascii_digit bs)) _ n (prefix_len-le-length is_ascii_digit bs)
    (pair_within b bs _ (choose (is_symbol b) (Run Symbol 0) Bad n (omega arith) tt)))))

-- the list that a step gave
pub oks : (ts us : List Tok) → (let r : Result (List Tok) ℕ = Ok ts in r) ≡ Ok us → ts ≡ us
oks ts us e = cc

run_fine : (line : List ℕ) (b : ℕ) (bs : List ℕ) (kind : Kind) (more at : ℕ) (r : Result (List Tok) ℕ) (ts : List Tok) → b ∷ bs ≡ drop at line → more ≤ length bs → ((us : List Tok) → r ≡ Ok us → Fine line (at + 1 + more) us)
    → with_first (record { kind = kind; start = at; end = at + (more + 1); text = take (more + 1) (b ∷ bs) }) r ≡ Ok ts → Fine line (at + 0) ts
run_fine line b bs kind more at (Ok us) ts e le ih h =
    let t : Tok = record { kind = kind; start = at; end = at + (more + 1); text = take (more + 1) (b ∷ bs) } in
    let rest = ih us refl in
    let n : at + (more + 1) - at ≡ more + 1 = omega arith in
    let len : length (b ∷ bs) ≡ length line - at = ap length e ∙ length-drop at line in
    let part : IsPartOf line t = record { some = omega arith; within = omega (arith, len); text = ap (take (more + 1)) e ∙ ap (λ (k : ℕ). take k (drop at line)) (sym n) } in
    subst (Fine line (at + 0)) (oks (t ∷ us) ts h) ((part, rest.0), (omega arith, Rise-le us (at + (more + 1)) (at + 1 + more) (omega arith) rest.1))
run_fine line b bs kind more at (Err k) ts e le ih h = absurd cc

comment_fine : (line : List ℕ) (at : ℕ) (o : Option ℕ) (ts : List Tok) → comment_end at o ≡ Ok ts → Fine line (at + 0) ts
comment_fine line at None ts h = subst (Fine line (at + 0)) (oks [] ts h) (tt, tt)
comment_fine line at (Some k) ts h = absurd cc

piece_fine : (line : List ℕ) (b : ℕ) (bs : List ℕ) (at : ℕ) (ts : List Tok) (piece : Piece) → StaysWithin piece (length bs) → b ∷ bs ≡ drop at line → ((k : ℕ) (us : List Tok) → tokens_from k (at + 1) bs ≡ Ok us → Fine line (at + 1 + k) us)
    → tokens_of_piece piece at (b ∷ bs) (λ k. tokens_from k (at + 1) bs) ≡ Ok ts → Fine line (at + 0) ts
piece_fine line b bs at ts Blank w e ih h = let f = ih 0 ts h in (f.0, Rise-le ts (at + 0) (at + 1 + 0) (omega arith) f.1)
piece_fine line b bs at ts Comment w e ih h = comment_fine line at (position (λ x. not (is_comment_byte x)) (b ∷ bs)) ts h
piece_fine line b bs at ts (Run kind more) w e ih h = run_fine line b bs kind more at (tokens_from more (at + 1) bs) ts e w (ih more) h
piece_fine line b bs at ts Bad w e ih h = absurd cc

-- what is behind the first byte
pub one_less : (line : List ℕ) (b : ℕ) (bs : List ℕ) (at : ℕ) → b ∷ bs ≡ drop at line → bs ≡ drop (at + 1) line
one_less line b bs at e = ap (drop 1) e ∙ drop-drop 1 at line

fine : (line bs : List ℕ) (k at : ℕ) (ts : List Tok) → bs ≡ drop at line → tokens_from k at bs ≡ Ok ts → Fine line (at + k) ts
fine line [] zero at ts e h = subst (Fine line (at + 0)) (oks [] ts h) (tt, tt)
fine line [] (suc k) at ts e h = subst (Fine line (at + suc k)) (oks [] ts h) (tt, tt)
fine line (b ∷ bs) zero at ts e h = piece_fine line b bs at ts (piece_of b bs) (piece_within b bs) e (λ k us g. fine line bs k (at + 1) us (one_less line b bs at e) g) h
fine line (b ∷ bs) (suc k) at ts e h =
    let f = fine line bs k (at + 1) ts (one_less line b bs at e) h in
    (f.0, Rise-le ts (at + suc k) (at + 1 + k) (omega arith) f.1)

pub tokens_fine : (line : List ℕ) (ts : List Tok) → tokens_of line ≡ Ok ts → AllByRecursion (IsPartOf line) ts × Rise 0 ts
tokens_fine line ts h = fine line line 0 0 ts refl h
