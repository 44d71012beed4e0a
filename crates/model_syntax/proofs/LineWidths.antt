-- The tokens of a line, printed, are no longer than the line.
use Rattle.std.proofs.Common.{◌≡◌, ℕ, zero, suc, ◌+◌, ◌≤◌, Bool, true, false, cond, not, List, [], ◌∷◌, length, map, take, Option, Some, None, Result, Ok, Err, refl, sym, ap, subst, ◌∙◌, arith, nat_eq}
use Rattle.std.specs.Prelude.{position}
use Rattle.std.specs.List.{prefix_len}
use Rattle.std.specs.Char.{is_ascii_digit, is_ascii_lowercase}
use Rattle.std.proofs.lemmas.List.{length-take-le}
use Rattle.std.proofs.lemmas.List.Sums.{prefix_len-le-length}
use Rattle.std.proofs.lemmas.Bool.{or_left, or_right}
use Rattle.cca_base.specs.Names.{is_word_byte}
use Rattle.text_base.specs.declared.token.Kind.{Kind}
use Rattle.text_base.specs.declared.token.Kind.TheVariants.{Word, Number, Symbol}
use Rattle.text_base.specs.declared.token.Piece.{Piece}
use Rattle.text_base.specs.declared.token.Piece.TheVariants.{Blank, Comment, Run, Bad}
use Rattle.text_base.specs.Bytes.{is_blank, is_symbol, is_comment_byte}
use Rattle.text_base.specs.Lexemes.{Lexeme, lexeme, same_kind}
use Rattle.text_base.specs.Tokens.{Tok, is_pair, piece_of, comment_end, with_first, tokens_of_piece, tokens_from, tokens_of}
use Rattle.text_base.proofs.Spans.{oks}
use Rattle.model_syntax.proofs.Widths.{blank, blank_right, width, width_left}

-- nothing
abbrev pub is_nothing : List Lexeme → Bool
is_nothing [] = true
is_nothing (l ∷ ls) = false

-- nothing stands behind a number
abbrev pub numbers_end : List Lexeme → Bool
numbers_end [] = true
numbers_end (l ∷ ls) = cond (same_kind l.0 Number) (is_nothing ls) (numbers_end ls)

-- ---- where words end

-- behind some bytes no word goes on
abbrev Ends : ℕ → List ℕ → Type 0
Ends zero [] = Unit {0}
Ends (suc k) [] = Unit {0}
Ends zero (b ∷ bs) = is_word_byte b ≡ false
Ends (suc k) (b ∷ bs) = Ends k bs

ends_from : (b : ℕ) (bs : List ℕ) (t : Bool) → is_word_byte b ≡ t → Ends (prefix_len is_word_byte bs) bs → Ends (cond t (1 + prefix_len is_word_byte bs) 0) (b ∷ bs)
ends_from b bs true e ih = let n : 1 + prefix_len is_word_byte bs ≡ suc (prefix_len is_word_byte bs) = omega arith in rw n ih
ends_from b bs false e ih = e

word_ends : (bs : List ℕ) → Ends (prefix_len is_word_byte bs) bs
word_ends [] = tt
word_ends (b ∷ bs) = ends_from b bs (is_word_byte b) refl (word_ends bs)

-- what is known of a piece: a word or a number begins with a byte of words, and a word goes as far as it can
abbrev IsPiece : ℕ → List ℕ → Piece → Type 0
IsPiece b bs Blank = Unit {0}
IsPiece b bs Comment = Unit {0}
IsPiece b bs (Run Word more) = (more ≤ length bs) × (is_word_byte b ≡ true) × Ends more bs
IsPiece b bs (Run Number more) = (more ≤ length bs) × (is_word_byte b ≡ true)
IsPiece b bs (Run Symbol more) = more ≤ length bs
IsPiece b bs Bad = Unit {0}

choose : (b : ℕ) (bs : List ℕ) (t : Bool) (x y : Piece) → (t ≡ true → IsPiece b bs x) → IsPiece b bs y → IsPiece b bs (cond t x y)
choose b bs true x y p q = p refl
choose b bs false x y p q = q

pair_piece : (b : ℕ) (bs : List ℕ) (y : Piece) → IsPiece b bs y → IsPiece b bs (cond (is_pair b bs) (Run Symbol 1) y)
pair_piece b [] y q = q
pair_piece b (c ∷ bs) y q = choose b (c ∷ bs) (is_pair b (c ∷ bs)) (Run Symbol 1) y (λ e. omega arith) q

letter : (b : ℕ) → is_ascii_lowercase b ≡ true → is_word_byte b ≡ true
letter b e = or_left _ _ (or_left _ _ e)

digit : (b : ℕ) → is_ascii_digit b ≡ true → is_word_byte b ≡ true
digit b e = or_left _ _ (or_right (is_ascii_lowercase b) _ e)

is_piece : (b : ℕ) (bs : List ℕ) → IsPiece b bs (piece_of b bs)
is_piece b bs =
    choose b bs (is_blank b) Blank _ (λ _. tt) (choose b bs (nat_eq b 35) Comment _ (λ _. tt)
    (choose b bs (is_ascii_lowercase b) (Run Word (prefix_len is_word_byte bs)) _ (λ e. (prefix_len-le-length is_word_byte bs, letter b e, word_ends bs))
    (choose b bs (is_ascii_digit b) (Run Number (prefix_len is_ascii_digit bs)) _ (λ e. (prefix_len-le-length is_ascii_digit bs, digit b e))
    (pair_piece b bs _ (choose b bs (is_symbol b) (Run Symbol 0) Bad (λ _. omega arith) tt)))))

-- ---- tokens

-- the tokens behind a word or a number, or behind something else, need no more than the bytes do
abbrev FitsFrom : ℕ → List ℕ → Bool → ℕ → List Tok → Type 0
FitsFrom at bs l k ts = tokens_from k at bs ≡ Ok ts → k ≤ length bs → (l ≡ true → Ends k bs) → numbers_end (map lexeme ts) ≡ true → width l (map lexeme ts) false + k ≤ length bs

-- a line with this first token
abbrev FirstFits : ℕ → List ℕ → Bool → List Tok → Type 0
FirstFits b bs l ts = (l ≡ true → is_word_byte b ≡ false) → numbers_end (map lexeme ts) ≡ true → width l (map lexeme ts) false ≤ length (b ∷ bs)

no_neighbour : (l : Bool) (b : ℕ) → (l ≡ true → is_word_byte b ≡ false) → is_word_byte b ≡ true → blank l true ≡ 0
no_neighbour true b h e = absurd (let f = sym (h refl) ∙ e in cc)
no_neighbour false b h e = refl

word_fits : (b : ℕ) (bs : List ℕ) (at more : ℕ) (l : Bool) (us : List Tok) (t : Tok) → t.kind ≡ Word → length t.text ≡ more + 1 → IsPiece b bs (Run Word more) → tokens_from more (at + 1) bs ≡ Ok us → FitsFrom (at + 1) bs true more us → FirstFits b bs l (t ∷ us)
word_fits b bs at more l us t k n p h ih g e =
    let rest = ih h p.0 (λ _. p.2) (ap (λ (x : Kind). cond (same_kind x Number) (is_nothing (map lexeme us)) (numbers_end (map lexeme us))) (sym k) ∙ e) in
    rw k (omega (arith, n, rest, no_neighbour l b g p.1))

number_fits : (b : ℕ) (bs : List ℕ) (more : ℕ) (l : Bool) (us : List Tok) (t : Tok) → t.kind ≡ Number → length t.text ≡ more + 1 → IsPiece b bs (Run Number more) → FirstFits b bs l (t ∷ us)
number_fits b bs more l [] t k n p g e = rw k (omega (arith, n, no_neighbour l b g p.1, p.0))
number_fits b bs more l (u ∷ us) t k n p g e = absurd (let f = ap (λ (x : Kind). cond (same_kind x Number) false (numbers_end (map lexeme (u ∷ us)))) (sym k) ∙ e in cc)

symbol_fits : (b : ℕ) (bs : List ℕ) (at more : ℕ) (l : Bool) (us : List Tok) (t : Tok) → t.kind ≡ Symbol → length t.text ≡ more + 1 → IsPiece b bs (Run Symbol more) → tokens_from more (at + 1) bs ≡ Ok us → FitsFrom (at + 1) bs false more us → FirstFits b bs l (t ∷ us)
symbol_fits b bs at more l us t k n p h ih g e =
    let rest = ih h p (λ f. absurd cc) (ap (λ (x : Kind). cond (same_kind x Number) (is_nothing (map lexeme us)) (numbers_end (map lexeme us))) (sym k) ∙ e) in
    rw k (omega (arith, n, rest, blank_right l))

run_length : (b : ℕ) (bs : List ℕ) (more : ℕ) → more ≤ length bs → length (take (more + 1) (b ∷ bs)) ≡ more + 1
run_length b bs more h = length-take-le (more + 1) (b ∷ bs) (omega arith)

token_at : Kind → ℕ → ℕ → ℕ → List ℕ → Tok
token_at kind at more b bs = record { kind = kind; start = at; end = at + (more + 1); text = take (more + 1) (b ∷ bs) }

run_fits : (b : ℕ) (bs : List ℕ) (at : ℕ) (kind : Kind) (more : ℕ) (l : Bool) (us ts : List Tok) (t : Tok)
    → t ≡ token_at kind at more b bs → IsPiece b bs (Run kind more) → ((l : Bool) → FitsFrom (at + 1) bs l more us) → tokens_from more (at + 1) bs ≡ Ok us → t ∷ us ≡ ts → FirstFits b bs l ts
unfolding token_at
run_fits b bs at Word more l us ts t s p ih h e =
    subst (FirstFits b bs l) e (word_fits b bs at more l us t (ap (λ (x : Tok). x.kind) s) (ap (λ (x : Tok). length x.text) s ∙ run_length b bs more p.0) p h (ih true))
run_fits b bs at Number more l us ts t s p ih h e =
    subst (FirstFits b bs l) e (number_fits b bs more l us t (ap (λ (x : Tok). x.kind) s) (ap (λ (x : Tok). length x.text) s ∙ run_length b bs more p.0) p)
run_fits b bs at Symbol more l us ts t s p ih h e =
    subst (FirstFits b bs l) e (symbol_fits b bs at more l us t (ap (λ (x : Tok). x.kind) s) (ap (λ (x : Tok). length x.text) s ∙ run_length b bs more p) p h (ih false))

with_first_fits : (b : ℕ) (bs : List ℕ) (at : ℕ) (kind : Kind) (more : ℕ) (l : Bool) (ts : List Tok) (r : Result (List Tok) ℕ) → r ≡ tokens_from more (at + 1) bs
    → IsPiece b bs (Run kind more) → ((l : Bool) (us : List Tok) → FitsFrom (at + 1) bs l more us) → with_first (token_at kind at more b bs) r ≡ Ok ts → FirstFits b bs l ts
with_first_fits b bs at kind more l ts (Ok us) s p ih h = run_fits b bs at kind more l us ts (token_at kind at more b bs) refl p (λ x. ih x us) (sym s) (oks (token_at kind at more b bs ∷ us) ts h)
with_first_fits b bs at kind more l ts (Err k) s p ih h = absurd cc

comment_fits : (b : ℕ) (bs : List ℕ) (at : ℕ) (l : Bool) (ts : List Tok) (o : Option ℕ) → comment_end at o ≡ Ok ts → FirstFits b bs l ts
comment_fits b bs at l ts None h = subst (FirstFits b bs l) (oks [] ts h) (λ g e. omega (arith, blank_right l))
comment_fits b bs at l ts (Some k) h = absurd cc

piece_fits : (b : ℕ) (bs : List ℕ) (at : ℕ) (l : Bool) (ts : List Tok) (piece : Piece) → IsPiece b bs piece → ((l : Bool) (k : ℕ) (us : List Tok) → FitsFrom (at + 1) bs l k us)
    → tokens_of_piece piece at (b ∷ bs) (λ k. tokens_from k (at + 1) bs) ≡ Ok ts → FirstFits b bs l ts
unfolding token_at
piece_fits b bs at l ts Blank p ih h g e = omega (arith, width_left (map lexeme ts) l false, ih false 0 ts h (omega arith) (λ f. absurd cc) e)
piece_fits b bs at l ts Comment p ih h g e = comment_fits b bs at l ts (position (λ x. not (is_comment_byte x)) (b ∷ bs)) h g e
piece_fits b bs at l ts (Run kind more) p ih h g e = with_first_fits b bs at kind more l ts (tokens_from more (at + 1) bs) refl p (λ l us. ih l more us) h g e
piece_fits b bs at l ts Bad p ih h g e = absurd cc

none_fits : (at : ℕ) (l : Bool) (k : ℕ) (ts : List Tok) → [] ≡ ts → k ≤ 0 → width l (map lexeme ts) false + k ≤ 0
none_fits at l k ts e h = subst (λ (x : List Tok). width l (map lexeme x) false + k ≤ 0) e (omega (arith, blank_right l))

fits_from : (bs : List ℕ) (at : ℕ) (l : Bool) (k : ℕ) (ts : List Tok) → FitsFrom at bs l k ts
fits_from [] at l zero ts h w g e = none_fits at l zero ts (oks [] ts h) w
fits_from [] at l (suc k) ts h w g e = none_fits at l (suc k) ts (oks [] ts h) w
fits_from (b ∷ bs) at l zero ts h w g e = omega (arith, piece_fits b bs at l ts (piece_of b bs) (is_piece b bs) (λ l k us. fits_from bs (at + 1) l k us) h g e)
fits_from (b ∷ bs) at l (suc k) ts h w g e = omega (arith, fits_from bs (at + 1) l k ts h (omega arith) g e)

pub line_width : (text : List ℕ) (ts : List Tok) → tokens_of text ≡ Ok ts → numbers_end (map lexeme ts) ≡ true → width false (map lexeme ts) false ≤ length text
line_width text ts h e = omega (arith, fits_from text 0 false 0 ts h (omega arith) (λ f. absurd cc) e)
