-- Lexemes that are joined are read as they were.
use Rattle.std.proofs.Common.{◌≡◌, ℕ, suc, ◌+◌, Bool, true, false, ◌&&◌, ◌||◌, if◌then◌else◌, List, [], ◌∷◌, ◌++◌, length, map, take, Result, Ok, Err, refl, sym, ap, subst, ◌∙◌, arith, nat_eq, add-one}
use Rattle.std.specs.List.{prefix_len, list_all, list_any, AllByRecursion}
use Rattle.std.specs.Str.{bytes_eq}
use Rattle.std.specs.Char.{is_ascii_digit, is_ascii_lowercase}
use Rattle.std.proofs.Math.Seq.{take-append_seam}
use Rattle.std.proofs.Math.Dec.{leb}
use Rattle.std.proofs.lemmas.Bool.{and_parts, ne_eqb, leb-true, lt-leb, or_parts}
use Rattle.std.proofs.lemmas.Slice.Eq.{bytes_eq-Decides}
use Rattle.cca_base.specs.Names.{is_word_byte, is_word}
use Rattle.text_base.specs.declared.token.Kind.{Kind}
use Rattle.text_base.specs.declared.token.Kind.TheVariants.{Word, Number, Symbol}
use Rattle.text_base.specs.declared.token.Piece.TheVariants.{Run}
use Rattle.text_base.specs.Tokens.{Tok, piece_of, with_first, tokens_of_piece, tokens_from, tokens_of, symbols, is_of_kind, is_digits}
use Rattle.text_base.specs.Lexemes.{Lexeme, lexeme, symbol}
use Rattle.model_syntax.specs.Printing.{joined}
use Rattle.model_syntax.specs.RoundTrip.{AreOfTheirKinds, AreTokens}
use Rattle.model_syntax.proofs.PrintedText.{joined_behind, joined_first}

-- bytes that belong to what came before are skipped
skipped : (xs ys : List ℕ) (at : ℕ) → tokens_from (length xs) at (xs ++ ys) ≡ tokens_from 0 (at + length xs) ys
skipped [] ys at = ap (λ n. tokens_from 0 n ys) (omega arith)
skipped (x ∷ xs) ys at = skipped xs ys (at + 1) ∙ ap (λ n. tokens_from 0 n ys) (omega arith)

put_first : (t : Tok) (l : Lexeme) (ls : List Lexeme) (r : Result (List Tok) ℕ) → lexeme t ≡ l → AreTokens ls r → AreTokens (l ∷ ls) (with_first t r)
put_first t l ls (Ok ts) e h = ap (λ x. x ∷ map lexeme ts) e ∙ ap (λ xs. l ∷ xs) h
put_first t l ls (Err at) e h = h

-- the lexemes of bytes at whatever place
abbrev AreRead : List Lexeme → List ℕ → Type 0
AreRead ls bytes = (at : ℕ) → AreTokens ls (tokens_from 0 at bytes)

-- a run of bytes before others
run_read : (kind : Kind) (b : ℕ) (bs rest : List ℕ) (ls : List Lexeme) → piece_of b (bs ++ rest) ≡ Run kind (length bs) → AreRead ls rest → AreRead ((kind, b ∷ bs) ∷ ls) (b ∷ bs ++ rest)
run_read kind b bs rest ls e h at =
    let after : ℕ → Result (List Tok) ℕ = λ k. tokens_from k (at + 1) (bs ++ rest) in
    let t : Tok = record { kind = kind; start = at; end = at + (length bs + 1); text = take (length bs + 1) (b ∷ bs ++ rest) } in
    let text : take (length bs + 1) (b ∷ bs ++ rest) ≡ b ∷ bs = rw (add-one (length bs)) (ap (λ xs. b ∷ xs) (take-append_seam bs rest)) in
    subst (AreTokens ((kind, b ∷ bs) ∷ ls)) (sym (ap (λ p. tokens_of_piece p at (b ∷ bs ++ rest) after) e))
    (put_first t (kind, b ∷ bs) ls (after (length bs)) (ap (λ xs. (kind, xs)) text) (subst (AreTokens ls) (sym (skipped bs rest (at + 1))) (h (at + 1 + length bs))))

-- ---- words and numbers end

-- no word and no number goes on
abbrev Stops : List ℕ → Type 0
Stops [] = Unit {0}
Stops (b ∷ bs) = is_word_byte b ≡ false

digit_stops : (b : ℕ) → is_word_byte b ≡ false → is_ascii_digit b ≡ false
digit_stops b h = (or_parts (is_ascii_lowercase b) (is_ascii_digit b) (or_parts (is_ascii_lowercase b || is_ascii_digit b) (nat_eq b 95) h).0).1

counted : (p : ℕ → Bool) (bs rest : List ℕ) → list_all p bs ≡ true → prefix_len p rest ≡ 0 → prefix_len p (bs ++ rest) ≡ length bs
counted p [] rest h e = e
counted p (b ∷ bs) rest h e =
    let parts = and_parts (p b) (list_all p bs) h in
    let one : 1 + prefix_len p (bs ++ rest) ≡ suc (length bs) = let ih = counted p bs rest parts.1 e in omega (arith, ih) in
    rw parts.0 one

word_stops : (rest : List ℕ) → Stops rest → prefix_len is_word_byte rest ≡ 0
word_stops [] h = refl
word_stops (b ∷ bs) h = rw h refl

number_stops : (rest : List ℕ) → Stops rest → prefix_len is_ascii_digit rest ≡ 0
number_stops [] h = refl
number_stops (b ∷ bs) h = rw (digit_stops b h) refl

is_not : (b n : ℕ) → (b ≡ n → ⊥) → nat_eq b n ≡ false
is_not = ne_eqb

word_piece : (b : ℕ) (xs : List ℕ) → is_ascii_lowercase b ≡ true → piece_of b xs ≡ Run Word (prefix_len is_word_byte xs)
word_piece b xs h =
    let range = and_parts _ _ h in
    let low = leb-true 97 b range.0 in
    let a : nat_eq b 32 ≡ false = is_not b 32 (λ e. omega (arith, e, low)) in
    let c : nat_eq b 9 ≡ false = is_not b 9 (λ e. omega (arith, e, low)) in
    let d : nat_eq b 35 ≡ false = is_not b 35 (λ e. omega (arith, e, low)) in
    rw (a, c, d, h) refl

number_piece : (b : ℕ) (xs : List ℕ) → is_ascii_digit b ≡ true → piece_of b xs ≡ Run Number (prefix_len is_ascii_digit xs)
number_piece b xs h =
    let range = and_parts _ _ h in
    let low = leb-true 48 b range.0 in
    let high = leb-true b 57 range.1 in
    let a : nat_eq b 32 ≡ false = is_not b 32 (λ e. omega (arith, e, low)) in
    let c : nat_eq b 9 ≡ false = is_not b 9 (λ e. omega (arith, e, low)) in
    let d : nat_eq b 35 ≡ false = is_not b 35 (λ e. omega (arith, e, low)) in
    let f : is_ascii_lowercase b ≡ false = ap (λ t. t && leb b 122) (lt-leb 97 b (omega (arith, high))) in
    rw (a, c, d, f, h) refl

word_read : (text rest : List ℕ) (ls : List Lexeme) → is_word text ≡ true → Stops rest → AreRead ls rest → AreRead ((Word, text) ∷ ls) (text ++ rest)
word_read [] rest ls h s r = absurd cc
word_read (b ∷ bs) rest ls h s r =
    let parts = and_parts (is_ascii_lowercase b) (list_all is_word_byte bs) h in
    run_read Word b bs rest ls (word_piece b (bs ++ rest) parts.0 ∙ ap (λ n. Run Word n) (counted is_word_byte bs rest parts.1 (word_stops rest s))) r

number_read : (text rest : List ℕ) (ls : List Lexeme) → is_digits text ≡ true → Stops rest → AreRead ls rest → AreRead ((Number, text) ∷ ls) (text ++ rest)
number_read [] rest ls h s r = absurd cc
number_read (b ∷ bs) rest ls h s r =
    let parts = and_parts (is_ascii_digit b) (list_all is_ascii_digit bs) h in
    run_read Number b bs rest ls (number_piece b (bs ++ rest) parts.0 ∙ ap (λ n. Run Number n) (counted is_ascii_digit bs rest parts.1 (number_stops rest s))) r

-- ---- symbols

-- what holds of each symbol holds of the text of a symbol
pub one_of : (P : List ℕ → Type 0) (text : List ℕ) (ss : List (List ℕ)) → AllByRecursion P ss → list_any (bytes_eq text) ss ≡ true → P text
one_of P text [] each h = absurd cc
one_of P text (s ∷ ss) each h =
    elim (bytes_eq text s) as (λ t. bytes_eq text s ≡ t → (t || list_any (bytes_eq text) ss) ≡ true → P text) [
      | true ↦ (λ e k. subst P (sym ((bytes_eq-Decides text s).0 e)) each.0)
      | false ↦ (λ e k. one_of P text ss each.1 k)
    ] refl h

one_sign : (b : ℕ) (rest : List ℕ) → (piece_of b [] ≡ Run Symbol 0) → ((c : ℕ) (cs : List ℕ) → piece_of b (c ∷ cs) ≡ Run Symbol 0) → piece_of b rest ≡ Run Symbol 0
one_sign b [] e f = e
one_sign b (c ∷ cs) e f = f c cs

symbol_read : (text rest : List ℕ) (ls : List Lexeme) → is_of_kind Symbol text ≡ true → AreRead ls rest → AreRead (symbol text ∷ ls) (text ++ rest)
symbol_read text rest ls h r =
    let sign : (b : ℕ) → piece_of b [] ≡ Run Symbol 0 → ((c : ℕ) (cs : List ℕ) → piece_of b (c ∷ cs) ≡ Run Symbol 0) → AreRead (symbol (b ∷ []) ∷ ls) (b ∷ rest) =
    λ b e f. run_read Symbol b [] rest ls (one_sign b rest e f) r
    in
    one_of (λ s. AreRead (symbol s ∷ ls) (s ++ rest)) text symbols (
      run_read Symbol 45 (62 ∷ []) rest ls refl r,
      (
        run_read Symbol 33 (61 ∷ []) rest ls refl r,
        (
          sign 61 refl (λ c cs. refl),
          (
            sign 44 refl (λ c cs. refl),
            (sign 40 refl (λ c cs. refl), (sign 41 refl (λ c cs. refl), (sign 123 refl (λ c cs. refl), (sign 125 refl (λ c cs. refl), tt)))),
          ),
        ),
      ),
    ) h

symbol_stops : (text rest : List ℕ) → is_of_kind Symbol text ≡ true → Stops (text ++ rest)
symbol_stops text rest h = one_of (λ s. Stops (s ++ rest)) text symbols (refl, (refl, (refl, (refl, (refl, (refl, (refl, (refl, tt)))))))) h

-- ---- all lexemes

-- behind a word or a number comes a space, a symbol or nothing
plain_stops : (ls : List Lexeme) → AreOfTheirKinds ls → Stops (joined_behind true ls)
plain_stops [] h = tt
plain_stops ((Word, text) ∷ ls) h = refl
plain_stops ((Number, text) ∷ ls) h = refl
plain_stops ((Symbol, text) ∷ ls) h = symbol_stops text (joined_behind false ls) (and_parts (is_of_kind Symbol text) _ h).0

-- a space is skipped
spaced : (ls : List Lexeme) (space : Bool) (text rest : List ℕ) → AreRead ls (text ++ rest) → AreRead ls (((if space then 32 ∷ [] else []) ++ text) ++ rest)
spaced ls true text rest r at = r (at + 1)
spaced ls false text rest r at = r at

behind_read : (ls : List Lexeme) (plain : Bool) → AreOfTheirKinds ls → AreRead ls (joined_behind plain ls)
behind_read [] plain h = λ at. refl
behind_read ((Word, text) ∷ ls) plain h =
    let parts = and_parts (is_of_kind Word text) (list_all (λ l. is_of_kind l.0 l.1) ls) h in
    let rest = joined_behind true ls in
    spaced ((Word, text) ∷ ls) (plain && true) text rest (word_read text rest ls parts.0 (plain_stops ls parts.1) (behind_read ls true parts.1))
behind_read ((Number, text) ∷ ls) plain h =
    let parts = and_parts (is_of_kind Number text) (list_all (λ l. is_of_kind l.0 l.1) ls) h in
    let rest = joined_behind true ls in
    spaced ((Number, text) ∷ ls) (plain && true) text rest (number_read text rest ls parts.0 (plain_stops ls parts.1) (behind_read ls true parts.1))
behind_read ((Symbol, text) ∷ ls) plain h =
    let parts = and_parts (is_of_kind Symbol text) (list_all (λ l. is_of_kind l.0 l.1) ls) h in
    let rest = joined_behind false ls in
    spaced ((Symbol, text) ∷ ls) (plain && false) text rest (symbol_read text rest ls parts.0 (behind_read ls false parts.1))

pub joined_read : (ls : List Lexeme) → AreOfTheirKinds ls → AreTokens ls (tokens_of (joined ls))
joined_read ls h = subst (λ bytes. AreTokens ls (tokens_of bytes)) (sym (joined_first ls)) (behind_read ls false h 0)
