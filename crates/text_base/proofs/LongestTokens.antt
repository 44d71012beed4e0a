-- Each token is as long as it can be.
use Rattle.std.proofs.Common.{◌≡◌, ℕ, zero, suc, ◌+◌, ◌-◌, ◌<◌, ◌≤◌, Bool, true, false, cond, not, ◌&&◌, List, [], ◌∷◌, length, take, drop, Option, Some, None, Result, Ok, Err, refl, sym, ap, subst, ◌∙◌, arith, nat_eq, length-drop}
use Rattle.std.specs.Prelude.{position}
use Rattle.std.specs.List.{AllByRecursion, prefix_len, list_all}
use Rattle.std.specs.Char.{is_ascii_digit, is_ascii_lowercase}
use Rattle.std.proofs.Math.Bool.{and-false}
use Rattle.std.proofs.lemmas.Bool.{and_right, cond_both, eqb-true, false≢true, false_from_ne_true}
use Rattle.cca_base.specs.Names.{is_word_byte}
use Rattle.text_base.specs.declared.token.Piece.{Piece}
use Rattle.text_base.specs.declared.token.Piece.TheVariants.{Blank, Comment, Run, Bad}
use Rattle.text_base.specs.declared.token.Kind.{Kind}
use Rattle.text_base.specs.declared.token.Kind.TheVariants.{Word, Number, Symbol}
use Rattle.text_base.specs.Bytes.{is_blank, is_symbol, is_comment_byte}
use Rattle.text_base.specs.Tokens.{Tok, is_pair, piece_of, comment_end, with_first, tokens_of_piece, tokens_from, tokens_of, is_of_kind}
use Rattle.text_base.specs.Coverage.{IsLongest}
use Rattle.text_base.proofs.Spans.{oks, one_less}

-- a run with any more of the bytes behind it is not of its kind
abbrev pub IsLongestRun : List ℕ → Piece → Type 0
IsLongestRun bs Blank = Unit {0}
IsLongestRun bs Comment = Unit {0}
IsLongestRun bs (Run kind more) = (n : ℕ) → more + 1 < n → n ≤ length bs → is_of_kind kind (take n bs) ≡ false
IsLongestRun bs Bad = Unit {0}

-- more than the front that passes a test fails it
by_test : (p : ℕ → Bool) (b : ℕ) (bs : List ℕ) (t : Bool) (n : ℕ) → cond t (1 + prefix_len p bs) 0 < suc n → (prefix_len p bs < n → list_all p (take n bs) ≡ false) → (t && list_all p (take n bs)) ≡ false
by_test p b bs true n lt ih = ih (omega arith)
by_test p b bs false n lt ih = refl

more_fails : (p : ℕ → Bool) (bs : List ℕ) (n : ℕ) → prefix_len p bs < n → n ≤ length bs → list_all p (take n bs) ≡ false
more_fails p bs zero lt le = absurd (omega arith)
more_fails p [] (suc n) lt le = absurd (omega arith)
more_fails p (b ∷ bs) (suc n) lt le = by_test p b bs (p b) n lt (λ lt2. more_fails p bs n lt2 (omega arith))

three_no_symbol : (b c d : ℕ) (bs : List ℕ) → is_of_kind Symbol (b ∷ c ∷ d ∷ bs) ≡ false
three_no_symbol b c d bs = simp and-false

pair_longest : (b : ℕ) (bs : List ℕ) (n : ℕ) → 2 < n → n ≤ length (b ∷ bs) → is_of_kind Symbol (take n (b ∷ bs)) ≡ false
pair_longest b bs zero lt le = absurd (omega arith)
pair_longest b bs (suc zero) lt le = absurd (omega arith)
pair_longest b bs (suc (suc zero)) lt le = absurd (omega arith)
pair_longest b [] (suc (suc (suc n))) lt le = absurd (omega arith)
pair_longest b (c ∷ []) (suc (suc (suc n))) lt le = absurd (omega arith)
pair_longest b (c ∷ d ∷ bs) (suc (suc (suc n))) lt le = three_no_symbol b c d (take n bs)

-- a byte that is a symbol begins no pair
no_first : (b x : ℕ) → is_symbol x ≡ false → is_symbol b ≡ true → nat_eq b x ≡ false
no_first b x fails holds = false_from_ne_true (nat_eq b x) (λ e. false≢true (sym fails ∙ ap is_symbol (sym (eqb-true b x e)) ∙ holds))

two_no_symbol : (b c : ℕ) (bs : List ℕ) → is_symbol b ≡ true → is_of_kind Symbol (b ∷ c ∷ bs) ≡ false
two_no_symbol b c bs holds =
    let minus = no_first b 45 refl holds in
    let mark = no_first b 33 refl holds in
    simp (minus, mark, and-false)

one_longest : (b : ℕ) (bs : List ℕ) (n : ℕ) → is_symbol b ≡ true → 1 < n → n ≤ length (b ∷ bs) → is_of_kind Symbol (take n (b ∷ bs)) ≡ false
one_longest b bs zero holds lt le = absurd (omega arith)
one_longest b bs (suc zero) holds lt le = absurd (omega arith)
one_longest b [] (suc (suc n)) holds lt le = absurd (omega arith)
one_longest b (c ∷ bs) (suc (suc n)) holds lt le = two_no_symbol b c (take n bs) holds

word_longest : (b : ℕ) (bs : List ℕ) (n : ℕ) → prefix_len is_word_byte bs + 1 < n → n ≤ length (b ∷ bs) → is_of_kind Word (take n (b ∷ bs)) ≡ false
word_longest b bs zero lt le = absurd (omega arith)
word_longest b bs (suc n) lt le = and_right (is_ascii_lowercase b) _ (more_fails is_word_byte bs n (omega arith) (omega arith))

number_longest : (b : ℕ) (bs : List ℕ) (n : ℕ) → prefix_len is_ascii_digit bs + 1 < n → n ≤ length (b ∷ bs) → is_of_kind Number (take n (b ∷ bs)) ≡ false
number_longest b bs zero lt le = absurd (omega arith)
number_longest b bs (suc n) lt le = and_right (is_ascii_digit b) _ (more_fails is_ascii_digit bs n (omega arith) (omega arith))

pub piece_longest : (b : ℕ) (bs : List ℕ) → IsLongestRun (b ∷ bs) (piece_of b bs)
piece_longest b bs =
    let P : Piece → Type 0 = IsLongestRun (b ∷ bs) in
    cond_both (is_blank b) _ _ P (λ holds. tt) (λ blank.
    cond_both (nat_eq b 35) _ _ P (λ holds. tt) (λ hash.
    cond_both (is_ascii_lowercase b) _ _ P (λ holds n. word_longest b bs n) (λ letter.
    cond_both (is_ascii_digit b) _ _ P (λ holds n. number_longest b bs n) (λ digit.
    cond_both (is_pair b bs) _ _ P (λ holds n lt le. pair_longest b bs n (omega arith) le) (λ pair.
    cond_both (is_symbol b) _ _ P (λ holds n lt le. one_longest b bs n holds (omega arith) le) (λ symbol. tt))))))

abbrev pub AreLongest : List ℕ → List Tok → Type 0
AreLongest line ts = AllByRecursion (IsLongest line) ts

-- the token of a run that is as long as it can be
pub token_longest : (line : List ℕ) (b : ℕ) (bs : List ℕ) (kind : Kind) (more at : ℕ) (text : List ℕ) → b ∷ bs ≡ drop at line → IsLongestRun (b ∷ bs) (Run kind more) → IsLongest line (record { kind = kind; start = at; end = at + (more + 1); text = text })
token_longest line b bs kind more at text e p n lt le =
    let len : length (b ∷ bs) ≡ length line - at = ap length e ∙ length-drop at line in
    ap (λ (l : List ℕ). is_of_kind kind (take (n - at) l)) (sym e) ∙ p (n - at) (omega (arith, lt)) (omega (arith, len, le))

run_longest : (line : List ℕ) (b : ℕ) (bs : List ℕ) (kind : Kind) (more at : ℕ) (r : Result (List Tok) ℕ) (ts : List Tok) → b ∷ bs ≡ drop at line → IsLongestRun (b ∷ bs) (Run kind more) → ((us : List Tok) → r ≡ Ok us → AreLongest line us)
    → with_first (record { kind = kind; start = at; end = at + (more + 1); text = take (more + 1) (b ∷ bs) }) r ≡ Ok ts → AreLongest line ts
run_longest line b bs kind more at (Ok us) ts e p ih h =
    let t : Tok = record { kind = kind; start = at; end = at + (more + 1); text = take (more + 1) (b ∷ bs) } in
    let here : IsLongest line t = token_longest line b bs kind more at t.text e p in
    subst (AreLongest line) (oks (t ∷ us) ts h) (here, ih us refl)
run_longest line b bs kind more at (Err k) ts e p ih h = absurd cc

comment_longest : (line : List ℕ) (at : ℕ) (o : Option ℕ) (ts : List Tok) → comment_end at o ≡ Ok ts → AreLongest line ts
comment_longest line at None ts h = subst (AreLongest line) (oks [] ts h) tt
comment_longest line at (Some k) ts h = absurd cc

by_piece : (line : List ℕ) (b : ℕ) (bs : List ℕ) (at : ℕ) (ts : List Tok) (piece : Piece) → IsLongestRun (b ∷ bs) piece → b ∷ bs ≡ drop at line → ((k : ℕ) (us : List Tok) → tokens_from k (at + 1) bs ≡ Ok us → AreLongest line us)
    → tokens_of_piece piece at (b ∷ bs) (λ k. tokens_from k (at + 1) bs) ≡ Ok ts → AreLongest line ts
by_piece line b bs at ts Blank p e ih h = ih 0 ts h
by_piece line b bs at ts Comment p e ih h = comment_longest line at (position (λ x. not (is_comment_byte x)) (b ∷ bs)) ts h
by_piece line b bs at ts (Run kind more) p e ih h = run_longest line b bs kind more at (tokens_from more (at + 1) bs) ts e p (ih more) h
by_piece line b bs at ts Bad p e ih h = absurd cc

from_longest : (line bs : List ℕ) (k at : ℕ) (ts : List Tok) → bs ≡ drop at line → tokens_from k at bs ≡ Ok ts → AreLongest line ts
from_longest line [] zero at ts e h = subst (AreLongest line) (oks [] ts h) tt
from_longest line [] (suc k) at ts e h = subst (AreLongest line) (oks [] ts h) tt
from_longest line (b ∷ bs) zero at ts e h = by_piece line b bs at ts (piece_of b bs) (piece_longest b bs) e (λ k us g. from_longest line bs k (at + 1) us (one_less line b bs at e) g) h
from_longest line (b ∷ bs) (suc k) at ts e h = from_longest line bs k (at + 1) ts (one_less line b bs at e) h

pub tokens_longest : (line : List ℕ) (ts : List Tok) → tokens_of line ≡ Ok ts → AllByRecursion (IsLongest line) ts
tokens_longest line ts h = from_longest line line 0 0 ts refl h
