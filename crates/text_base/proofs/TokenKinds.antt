-- Each token's bytes are of its kind.
use Rattle.std.proofs.Common.{◌≡◌, ℕ, zero, suc, ◌+◌, Bool, true, false, cond, not, ◌&&◌, ◌||◌, List, [], ◌∷◌, take, Option, Some, None, Result, Ok, Err, refl, sym, ap, subst, ◌∙◌, arith, nat_eq}
use Rattle.std.specs.Prelude.{position}
use Rattle.std.specs.List.{AllByRecursion, prefix_len, list_all}
use Rattle.std.specs.Char.{is_ascii_digit, is_ascii_lowercase}
use Rattle.std.proofs.lemmas.Bool.{and_from}
use Rattle.cca_base.specs.Names.{is_word_byte}
use Rattle.text_base.specs.declared.token.Piece.{Piece}
use Rattle.text_base.specs.declared.token.Piece.TheVariants.{Blank, Comment, Run, Bad}
use Rattle.text_base.specs.declared.token.Kind.TheVariants.{Word, Number, Symbol}
use Rattle.text_base.specs.Bytes.{is_blank, is_symbol, is_comment_byte}
use Rattle.text_base.specs.Tokens.{Tok, is_pair, piece_of, comment_end, with_first, tokens_of_piece, tokens_from, tokens_of, is_of_kind, IsOfItsKind}
use Rattle.text_base.proofs.Spans.{oks}

-- a run's bytes are of its kind
abbrev IsRunOfKind : List ℕ → Piece → Type 0
IsRunOfKind bs Blank = Unit {0}
IsRunOfKind bs Comment = Unit {0}
IsRunOfKind bs (Run kind more) = is_of_kind kind (take (suc more) bs) ≡ true
IsRunOfKind bs Bad = Unit {0}

choose : (bs : List ℕ) (t : Bool) (x y : Piece) → (t ≡ true → IsRunOfKind bs x) → IsRunOfKind bs y → IsRunOfKind bs (cond t x y)
choose bs true x y p q = p refl
choose bs false x y p q = q

-- the front of what passes a test passes it
front_by_test : (p : ℕ → Bool) (b : ℕ) (bs : List ℕ) (t : Bool) → p b ≡ t → list_all p (take (prefix_len p bs) bs) ≡ true → list_all p (take (cond t (1 + prefix_len p bs) 0) (b ∷ bs)) ≡ true
front_by_test p b bs true e ih =
    let n : 1 + prefix_len p bs ≡ suc (prefix_len p bs) = omega arith in
    rw n (rw e ih)
front_by_test p b bs false e ih = refl

front_passes : (p : ℕ → Bool) (bs : List ℕ) → list_all p (take (prefix_len p bs) bs) ≡ true
front_passes p [] = refl
front_passes p (b ∷ bs) = front_by_test p b bs (p b) refl (front_passes p bs)

-- two bytes that are one of the two pairs
pair_tests : (x y z w rest : Bool) → ((x && y) || (z && w)) ≡ true → (x && (y && true) || (z && (w && true) || rest)) ≡ true
pair_tests true true z w rest e = refl
pair_tests true false true true rest e = refl
pair_tests true false true false rest e = absurd cc
pair_tests true false false w rest e = absurd cc
pair_tests false y true true rest e = refl
pair_tests false y true false rest e = absurd cc
pair_tests false y false w rest e = absurd cc

-- one byte is no pair
no_pair : (x y r : Bool) → (x && false || (y && false || r)) ≡ r
no_pair true true r = refl
no_pair true false r = refl
no_pair false true r = refl
no_pair false false r = refl

six_tests : (a b c d e f : Bool) → (a && true || (b && true || (c && true || (d && true || (e && true || (f && true || false)))))) ≡ ((a || b) || ((c || d) || (e || f)))
six_tests true b c d e f = refl
six_tests false true c d e f = refl
six_tests false false true d e f = refl
six_tests false false false true e f = refl
six_tests false false false false true f = refl
six_tests false false false false false true = refl
six_tests false false false false false false = refl

pair_is_symbol : (b : ℕ) (bs : List ℕ) (y : Piece) → IsRunOfKind (b ∷ bs) y → IsRunOfKind (b ∷ bs) (cond (is_pair b bs) (Run Symbol 1) y)
pair_is_symbol b [] y q = q
pair_is_symbol b (c ∷ bs) y q = choose (b ∷ c ∷ bs) (is_pair b (c ∷ bs)) (Run Symbol 1) y (λ e. pair_tests (nat_eq b 45) (nat_eq c 62) (nat_eq b 33) (nat_eq c 61) _ e) q

pub one_symbol : (b : ℕ) → is_of_kind Symbol (b ∷ []) ≡ is_symbol b
one_symbol b = no_pair (nat_eq b 45) (nat_eq b 33) _ ∙ six_tests (nat_eq b 61) (nat_eq b 44) (nat_eq b 40) (nat_eq b 41) (nat_eq b 123) (nat_eq b 125)

piece_kind : (b : ℕ) (bs : List ℕ) → IsRunOfKind (b ∷ bs) (piece_of b bs)
piece_kind b bs =
    let all = b ∷ bs in
    choose all (is_blank b) Blank _ (λ _. tt) (choose all (nat_eq b 35) Comment _ (λ _. tt)
    (choose all (is_ascii_lowercase b) (Run Word (prefix_len is_word_byte bs)) _ (λ e. and_from (is_ascii_lowercase b) _ e (front_passes is_word_byte bs))
    (choose all (is_ascii_digit b) (Run Number (prefix_len is_ascii_digit bs)) _ (λ e. and_from (is_ascii_digit b) _ e (front_passes is_ascii_digit bs))
    (pair_is_symbol b bs _ (choose all (is_symbol b) (Run Symbol 0) Bad (λ e. one_symbol b ∙ e) tt)))))

abbrev OfKinds : List Tok → Type 0
OfKinds ts = AllByRecursion IsOfItsKind ts

run_of_kind : (t : Tok) (r : Result (List Tok) ℕ) (ts : List Tok) → IsOfItsKind t → ((us : List Tok) → r ≡ Ok us → OfKinds us) → with_first t r ≡ Ok ts → OfKinds ts
run_of_kind t (Ok us) ts k ih h = subst OfKinds (oks (t ∷ us) ts h) (k, ih us refl)
run_of_kind t (Err at) ts k ih h = absurd cc

comment_of_kind : (at : ℕ) (o : Option ℕ) (ts : List Tok) → comment_end at o ≡ Ok ts → OfKinds ts
comment_of_kind at None ts h = subst OfKinds (oks [] ts h) tt
comment_of_kind at (Some k) ts h = absurd cc

piece_of_kind : (at : ℕ) (bs : List ℕ) (after : ℕ → Result (List Tok) ℕ) (ts : List Tok) (piece : Piece) → IsRunOfKind bs piece → ((k : ℕ) (us : List Tok) → after k ≡ Ok us → OfKinds us) → tokens_of_piece piece at bs after ≡ Ok ts → OfKinds ts
piece_of_kind at bs after ts Blank p ih h = ih 0 ts h
piece_of_kind at bs after ts Comment p ih h = comment_of_kind at (position (λ x. not (is_comment_byte x)) bs) ts h
piece_of_kind at bs after ts (Run kind more) p ih h =
    let n : suc more ≡ more + 1 = omega arith in
    run_of_kind (record { kind = kind; start = at; end = at + (more + 1); text = take (more + 1) bs }) (after more) ts (ap (λ (k : ℕ). is_of_kind kind (take k bs)) (sym n) ∙ p) (ih more) h
piece_of_kind at bs after ts Bad p ih h = absurd cc

from_of_kinds : (bs : List ℕ) (k at : ℕ) (ts : List Tok) → tokens_from k at bs ≡ Ok ts → OfKinds ts
from_of_kinds [] zero at ts h = subst OfKinds (oks [] ts h) tt
from_of_kinds [] (suc k) at ts h = subst OfKinds (oks [] ts h) tt
from_of_kinds (b ∷ bs) zero at ts h = piece_of_kind at (b ∷ bs) (λ k. tokens_from k (at + 1) bs) ts (piece_of b bs) (piece_kind b bs) (λ k us g. from_of_kinds bs k (at + 1) us g) h
from_of_kinds (b ∷ bs) (suc k) at ts h = from_of_kinds bs k (at + 1) ts h

pub tokens_of_kinds : (line : List ℕ) (ts : List Tok) → tokens_of line ≡ Ok ts → AllByRecursion IsOfItsKind ts
tokens_of_kinds line ts h = from_of_kinds line 0 0 ts h
