-- What the piece at a byte says of the bytes there, and that it stays the same where the line is cut behind it.
use Rattle.std.proofs.Common.{◌≡◌, ℕ, zero, suc, ◌≤◌, Bool, true, false, cond, List, [], ◌∷◌, get_or, take, drop, slice_index, ◌+◌, sym, refl, ap, ◌∙◌, arith, nat_eq, length-take}
use Rattle.std.specs.List.{prefix_len}
use Rattle.std.specs.Char.{is_ascii_digit, is_ascii_lowercase}
use Rattle.std.proofs.lemmas.Bool.{cond_both, eqb-true}
use Rattle.std.proofs.lemmas.List.{get_or-take, get_or-drop}
use Rattle.std.proofs.lemmas.List.Sums.{prefix_len-le-length, prefix_len_is, prefix_len_passes, prefix_len_stops}
use Rattle.text_base.specs.declared.token.Piece.{Piece}
use Rattle.text_base.specs.declared.token.Piece.TheVariants.{Blank, Comment, Run, Bad}
use Rattle.text_base.specs.declared.token.Kind.TheVariants.{Word, Number, Symbol}
use Rattle.cca_base.specs.Names.{is_word_byte}
use Rattle.text_base.specs.Bytes.{is_blank, is_symbol}
use Rattle.text_base.specs.Tokens.{is_pair, piece_of, StaysWithin}

-- nothing begins with the byte
pub record IsBad (b : ℕ) (bs : List ℕ) : Type 0 where
  pub blank : is_blank b ≡ false
  pub hash : nat_eq b 35 ≡ false
  pub letter : is_ascii_lowercase b ≡ false
  pub digit : is_ascii_digit b ≡ false
  pub pair : is_pair b bs ≡ false
  pub symbol : is_symbol b ≡ false

-- what a piece says of its bytes
abbrev pub Says : ℕ → List ℕ → Piece → Type 0
Says b bs Blank = is_blank b ≡ true
Says b bs Comment = b ≡ 35
Says b bs (Run kind more) = Unit {0}
Says b bs Bad = IsBad b bs

pub piece_says : (b : ℕ) (bs : List ℕ) → Says b bs (piece_of b bs)
piece_says b bs =
    cond_both (is_blank b) _ _ (Says b bs) (λ holds. holds) (λ blank.
    cond_both (nat_eq b 35) _ _ (Says b bs) (λ holds. eqb-true b 35 holds) (λ hash.
    cond_both (is_ascii_lowercase b) _ _ (Says b bs) (λ holds. tt) (λ letter.
    cond_both (is_ascii_digit b) _ _ (Says b bs) (λ holds. tt) (λ digit.
    cond_both (is_pair b bs) _ _ (Says b bs) (λ holds. tt) (λ pair.
    cond_both (is_symbol b) _ _ (Says b bs) (λ holds. tt) (λ symbol.
    record { blank = blank; hash = hash; letter = letter; digit = digit; pair = pair; symbol = symbol }))))))

prefix_cut : (p : ℕ → Bool) (bs : List ℕ) (m : ℕ) → prefix_len p bs ≤ m → prefix_len p (take m bs) ≡ prefix_len p bs
prefix_cut p bs m le =
    let n = prefix_len p bs in
    let within = prefix_len-le-length p bs in
    let len = length-take m bs in
    prefix_len_is p (take m bs) n 0 (omega (arith, within, len))
    (λ k lt. ap p (get_or-take m bs k 0 (omega (arith, lt, le))) ∙ prefix_len_passes p bs k 0 lt)
    (λ lt. ap p (get_or-take m bs n 0 (omega (arith, lt, len))) ∙ prefix_len_stops p bs 0 (omega (arith, lt, len)))

same_cond : (t : Bool) (x y x2 y2 : Piece) (m : ℕ) → StaysWithin (cond t x y) m → (StaysWithin x m → x2 ≡ x) → (StaysWithin y m → y2 ≡ y) → cond t x2 y2 ≡ cond t x y
same_cond true x y x2 y2 m w p q = p w
same_cond false x y x2 y2 m w p q = q w

-- a pair that is cut off within no byte is none
no_pair_cut : (t : Bool) (y y2 : Piece) → StaysWithin (cond t (Run Symbol 1) y) 0 → (StaysWithin y 0 → y2 ≡ y) → y2 ≡ cond t (Run Symbol 1) y
no_pair_cut true y y2 w q = absurd (omega arith)
no_pair_cut false y y2 w q = q w

pair_cut : (b : ℕ) (bs : List ℕ) (y y2 : Piece) (m : ℕ) → StaysWithin (cond (is_pair b bs) (Run Symbol 1) y) m → (StaysWithin y m → y2 ≡ y) → cond (is_pair b (take m bs)) (Run Symbol 1) y2 ≡ cond (is_pair b bs) (Run Symbol 1) y
pair_cut b [] y y2 zero w q = q w
pair_cut b [] y y2 (suc m) w q = q w
pair_cut b (c ∷ bs) y y2 zero w q = no_pair_cut (is_pair b (c ∷ bs)) y y2 w q
pair_cut b (c ∷ bs) y y2 (suc m) w q = same_cond (is_pair b (c ∷ bs)) (Run Symbol 1) y (Run Symbol 1) y2 (suc m) w (λ _. refl) q

-- a line cut behind a piece has the same piece there
pub piece_cut : (b : ℕ) (bs : List ℕ) (m : ℕ) → StaysWithin (piece_of b bs) m → piece_of b (take m bs) ≡ piece_of b bs
piece_cut b bs m w =
    same_cond (is_blank b) Blank _ Blank _ m w (λ _. refl) (λ w1.
    same_cond (nat_eq b 35) Comment _ Comment _ m w1 (λ _. refl) (λ w2.
    same_cond (is_ascii_lowercase b) _ _ _ _ m w2 (λ le. ap (λ (n : ℕ). Run Word n) (prefix_cut is_word_byte bs m le)) (λ w3.
    same_cond (is_ascii_digit b) _ _ _ _ m w3 (λ le. ap (λ (n : ℕ). Run Number n) (prefix_cut is_ascii_digit bs m le)) (λ w4.
    pair_cut b bs _ _ m w4 (λ w5. refl)))))

-- the byte at a place
pub byte_at : (line : List ℕ) (at : ℕ) (b : ℕ) (bs : List ℕ) → b ∷ bs ≡ drop at line → slice_index line at ≡ b
byte_at line at b bs e =
    let n : at + 0 ≡ at = omega arith in
    ap (slice_index line) (sym n) ∙ sym (get_or-drop at line 0 0) ∙ ap (λ (l : List ℕ). get_or l 0 0) (sym e)
