-- Where a line has no tokens, the bytes before the place that is answered have some, and the byte there belongs to nothing.
use Rattle.std.proofs.Common.{◌≡◌, ℕ, zero, suc, ◌+◌, ◌-◌, ◌<◌, ◌≤◌, Bool, true, false, not, ◌&&◌, ◌||◌, List, [], ◌∷◌, length, get_or, take, drop, slice_index, Option, Some, None, Result, Ok, Err, refl, sym, ap, subst, ◌∙◌, arith, nat_eq, nat_lt, length-drop, length-take}
use Rattle.std.specs.Prelude.{position}
use Rattle.std.specs.List.{position_or_len}
use Rattle.std.specs.Char.{is_ascii_digit, is_ascii_lowercase}
use Rattle.std.proofs.Math.Bool.{and-false}
use Rattle.std.proofs.lemmas.Bool.{and_left, not-true, cond-false, le-ltb, eq-eqb, false≢true}
use Rattle.std.proofs.lemmas.List.{get_or-drop, get_or-take}
use Rattle.std.proofs.lemmas.List.Quantifiers.{position-Some}
use Rattle.std.proofs.lemmas.List.Sums.{prefix_len_is}
use Rattle.text_base.specs.declared.token.Piece.{Piece}
use Rattle.text_base.specs.declared.token.Piece.TheVariants.{Blank, Comment, Run, Bad}
use Rattle.text_base.specs.declared.token.Kind.{Kind}
use Rattle.text_base.specs.declared.token.Kind.TheVariants.{Word, Number, Symbol}
use Rattle.text_base.specs.Bytes.{is_blank, is_comment_byte}
use Rattle.text_base.specs.Tokens.{Tok, piece_of, StaysWithin, comment_end, with_first, tokens_of_piece, tokens_from, tokens_of, is_of_kind}
use Rattle.text_base.specs.Coverage.{BeginsNothing, StopsAt, IsLongest}
use Rattle.text_base.proofs.PieceBytes.{IsBad, Says, piece_says, piece_cut, byte_at}
use Rattle.text_base.proofs.CommentBegins.{BeginsFrom, Steps, begins_whole, begins_from, begins_before, begins_behind, begins_here, blank_is_other, over_byte, over_token}
use Rattle.text_base.proofs.LongestTokens.{IsLongestRun, AreLongest, piece_longest, token_longest}
use Rattle.text_base.proofs.Spans.{one_less}
use Rattle.text_base.proofs.TokenKinds.{one_symbol}

-- a comment begins before the place, if nothing before the first place is looked at
abbrev CommentFrom : List ℕ → ℕ → List Tok → ℕ → Type 0
CommentFrom line from ts bad = (j : ℕ) × (j < bad) × BeginsFrom line from ts j

-- the bytes from a place on stop at a byte that belongs to nothing, behind tokens that are longest in the whole line
record Stops (line : List ℕ) (from k at : ℕ) (bs : List ℕ) (bad : ℕ) (ts : List Tok) : Type 0 where
  low : from ≤ bad
  within : bad < length line
  before : tokens_from k at (take (bad - at) bs) ≡ Ok ts
  longest : AreLongest line ts
  commented : CommentFrom line from ts bad → is_comment_byte (slice_index line bad) ≡ false
  elsewhere : (CommentFrom line from ts bad → ⊥) → BeginsNothing line bad

abbrev StopsFrom : List ℕ → ℕ → ℕ → ℕ → List ℕ → ℕ → Type 0
StopsFrom line from k at bs bad = (ts : List Tok) × Stops line from k at bs bad ts

-- the place that was answered
errs : (m n : ℕ) → (let r : Result (List Tok) ℕ = Err m in r) ≡ Err n → m ≡ n
errs m n e = cc

-- a step keeps what is said of the byte
steps_back : (line : List ℕ) (from k at : ℕ) (bs : List ℕ) (bad : ℕ) (ts : List Tok) (to k2 at2 : ℕ) (cs : List ℕ) (us : List Tok) → Steps line from ts to us → tokens_from k at (take (bad - at) bs) ≡ Ok ts → AreLongest line ts → Stops line to k2 at2 cs bad us → Stops line from k at bs bad ts
steps_back line from k at bs bad ts to k2 at2 cs us s same longest r = record {
  low = omega (arith, s.ahead, r.low);
  within = r.within;
  before = same;
  longest = longest;
  commented = λ c. r.commented (c.0, c.1, begins_behind line from ts to us c.0 s c.2);
  elsewhere = λ none. r.elsewhere (λ c. none (c.0, c.1, begins_before line from ts to us c.0 s c.2));
}

-- the tokens of a line that is cut behind a piece begin with that piece
cut_step : (b : ℕ) (bs : List ℕ) (at m : ℕ) (piece : Piece) → piece ≡ piece_of b bs → StaysWithin piece m → tokens_from 0 at (take (suc m) (b ∷ bs)) ≡ tokens_of_piece piece at (b ∷ take m bs) (λ k. tokens_from k (at + 1) (take m bs))
cut_step b bs at m piece is within =
    let same : piece_of b (take m bs) ≡ piece = piece_cut b bs m (subst (λ (p : Piece). StaysWithin p m) is within) ∙ sym is in
    ap (λ (p : Piece). tokens_of_piece p at (b ∷ take m bs) (λ k. tokens_from k (at + 1) (take m bs))) same

blank_stops : (line : List ℕ) (b : ℕ) (bs : List ℕ) (at bad : ℕ) → Blank ≡ piece_of b bs → is_blank b ≡ true → b ∷ bs ≡ drop at line → StopsFrom line (at + 1) 0 (at + 1) bs bad → StopsFrom line at 0 at (b ∷ bs) bad
blank_stops line b bs at bad is blank e (ts, r) =
    let n : bad - at ≡ suc (bad - (at + 1)) = omega (arith, r.low) in
    let here = byte_at line at b bs e in
    let same : tokens_from 0 at (take (bad - at) (b ∷ bs)) ≡ Ok ts = ap (λ (k : ℕ). tokens_from 0 at (take k (b ∷ bs))) n ∙ cut_step b bs at (bad - (at + 1)) Blank is tt ∙ r.before in
    (ts, steps_back line at 0 at (b ∷ bs) bad ts (at + 1) 0 (at + 1) bs ts (over_byte line at ts (λ hash. blank_is_other b blank (sym here ∙ hash))) same r.longest r)

run_stops : (line : List ℕ) (b : ℕ) (bs : List ℕ) (kind : Kind) (more at bad : ℕ) → Run kind more ≡ piece_of b bs → b ∷ bs ≡ drop at line → StopsFrom line (at + 1 + more) more (at + 1) bs bad → StopsFrom line at 0 at (b ∷ bs) bad
run_stops line b bs kind more at bad is e (us, r) =
    let m : ℕ = bad - (at + 1) in
    let n : bad - at ≡ suc m = omega (arith, r.low) in
    let t : Tok = record { kind = kind; start = at; end = at + (more + 1); text = take (more + 1) (b ∷ take m bs) } in
    let same : tokens_from 0 at (take (bad - at) (b ∷ bs)) ≡ Ok (t ∷ us) = ap (λ (k : ℕ). tokens_from 0 at (take k (b ∷ bs))) n ∙ cut_step b bs at m (Run kind more) is (omega (arith, r.low)) ∙ ap (with_first t) r.before in
    let r2 : Stops line (at + (more + 1)) more (at + 1) bs bad us = subst (λ (from : ℕ). Stops line from more (at + 1) bs bad us) (omega arith) r in
    let here : IsLongest line t = token_longest line b bs kind more at t.text e (subst (IsLongestRun (b ∷ bs)) (sym is) (piece_longest b bs)) in
    (t ∷ us, steps_back line at 0 at (b ∷ bs) bad (t ∷ us) (at + (more + 1)) more (at + 1) bs us (over_token line t us (omega arith)) same (here, r.longest) r2)

run_result : (t : Tok) (r : Result (List Tok) ℕ) (bad : ℕ) → with_first t r ≡ Err bad → r ≡ Err bad
run_result t (Ok us) bad h = absurd cc
run_result t (Err k) bad h = h

-- no byte before the first that fails the test of comments fails it
none_before : (bs : List ℕ) (m : ℕ) → m < length bs → ((k : ℕ) → k < m → not (is_comment_byte (get_or bs k 0)) ≡ false) → position (λ x. not (is_comment_byte x)) (take m bs) ≡ None
none_before bs m lt passes =
    let cut = take m bs in
    let len : length cut ≡ m = omega (arith, length-take m bs) in
    let all : position_or_len (λ (x : ℕ). not (is_comment_byte x)) cut ≡ length cut = prefix_len_is (λ (x : ℕ). not (not (is_comment_byte x))) cut (length cut) 0 (omega arith)
    (λ k low. ap (λ (x : ℕ). not (not (is_comment_byte x))) (get_or-take m bs k 0 (omega (arith, len, low))) ∙ ap not (passes k (omega (arith, len, low)))) (λ more. absurd (omega arith)) in
    cond-false (nat_lt (position_or_len (λ (x : ℕ). not (is_comment_byte x)) cut) (length cut)) (Some (position_or_len (λ (x : ℕ). not (is_comment_byte x)) cut)) None
    (le-ltb (position_or_len (λ (x : ℕ). not (is_comment_byte x)) cut) (length cut) (omega (arith, all)))

comment_stops : (line : List ℕ) (b : ℕ) (bs : List ℕ) (at : ℕ) (o : Option ℕ) (bad : ℕ) → Comment ≡ piece_of b bs → b ≡ 35 → b ∷ bs ≡ drop at line → position (λ x. not (is_comment_byte x)) (b ∷ bs) ≡ o → comment_end at o ≡ Err bad → StopsFrom line at 0 at (b ∷ bs) bad
comment_stops line b bs at None bad is hash e found h = absurd cc
comment_stops line b bs at (Some zero) bad is hash e found h =
    let p = position-Some (λ (x : ℕ). not (is_comment_byte x)) (b ∷ bs) 0 0 found in
    let fails : not (is_comment_byte 35) ≡ true = subst (λ (x : ℕ). not (is_comment_byte x) ≡ true) hash p.1 in
    absurd cc
comment_stops line b bs at (Some (suc m)) bad is hash e found h =
    let place : at + suc m ≡ bad = errs (at + suc m) bad h in
    let n : bad - at ≡ suc m = omega arith in
    let p = position-Some (λ (x : ℕ). not (is_comment_byte x)) (b ∷ bs) (suc m) 0 found in
    let len : length (b ∷ bs) ≡ length line - at = ap length e ∙ length-drop at line in
    let here : slice_index line at ≡ 35 = byte_at line at b bs e ∙ hash in
    let byte : get_or (b ∷ bs) (suc m) 0 ≡ slice_index line bad = ap (λ (l : List ℕ). get_or l (suc m) 0) e ∙ get_or-drop at line (suc m) 0 ∙ ap (slice_index line) place in (
      [],
      record {
        low = omega arith;
        within = omega (arith, len, p.0);
        before = ap (λ (k : ℕ). tokens_from 0 at (take k (b ∷ bs))) n ∙ cut_step b bs at m Comment is tt ∙ ap (comment_end at) (none_before (b ∷ bs) (suc m) p.0 p.2);
        longest = tt;
        commented = λ _. ap is_comment_byte (sym byte) ∙ not-true (is_comment_byte (get_or (b ∷ bs) (suc m) 0)) p.1;
        elsewhere = λ none. absurd (none (at, omega arith, begins_here line at here));
      },
    )

-- two bytes that are no pair begin no symbol but a single one
two_tests : (x y z w t rest : Bool) → ((x && y) || (z && w)) ≡ false → rest ≡ false → (x && (y && t) || (z && (w && t) || rest)) ≡ false
two_tests true true z w t rest h r = absurd cc
two_tests true false true true t rest h r = absurd cc
two_tests true false true false t rest h r = r
two_tests true false false w t rest h r = r
two_tests false y true true t rest h r = absurd cc
two_tests false y true false t rest h r = r
two_tests false y false w t rest h r = r

no_symbol : (b : ℕ) (bs : List ℕ) (n : ℕ) → IsBad b bs → is_of_kind Symbol (take (suc n) (b ∷ bs)) ≡ false
no_symbol b [] zero p = one_symbol b ∙ p.symbol
no_symbol b [] (suc n) p = one_symbol b ∙ p.symbol
no_symbol b (c ∷ bs) zero p = one_symbol b ∙ p.symbol
no_symbol b (c ∷ bs) (suc n) p = two_tests (nat_eq b 45) (nat_eq c 62) (nat_eq b 33) (nat_eq c 61) _ _ p.pair (simp and-false)

no_kind : (kind : Kind) (b : ℕ) (bs : List ℕ) (n : ℕ) → IsBad b bs → 0 < n → is_of_kind kind (take n (b ∷ bs)) ≡ false
no_kind kind b bs zero p lt = absurd (omega arith)
no_kind Word b bs (suc n) p lt = and_left (is_ascii_lowercase b) _ p.letter
no_kind Number b bs (suc n) p lt = and_left (is_ascii_digit b) _ p.digit
no_kind Symbol b bs (suc n) p lt = no_symbol b bs n p

nothing_here : (line : List ℕ) (b : ℕ) (bs : List ℕ) (at : ℕ) → IsBad b bs → b ∷ bs ≡ drop at line → BeginsNothing line at
nothing_here line b bs at p e =
    let here = byte_at line at b bs e in
    record {
      blank = ap is_blank here ∙ p.blank;
      hash = λ is. false≢true (sym p.hash ∙ eq-eqb b 35 (sym here ∙ is));
      token = λ kind n lt le. ap (λ (l : List ℕ). is_of_kind kind (take (n - at) l)) (sym e) ∙ no_kind kind b bs (n - at) p (omega arith);
    }

bad_stops : (line : List ℕ) (b : ℕ) (bs : List ℕ) (at bad : ℕ) → IsBad b bs → b ∷ bs ≡ drop at line → at ≡ bad → StopsFrom line at 0 at (b ∷ bs) bad
bad_stops line b bs at bad p e place =
    let n : bad - at ≡ 0 = omega arith in
    let len : length (b ∷ bs) ≡ length line - at = ap length e ∙ length-drop at line in (
      [],
      record {
        low = omega arith;
        within = omega (arith, len);
        before = ap (λ (k : ℕ). tokens_from 0 at (take k (b ∷ bs))) n;
        longest = tt;
        commented = λ c. absurd (omega (arith, c.1, c.2.low));
        elsewhere = λ _. subst (BeginsNothing line) place (nothing_here line b bs at p e);
      },
    )

by_piece : (line : List ℕ) (b : ℕ) (bs : List ℕ) (at bad : ℕ) (piece : Piece) → piece ≡ piece_of b bs → Says b bs piece → b ∷ bs ≡ drop at line → ((k : ℕ) → tokens_from k (at + 1) bs ≡ Err bad → StopsFrom line (at + 1 + k) k (at + 1) bs bad)
    → tokens_of_piece piece at (b ∷ bs) (λ k. tokens_from k (at + 1) bs) ≡ Err bad → StopsFrom line at 0 at (b ∷ bs) bad
by_piece line b bs at bad Blank is p e ih h = blank_stops line b bs at bad is p e (subst (λ (from : ℕ). StopsFrom line from 0 (at + 1) bs bad) (omega arith) (ih 0 h))
by_piece line b bs at bad Comment is p e ih h = comment_stops line b bs at (position (λ x. not (is_comment_byte x)) (b ∷ bs)) bad is p e refl h
by_piece line b bs at bad (Run kind more) is p e ih h =
    run_stops line b bs kind more at bad is e (ih more (run_result (record { kind = kind; start = at; end = at + (more + 1); text = take (more + 1) (b ∷ bs) }) (tokens_from more (at + 1) bs) bad h))
by_piece line b bs at bad Bad is p e ih h = bad_stops line b bs at bad p e (errs at bad h)

-- a byte of the token before the place
inner_stops : (line : List ℕ) (b : ℕ) (bs : List ℕ) (k at bad : ℕ) → StopsFrom line (at + 1 + k) k (at + 1) bs bad → StopsFrom line (at + suc k) (suc k) at (b ∷ bs) bad
inner_stops line b bs k at bad (ts, r) =
    let n : bad - at ≡ suc (bad - (at + 1)) = omega (arith, r.low) in
    let r2 : Stops line (at + suc k) k (at + 1) bs bad ts = subst (λ (from : ℕ). Stops line from k (at + 1) bs bad ts) (omega arith) r in (
      ts,
      record {
        low = r2.low;
        within = r2.within;
        before = ap (λ (m : ℕ). tokens_from (suc k) at (take m (b ∷ bs))) n ∙ r.before;
        longest = r2.longest;
        commented = r2.commented;
        elsewhere = r2.elsewhere;
      },
    )

from_stops : (line bs : List ℕ) (k at bad : ℕ) → bs ≡ drop at line → tokens_from k at bs ≡ Err bad → StopsFrom line (at + k) k at bs bad
from_stops line [] zero at bad e h = absurd cc
from_stops line [] (suc k) at bad e h = absurd cc
from_stops line (b ∷ bs) zero at bad e h =
    subst (λ (from : ℕ). StopsFrom line from 0 at (b ∷ bs) bad) (omega arith)
    (by_piece line b bs at bad (piece_of b bs) refl (piece_says b bs) e (λ k g. from_stops line bs k (at + 1) bad (one_less line b bs at e) g) h)
from_stops line (b ∷ bs) (suc k) at bad e h = inner_stops line b bs k at bad (from_stops line bs k (at + 1) bad (one_less line b bs at e) h)

pub line_stops : (line : List ℕ) (at : ℕ) → tokens_of line ≡ Err at → StopsAt line at
line_stops line at h =
    let found = from_stops line line 0 0 at refl h in
    let r = found.1 in
    let n : at - 0 ≡ at = omega arith in
    record {
      within = r.within;
      before = (
        found.0,
        ap (λ (m : ℕ). tokens_of (take m line)) (sym n) ∙ r.before,
        r.longest,
        record {
          commented = λ c. r.commented (c.0, c.1, begins_from line found.0 c.0 c.2);
          elsewhere = λ none. r.elsewhere (λ c. none (c.0, c.1, begins_whole line found.0 c.0 c.2));
        },
      );
    }
