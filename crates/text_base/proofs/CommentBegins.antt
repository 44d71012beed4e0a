-- Where a comment begins from a place of a line on, and that the place stays the same behind a blank or a token.
use Rattle.std.proofs.Common.{◌≡◌, ℕ, zero, suc, true, ◌+◌, ◌<◌, ◌≤◌, List, [], ◌∷◌, subst, Contains, inl, inr, refl, sym, ap, ◌∙◌, slice_index, arith}
use Rattle.std.proofs.lemmas.Bool.{cases_lt}
use Rattle.text_base.specs.Bytes.{is_blank}
use Rattle.text_base.specs.Tokens.{Tok}
use Rattle.text_base.specs.Coverage.{IsInToken, IsHashOutside, BeginsComment}

-- the comment begins there, if nothing before this place is looked at
pub record BeginsFrom (line : List ℕ) (from : ℕ) (ts : List Tok) (k : ℕ) : Type 0 where
  pub low : from ≤ k
  pub here : IsHashOutside line ts k
  pub first : (j : ℕ) → from ≤ j → j < k → IsHashOutside line ts j → ⊥

pub begins_whole : (line : List ℕ) (ts : List Tok) (k : ℕ) → BeginsFrom line 0 ts k → BeginsComment line ts k
begins_whole line ts k b = record { here = b.here; first = λ j lt h. b.first j (omega arith) lt h }

pub begins_from : (line : List ℕ) (ts : List Tok) (k : ℕ) → BeginsComment line ts k → BeginsFrom line 0 ts k
begins_from line ts k b = record { low = omega arith; here = b.here; first = λ j low lt h. b.first j lt h }

-- a step from a place to one behind it: no # outside the tokens stands between, and from there on the same places are in tokens
pub record Steps (line : List ℕ) (from : ℕ) (ts : List Tok) (to : ℕ) (us : List Tok) : Type 0 where
  pub ahead : from ≤ to
  pub between : (j : ℕ) → from ≤ j → j < to → IsHashOutside line ts j → ⊥
  pub more : (j : ℕ) → IsInToken us j → IsInToken ts j
  pub fewer : (j : ℕ) → to ≤ j → IsInToken ts j → IsInToken us j

pub begins_before : (line : List ℕ) (from : ℕ) (ts : List Tok) (to : ℕ) (us : List Tok) (k : ℕ) → Steps line from ts to us → BeginsFrom line to us k → BeginsFrom line from ts k
begins_before line from ts to us k s b = record {
  low = omega (arith, s.ahead, b.low);
  here = (b.here.0, λ there. b.here.1 (s.fewer k b.low there));
  first = λ j low lt h. elim (cases_lt j to) [
    | inl before ↦ s.between j low before h
    | inr behind ↦ b.first j behind lt (h.0, λ there. h.1 (s.more j there))
  ];
}

pub begins_behind : (line : List ℕ) (from : ℕ) (ts : List Tok) (to : ℕ) (us : List Tok) (k : ℕ) → Steps line from ts to us → BeginsFrom line from ts k → BeginsFrom line to us k
begins_behind line from ts to us k s b = record {
  low = elim (cases_lt k to) [ inl before ↦ absurd (s.between k b.low before b.here) | inr behind ↦ behind ];
  here = (b.here.0, λ there. b.here.1 (s.more k there));
  first = λ j low lt h. b.first j (omega (arith, s.ahead, low)) lt (h.0, λ there. h.1 (s.fewer j low there));
}

pub in_first : (t : Tok) (ts : List Tok) (k : ℕ) → t.start ≤ k → k < t.end → IsInToken (t ∷ ts) k
in_first t ts k low high = (t, (0, omega arith, refl), low, high)

in_rest : (t : Tok) (ts : List Tok) (k : ℕ) → IsInToken ts k → IsInToken (t ∷ ts) k
in_rest t ts k h = let c = h.1 in (h.0, (suc c.0, omega (arith, c.1), c.2), h.2, h.3)

-- a place behind the first token is in one of the others
contains_rest : (t : Tok) (ts : List Tok) (u : Tok) (k : ℕ) → t.end ≤ k → k < u.end → Contains (t ∷ ts) u → Contains ts u
contains_rest t ts u k behind high (zero, lt, e) = let same : t.end ≡ u.end = ap (λ (x : Tok). x.end) e in absurd (omega arith)
contains_rest t ts u k behind high (suc i, lt, e) = (i, omega arith, e)

in_others : (t : Tok) (ts : List Tok) (k : ℕ) → t.end ≤ k → IsInToken (t ∷ ts) k → IsInToken ts k
in_others t ts k behind h = (h.0, contains_rest t ts h.0 k behind h.3 h.1, h.2, h.3)

-- the step over a byte that is no #
pub over_byte : (line : List ℕ) (at : ℕ) (ts : List Tok) → (slice_index line at ≡ 35 → ⊥) → Steps line at ts (at + 1) ts
over_byte line at ts other = record {
  ahead = omega arith;
  between = λ j low lt h. let same : j ≡ at = omega arith in other (ap (slice_index line) (sym same) ∙ h.0);
  more = λ j h. h;
  fewer = λ j low h. h;
}

-- the step over a token
pub over_token : (line : List ℕ) (t : Tok) (ts : List Tok) → t.start ≤ t.end → Steps line t.start (t ∷ ts) t.end ts
over_token line t ts le = record {
  ahead = le;
  between = λ j low lt h. h.1 (in_first t ts j low lt);
  more = λ j h. in_rest t ts j h;
  fewer = λ j low h. in_others t ts j low h;
}

-- a blank is no #
pub blank_is_other : (b : ℕ) → is_blank b ≡ true → b ≡ 35 → ⊥
blank_is_other b h e = let no_blank : is_blank 35 ≡ true = subst (λ (x : ℕ). is_blank x ≡ true) e h in absurd cc

-- no token is in an empty list
in_none : (k : ℕ) → IsInToken [] k → ⊥
in_none k h = omega (arith, h.1.1)

-- the comment begins here
pub begins_here : (line : List ℕ) (at : ℕ) → slice_index line at ≡ 35 → BeginsFrom line at [] at
begins_here line at is = record { low = omega arith; here = (is, in_none at); first = λ j low lt h. absurd (omega arith) }
