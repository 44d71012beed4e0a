-- How long printed tokens are, part by part.
use Rattle.std.proofs.Common.{◌≡◌, ℕ, ◌+◌, ◌≤◌, Bool, true, false, cond, ◌&&◌, List, [], ◌∷◌, ◌++◌, length, codes, refl, ap, arith, length-append}
use Rattle.std.specs.Prelude.{nat_le}
use Rattle.std.proofs.lemmas.Bool.{le-leb, leb-true}
use Rattle.text_base.specs.Lexemes.{Lexeme, symbol}
use Rattle.model_syntax.specs.Printing.{is_plain, joined, Said, part_said}

-- the blank between two that are words or numbers
abbrev pub blank : Bool → Bool → ℕ
blank true true = 1
blank true false = 0
blank false true = 0
blank false false = 0

pub blank_few : (l r : Bool) → blank l r ≤ 1
blank_few true true = omega arith
blank_few true false = omega arith
blank_few false true = omega arith
blank_few false false = omega arith

pub blank_left : (r : Bool) → blank false r ≡ 0
blank_left true = refl
blank_left false = refl

pub blank_right : (l : Bool) → blank l false ≡ 0
blank_right true = refl
blank_right false = refl

-- how long tokens are between neighbours, which may be words or numbers, with the blanks to both sides
abbrev pub width : Bool → List Lexeme → Bool → ℕ
width l [] r = blank l r
width l (x ∷ xs) r = blank l (is_plain x) + (length x.1 + width (is_plain x) xs r)

-- ---- joined tokens

abbrev gap : Bool → List ℕ
gap b = cond b (32 ∷ []) []

between : (a b : Bool) → length (gap (a && b)) ≡ blank a b
between true true = refl
between true false = refl
between false true = refl
between false false = refl

pub joined_width : (ls : List Lexeme) → length (joined ls) ≡ width false ls false
joined_width [] = refl
joined_width (l ∷ []) = omega (arith, blank_left (is_plain l), blank_right (is_plain l))
joined_width (l ∷ m ∷ ls) =
    let blank_between : List ℕ = gap (is_plain l && is_plain m) in
    omega (arith, length-append (l.1 ++ blank_between) (joined (m ∷ ls)), length-append l.1 blank_between, between (is_plain l) (is_plain m), joined_width (m ∷ ls), blank_left (is_plain l), blank_left (is_plain m))

-- ---- parts

width_append : (a : List Lexeme) (x : Lexeme) (b : List Lexeme) (l r : Bool) → width l (a ++ x ∷ b) r ≡ width l a (is_plain x) + (length x.1 + width (is_plain x) b r)
width_append [] x b l r = refl
width_append (y ∷ a) x b l r = omega (arith, width_append a x b (is_plain y) r)

pub width_left : (xs : List Lexeme) (l r : Bool) → width l xs r ≤ width false xs r + 1
width_left [] l r = omega (arith, blank_few l r, blank_left r)
width_left (x ∷ xs) l r = omega (arith, blank_few l (is_plain x), blank_left (is_plain x))

width_right : (xs : List Lexeme) (l r : Bool) → width l xs r ≤ width l xs false + 1
width_right [] l r = omega (arith, blank_few l r, blank_right l)
width_right (x ∷ xs) l r = omega (arith, width_right xs (is_plain x) r)

-- at any place, the first tokens aren't longer than the second
abbrev pub NoLonger : List Lexeme → List Lexeme → Type 0
NoLonger a b = (l r : Bool) → width l a r ≤ width l b r

pub same_tokens : (a b : List Lexeme) → a ≡ b → NoLonger a b
same_tokens a b e l r = omega (arith, ap (λ (x : List Lexeme). width l x r) e)

pub through : (a b c : List Lexeme) → NoLonger a b → NoLonger b c → NoLonger a c
through a b c h g l r = omega (arith, h l r, g l r)

pub behind : (x : Lexeme) (a b : List Lexeme) → NoLonger a b → NoLonger (x ∷ a) (x ∷ b)
behind x a b h l r = omega (arith, h (is_plain x) r)

pub behind_all : (front a b : List Lexeme) → NoLonger a b → NoLonger (front ++ a) (front ++ b)
behind_all [] a b h = h
behind_all (x ∷ front) a b h = behind x (front ++ a) (front ++ b) (behind_all front a b h)

pub both_sides : (x : Lexeme) (a b c d : List Lexeme) → NoLonger a b → NoLonger c d → NoLonger (a ++ x ∷ c) (b ++ x ∷ d)
both_sides x a b c d h g l r = omega (arith, width_append a x c l r, width_append b x d l r, h l (is_plain x), g (is_plain x) r)

-- ---- parentheses

abbrev pub enclosed : List Lexeme → List Lexeme
enclosed a = symbol (codes "(") ∷ a ++ symbol (codes ")") ∷ []

bare : (a : List Lexeme) → NoLonger a (enclosed a)
bare a l r = omega (arith, width_append a (symbol (codes ")")) [] false r, width_left a l r, width_right a false r, blank_right l, blank_left r)

enclosed_both : (a b : List Lexeme) → NoLonger a b → NoLonger (enclosed a) (enclosed b)
enclosed_both a b h = behind (symbol (codes "(")) (a ++ symbol (codes ")") ∷ []) (b ++ symbol (codes ")") ∷ []) (both_sides (symbol (codes ")")) a b [] [] h (λ l r. omega arith))

-- in parentheses or not
by_choice : (t : Bool) (a b : List Lexeme) → NoLonger a b → NoLonger (cond t a (enclosed a)) (enclosed b)
by_choice true a b h = through a b (enclosed b) h (bare b)
by_choice false a b h = enclosed_both a b h

choice_bare : (t : Bool) (a : List Lexeme) → NoLonger a (cond t a (enclosed a))
choice_bare true a = same_tokens a a refl
choice_bare false a = bare a

pub part_enclosed : (allowed : ℕ) (s : Said) (b : List Lexeme) → NoLonger s.tokens b → NoLonger (part_said allowed s) (enclosed b)
part_enclosed allowed s b h = by_choice (nat_le s.precedence allowed) s.tokens b h

pub part_bare : (allowed : ℕ) (s : Said) → NoLonger s.tokens (part_said allowed s)
part_bare allowed s = choice_bare (nat_le s.precedence allowed) s.tokens

-- a part that may be looser has no more parentheses
raised : (x y : Bool) (a : List Lexeme) → (x ≡ true → y ≡ true) → NoLonger (cond y a (enclosed a)) (cond x a (enclosed a))
raised true true a h = same_tokens a a refl
raised true false a h = absurd (let e = h refl in cc)
raised false true a h = bare a
raised false false a h = same_tokens (enclosed a) (enclosed a) refl

pub part_raised : (a b : ℕ) (s : Said) → a ≤ b → NoLonger (part_said b s) (part_said a s)
part_raised a b s h =
    raised (nat_le s.precedence a) (nat_le s.precedence b) s.tokens (λ e. le-leb s.precedence b (omega (arith, leb-true s.precedence a e)))
