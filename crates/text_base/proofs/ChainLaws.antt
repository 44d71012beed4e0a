-- Reading one thing after the other, and what was read so.
use Rattle.std.proofs.Common.{◌≡◌, ◌<◌, List, [], ◌∷◌, length, Option, Some, None, refl, ap, ◌∙◌, arith}
use Rattle.std.proofs.lemmas.Option.{same_Some}
use Rattle.list_laws.proofs.Tests.{cond_found}
use Rattle.text_base.specs.Chain.{◌>>=◌}
use Rattle.text_base.specs.Lexemes.{Lexeme, is_lexeme, next_is}
use Rattle.text_base.proofs.LexemeLaws.{lexeme_is}

-- the first step found something, and so did the rest
pub bind_some : {A B : Type 0} (r : Option A) (f : A → Option B) (y : B) → (r >>= f) ≡ Some y → (x : A) × (r ≡ Some x) × (f x ≡ Some y)
bind_some (Some x) f y e = (x, refl, e)
bind_some None f y e = absurd cc

-- the rest goes on from what the first step found
pub then : {A B : Type 0} {r s : Option A} → r ≡ s → (f : A → Option B) → (r >>= f) ≡ (s >>= f)
then e f = ap (λ o. o >>= f) e

-- a lexeme before what is the same
pub after : (l : Lexeme) {x y : List Lexeme} → x ≡ y → l ∷ x ≡ l ∷ y
after l e = ap (λ (x : List Lexeme). l ∷ x) e

-- what stands behind a lexeme stands behind it
pub next_read : (l : Lexeme) (ls r : List Lexeme) → next_is l ls ≡ Some r → ls ≡ l ∷ r
next_read l [] r e = absurd cc
next_read l (m ∷ ls) r e =
    let p = cond_found (is_lexeme l m) (Some ls) r e in
    ap (λ (x : Lexeme). x ∷ ls) (lexeme_is l m p.0) ∙ after l (same_Some ls r p.1)

-- less stands behind a lexeme
pub next_shorter : (l : Lexeme) (ls r : List Lexeme) → next_is l ls ≡ Some r → length r < length ls
next_shorter l ls r e = omega (arith, ap length (next_read l ls r e))
