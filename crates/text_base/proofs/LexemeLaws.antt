-- What the tests of lexemes say.
use Rattle.std.proofs.Common.{◌≡◌, ℕ, true, false, not, List, refl, ap, ◌∙◌}
use Rattle.std.specs.Str.{bytes_eq}
use Rattle.std.proofs.lemmas.Bool.{and_parts, not-true}
use Rattle.std.proofs.lemmas.Slice.Eq.{bytes_eq-Decides}
use Rattle.cca_base.specs.Names.{is_reserved}
use Rattle.text_base.specs.declared.token.Kind.{Kind}
use Rattle.text_base.specs.declared.token.Kind.TheVariants.{Word, Number, Symbol}
use Rattle.text_base.specs.Lexemes.{Lexeme, word, same_kind, is_lexeme, is_name_word}

-- two kinds that pass the test are one
pub kind_is : (a b : Kind) → same_kind a b ≡ true → a ≡ b
kind_is Word Word e = refl
kind_is Number Number e = refl
kind_is Symbol Symbol e = refl
kind_is Word Number e = absurd cc
kind_is Word Symbol e = absurd cc
kind_is Number Word e = absurd cc
kind_is Number Symbol e = absurd cc
kind_is Symbol Word e = absurd cc
kind_is Symbol Number e = absurd cc

pub lexeme_is : (l m : Lexeme) → is_lexeme l m ≡ true → m ≡ l
lexeme_is l m e =
    let p = and_parts (same_kind m.0 l.0) (bytes_eq m.1 l.1) e in
    let k = kind_is m.0 l.0 p.0 in
    let t = (bytes_eq-Decides m.1 l.1).0 p.1 in
    ap (λ (x : Kind). (x, m.1)) k ∙ ap (λ (x : List ℕ). (l.0, x)) t

pub name_word_is : (l : Lexeme) → is_name_word l ≡ true → (l ≡ word l.1) × (is_reserved l.1 ≡ false)
name_word_is l e =
    let p = and_parts (same_kind l.0 Word) (not (is_reserved l.1)) e in
    (ap (λ (k : Kind). (k, l.1)) (kind_is l.0 Word p.0), not-true (is_reserved l.1) p.1)

-- a word that is not reserved, in place of a name
pub may_be_name : (n : List ℕ) → is_reserved n ≡ false → is_name_word (word n) ≡ true
may_be_name n h = ap not h
