-- Lexemes that are joined have no line's end in them.
use Rattle.std.proofs.Common.{◌≡◌, ◌≢◌, ℕ, Bool, true, false, not, ◌&&◌, if◌then◌else◌, List, [], ◌∷◌, ◌++◌, All, refl, sym, ap, subst, ◌∙◌, nat_eq}
use Rattle.std.specs.List.{list_all}
use Rattle.std.specs.Char.{is_ascii_digit, is_ascii_lowercase}
use Rattle.std.proofs.lemmas.Bool.{and_parts}
use Rattle.std.proofs.lemmas.List.Elements.{All-nil, All-cons, All-append}
use Rattle.cca_base.specs.Names.{is_word_byte, is_word}
use Rattle.text_base.specs.declared.token.Kind.TheVariants.{Word, Number, Symbol}
use Rattle.text_base.specs.Tokens.{symbols, is_of_kind, is_digits}
use Rattle.text_base.specs.Lexemes.{Lexeme}
use Rattle.model_syntax.specs.Printing.{is_plain, joined}
use Rattle.model_syntax.specs.RoundTrip.{AreOfTheirKinds}
use Rattle.model_syntax.proofs.JoinedTokens.{one_of}
use Rattle.model_syntax.proofs.PrintedText.{joined_behind, joined_first}

-- no byte ends a line
abbrev pub IsWhole : List ℕ → Type 0
IsWhole bytes = All (λ b. b ≢ 10) bytes

none : ◌≡◌ {A = Bool} false true → ⊥
none e = cc

-- bytes that pass a test which a line's end doesn't
passed : (p : ℕ → Bool) → p 10 ≡ false → (bytes : List ℕ) → list_all p bytes ≡ true → IsWhole bytes
passed p f [] h = All-nil (λ b. b ≢ 10)
passed p f (b ∷ bs) h =
    let each = and_parts (p b) (list_all p bs) h in
    All-cons (λ b. b ≢ 10) b bs (λ e. none (sym f ∙ sym (ap p e) ∙ each.0)) (passed p f bs each.1)

word_whole : (text : List ℕ) → is_word text ≡ true → IsWhole text
word_whole [] h = All-nil (λ b. b ≢ 10)
word_whole (b ∷ bs) h =
    let each = and_parts (is_ascii_lowercase b) (list_all is_word_byte bs) h in
    All-cons (λ b. b ≢ 10) b bs (λ e. none (sym (ap is_ascii_lowercase e) ∙ each.0)) (passed is_word_byte refl bs each.1)

number_whole : (text : List ℕ) → is_digits text ≡ true → IsWhole text
number_whole [] h = All-nil (λ b. b ≢ 10)
number_whole (b ∷ bs) h = passed is_ascii_digit refl (b ∷ bs) h

abbrev other : ℕ → Bool
other b = not (nat_eq b 10)

symbol_whole : (text : List ℕ) → is_of_kind Symbol text ≡ true → IsWhole text
symbol_whole text h = passed other refl text (one_of (λ s. list_all other s ≡ true) text symbols (refl, (refl, (refl, (refl, (refl, (refl, (refl, (refl, tt)))))))) h)

text_whole : (l : Lexeme) → is_of_kind l.0 l.1 ≡ true → IsWhole l.1
text_whole (Word, text) h = word_whole text h
text_whole (Number, text) h = number_whole text h
text_whole (Symbol, text) h = symbol_whole text h

space_whole : (space : Bool) → IsWhole (if space then 32 ∷ [] else [])
space_whole true = passed other refl (32 ∷ []) refl
space_whole false = All-nil (λ b. b ≢ 10)

behind_whole : (plain : Bool) (ls : List Lexeme) → AreOfTheirKinds ls → IsWhole (joined_behind plain ls)
behind_whole plain [] h = All-nil (λ b. b ≢ 10)
behind_whole plain (l ∷ ls) h =
    let each = and_parts (is_of_kind l.0 l.1) (list_all (λ k. is_of_kind k.0 k.1) ls) h in
    let space : List ℕ = if plain && is_plain l then 32 ∷ [] else [] in
    All-append (λ b. b ≢ 10) (space ++ l.1) (joined_behind (is_plain l) ls)
    (All-append (λ b. b ≢ 10) space l.1 (space_whole (plain && is_plain l)) (text_whole l each.0)) (behind_whole (is_plain l) ls each.1)

pub joined_whole : (ls : List Lexeme) → AreOfTheirKinds ls → IsWhole (joined ls)
joined_whole ls h = subst IsWhole (sym (joined_first ls)) (behind_whole false ls h)
