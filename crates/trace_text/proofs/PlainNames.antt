-- JSON writes names without escapes.
use Rattle.std.proofs.Common.{◌≡◌, ℕ, ◌<◌, ◌≢◌, ◌++◌, ◌==◌, true, false, List, [], ◌∷◌, drop, All, ne_eqb, refl, ap, ◌∙◌, arith}
use Rattle.std.specs.Prelude.{nat_lt}
use Rattle.std.specs.List.{list_all}
use Rattle.std.proofs.lemmas.Bool.{and_parts}
use Rattle.std.proofs.lemmas.List.Elements.{All-weaker}
use Rattle.serde_json.specs.Data.{string}
use Rattle.serde_json.specs.Written.{compact_text}
use Rattle.serde_json.proofs.OnLiterals.{serde_json_on_literals}
use Rattle.cca_base.specs.declared.model.Component.{Component}
use Rattle.cca_base.specs.Names.{is_word_byte}
use Rattle.cca_base.proofs.ModelNames.{IsName, HasNames, word_bytes, model_names}
use Rattle.trace_text.specs.JsonLaws.{IsPlain, NamesArePlain}

-- a byte that a word may have is above the control bytes, and is no quotation mark or backslash
word_byte : (b : ℕ) → is_word_byte b ≡ true → (34 < b) × (b ≢ 92)
word_byte b h = grind arith

-- a text behind its first quotation mark
abbrev behind : List ℕ → List ℕ
behind bs = drop 1 (compact_text (string bs))

is_not : (b x : ℕ) → b ≢ x → (b == x) ≡ false
is_not b x h = ne_eqb b x h

plain_byte : (b : ℕ) (bs : List ℕ) → is_word_byte b ≡ true → behind (b ∷ bs) ≡ b ∷ behind bs
unfolding serde_json_on_literals
plain_byte b bs h =
    let above = (word_byte b h).0 in
    let quote = is_not b 34 (λ e. omega (arith, e, above)) in
    let backslash = is_not b 92 (word_byte b h).1 in
    let x8 = is_not b 8 (λ e. omega (arith, e, above)) in
    let x12 = is_not b 12 (λ e. omega (arith, e, above)) in
    let x10 = is_not b 10 (λ e. omega (arith, e, above)) in
    let x13 = is_not b 13 (λ e. omega (arith, e, above)) in
    let x9 = is_not b 9 (λ e. omega (arith, e, above)) in
    let high : nat_lt b 32 ≡ false = grind (arith, above) in
    rw (quote, backslash, x8, x12, x10, x13, x9, high) refl

plain_bytes : (bs : List ℕ) → list_all is_word_byte bs ≡ true → behind bs ≡ bs ++ 34 ∷ []
plain_bytes [] h = refl
plain_bytes (b ∷ bs) h =
    let both = and_parts (is_word_byte b) (list_all is_word_byte bs) h in plain_byte b bs both.0 ∙ ap (λ (rest : List ℕ). b ∷ rest) (plain_bytes bs both.1)

plain_name : (name : List ℕ) → IsName name → IsPlain name
plain_name name h = ap (λ (text : List ℕ). 34 ∷ text) (plain_bytes name (word_bytes name h))

pub names_are_plain : NamesArePlain
names_are_plain m h = (
  All-weaker HasNames (λ (c : Component). IsPlain c.name × All IsPlain c.modes) (λ c names. (plain_name c.name names.0, All-weaker IsName IsPlain plain_name c.modes names.1)) m.components (model_names m h),
  All-weaker IsName IsPlain plain_name m.commands h.command_names.each,
)
