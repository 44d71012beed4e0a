-- What is read from one word, and that nothing else has that word.
use Rattle.std.proofs.Common.{◌≡◌, ◌≢◌, ◌<◌, ◌≤◌, ◌^◌, ℕ, true, false, List, [], ◌∷◌, ◌++◌, length, take, drop, get_or, Option, Some, None, sym, ap, ◌∙◌, arith}
use Rattle.std.specs.Str.{bytes_eq}
use Rattle.std.specs.Fmt.{decimal}
use Rattle.std.proofs.lemmas.List.{append_cancel_left}
use Rattle.std.proofs.lemmas.List.Quantifiers.{position-Some}
use Rattle.std.proofs.lemmas.Slice.Eq.{bytes_eq-Decides}
use Rattle.std.proofs.Math.Seq.{take-append_seam}
use Rattle.model_syntax.proofs.NamedPlaces.{at_place}
use Rattle.model_syntax.proofs.OneWay.{same_number}
use Rattle.formula_syntax.specs.Lookups.{place_of}
use Rattle.formula_syntax.proofs.FirstPlaces.{none_passes}
use Rattle.trace_text.specs.Names.{name_at, choice_text}
use Rattle.trace_text.specs.LineWords.{IsReadFrom}

-- ---- numbers

-- a number of more than 64 bits has the text of no other
pub past_64_bits : (word : List ℕ) (n : ℕ) → 2 ^ 64 ≤ n → n < 2 ^ 128 → word ≡ decimal n → (k : ℕ) → k < 2 ^ 64 → decimal k ≢ word
past_64_bits word n low high is k small e = let same : k ≡ n = same_number k n (omega arith) high (e ∙ is) in omega arith

-- ---- prefixes

pub other_prefix : (prefix word front : List ℕ) → front ≡ take (length prefix) word → bytes_eq front prefix ≡ false → (rest : List ℕ) → prefix ++ rest ≡ word → ⊥
other_prefix prefix word front is differ rest e =
    let begun : front ≡ prefix = is ∙ ap (take (length prefix)) (sym e) ∙ take-append_seam prefix rest in
    let no : false ≡ true = sym differ ∙ (bytes_eq-Decides front prefix).1 begun in
    absurd cc

-- ---- names

pub place_is_read : (names : List (List ℕ)) (word : List ℕ) (o : Option ℕ) → o ≡ place_of names word → IsReadFrom word (λ k. k < length names) (name_at names) o
place_is_read names word None is = λ k lt e.
    let none : List ℕ = [] in
    let fails : bytes_eq (get_or names k none) word ≡ false = none_passes (λ name. bytes_eq name word) names (sym is) k none lt in
    let passes : bytes_eq (get_or names k none) word ≡ true = (bytes_eq-Decides (get_or names k none) word).1 (sym (at_place names k lt) ∙ e) in
    let no : false ≡ true = sym fails ∙ passes in
    absurd cc
place_is_read names word (Some k) is =
    let none : List ℕ = [] in
    let p = position-Some (λ name. bytes_eq name word) names k none (sym is) in
    (p.0, at_place names k p.0 ∙ (bytes_eq-Decides (get_or names k none) word).0 p.1)

-- ---- a name with one of its choices

pub no_sign : (name word equation : List ℕ) (choices : List (List ℕ)) → name ++ equation ≡ word → ((rest : List ℕ) → 61 ∷ rest ≡ equation → ⊥)
    → (k : ℕ) → k < length choices → choice_text name choices k ≢ word
no_sign name word equation choices is none k lt e = none (name_at choices k) (append_cancel_left name (61 ∷ name_at choices k) equation (e ∙ sym is))

pub other_choice : (name word equation choice : List ℕ) (choices : List (List ℕ)) → name ++ equation ≡ word → 61 ∷ choice ≡ equation
    → ((k : ℕ) → k < length choices → name_at choices k ≢ choice) → (k : ℕ) → k < length choices → choice_text name choices k ≢ word
other_choice name word equation choice choices is sign none k lt e =
    let same : 61 ∷ name_at choices k ≡ 61 ∷ choice = append_cancel_left name (61 ∷ name_at choices k) (61 ∷ choice) (e ∙ sym is ∙ ap (λ t. name ++ t) (sym sign)) in
    none k lt (ap (drop 1) same)
