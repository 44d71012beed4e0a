-- Words of a slice by their places.
use Rattle.std.proofs.Common.{◌≡◌, ◌<◌, ◌≤◌, ℕ, Bool, true, IsTrue, ◌==◌, List, [], ◌∷◌, length, map, take, drop, get_or, slice_get, Some, Bor, refl, sym, ap, ◌∙◌, arith}
use Rattle.std.specs.Option.{option_map}
use Rattle.std.specs.Str.{bytes_eq}
use Rattle.std.proofs.lemmas.Bool.{eqb-true}
use Rattle.std.proofs.lemmas.List.{drop-map, take-map}
use Rattle.std.proofs.lemmas.Slice.Eq.{bytes_eq-Decides}
use Rattle.std.proofs.lemmas.Option.{slice_get-get_or, slice_get-map}

-- what the words refer to
abbrev pub Words : Type 0
Words = List (Bor (List ℕ))

pub one_word : (ws : Words) (d : Bor (List ℕ)) → 1 ≤ length ws → length ws < 2 → map (λ (w : Bor (List ℕ)). w.now) ws ≡ (get_or ws 0 d).now ∷ []
one_word [] d p q = absurd (omega arith)
one_word (a ∷ []) d p q = refl
one_word (a ∷ b ∷ ws) d p q = absurd (omega arith)

two_words : (ws : Words) (d : Bor (List ℕ)) → 2 ≤ length ws → length ws < 3 → map (λ (w : Bor (List ℕ)). w.now) ws ≡ (get_or ws 0 d).now ∷ (get_or ws 1 d).now ∷ []
two_words [] d p q = absurd (omega arith)
two_words (a ∷ []) d p q = absurd (omega arith)
two_words (a ∷ b ∷ []) d p q = refl
two_words (a ∷ b ∷ c ∷ ws) d p q = absurd (omega arith)

pub word_at : (ws : Words) (i : ℕ) (d : Bor (List ℕ)) → i < length ws → slice_get (map (λ (w : Bor (List ℕ)). w.now) ws) i ≡ Some (get_or ws i d).now
word_at ws i d h = slice_get-map (λ (w : Bor (List ℕ)). w.now) ws i ∙ ap (λ o. option_map (λ (w : Bor (List ℕ)). w.now) o) (slice_get-get_or ws i d h)

-- the only word is tested
pub only_word : (ws : Words) (d : Bor (List ℕ)) (word text : List ℕ) (b : Bool) → 1 ≤ length ws → length ws < 2 → b ≡ bytes_eq (get_or ws 0 d).now word → word ≡ text
    → (IsTrue b → map (λ (w : Bor (List ℕ)). w.now) ws ≡ text ∷ []) × (map (λ (w : Bor (List ℕ)). w.now) ws ≡ text ∷ [] → IsTrue b)
only_word ws d word text b p q is same =
    let all : map (λ (w : Bor (List ℕ)). w.now) ws ≡ (get_or ws 0 d).now ∷ [] = one_word ws d p q in
    let tells = bytes_eq-Decides (get_or ws 0 d).now word in (
      (λ h. let first : (get_or ws 0 d).now ≡ word = tells.0 (sym is ∙ h) in all ∙ ap (λ t. t ∷ []) (first ∙ same)),
      (λ h. let both : (get_or ws 0 d).now ∷ [] ≡ text ∷ [] = sym all ∙ h in let first : (get_or ws 0 d).now ≡ word = cc in is ∙ tells.1 first),
    )

-- the second word is tested behind an empty one
pub second_word : (ws : Words) (d : Bor (List ℕ)) (word text : List ℕ) (b : Bool) → 2 ≤ length ws → length ws < 3 → (get_or ws 0 d).now ≡ [] → b ≡ bytes_eq (get_or ws 1 d).now word → word ≡ text
    → (IsTrue b → map (λ (w : Bor (List ℕ)). w.now) ws ≡ [] ∷ text ∷ []) × (map (λ (w : Bor (List ℕ)). w.now) ws ≡ [] ∷ text ∷ [] → IsTrue b)
second_word ws d word text b p q empty is same =
    let all : map (λ (w : Bor (List ℕ)). w.now) ws ≡ (get_or ws 0 d).now ∷ (get_or ws 1 d).now ∷ [] = two_words ws d p q in
    let tells = bytes_eq-Decides (get_or ws 1 d).now word in (
      (λ h. let second : (get_or ws 1 d).now ≡ word = tells.0 (sym is ∙ h) in cc),
      (λ h. let both : (get_or ws 0 d).now ∷ (get_or ws 1 d).now ∷ [] ≡ [] ∷ text ∷ [] = sym all ∙ h in let second : (get_or ws 1 d).now ≡ word = cc in is ∙ tells.1 second),
    )

-- ---- words in front of a place, and behind it

pub words_taken : (ws front : Words) (k n : ℕ) → front ≡ take k ws → k ≡ n → take n (map (λ (w : Bor (List ℕ)). w.now) ws) ≡ map (λ (w : Bor (List ℕ)). w.now) front
words_taken ws front k n is e = ap (λ i. take i (map (λ (w : Bor (List ℕ)). w.now) ws)) (sym e) ∙ take-map (λ (w : Bor (List ℕ)). w.now) k ws ∙ ap (map (λ (w : Bor (List ℕ)). w.now)) (sym is)

pub words_dropped : (ws rest : Words) (k n : ℕ) → rest ≡ drop k ws → k ≡ n → drop n (map (λ (w : Bor (List ℕ)). w.now) ws) ≡ map (λ (w : Bor (List ℕ)). w.now) rest
words_dropped ws rest k n is e = ap (λ i. drop i (map (λ (w : Bor (List ℕ)). w.now) ws)) (sym e) ∙ drop-map (λ (w : Bor (List ℕ)). w.now) k ws ∙ ap (map (λ (w : Bor (List ℕ)). w.now)) (sym is)

pub no_bytes : (word : List ℕ) (b : Bool) → b ≡ (length word == 0) → b ≡ true → word ≡ []
no_bytes [] b is e = refl
no_bytes (x ∷ xs) b is e = absurd (omega (arith, eqb-true (length (x ∷ xs)) 0 (sym is ∙ e)))
