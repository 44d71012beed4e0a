-- Words without spaces are told apart where spaces stand before them.
use Rattle.std.proofs.Common.{◌≡◌, ◌≢◌, ℕ, true, false, List, [], ◌∷◌, ◌++◌, All, refl, sym, ap, ◌∙◌}
use Rattle.std.specs.List.{list_all}
use Rattle.std.specs.Str.{bytes_eq}
use Rattle.std.proofs.lemmas.Bool.{and_parts}
use Rattle.std.proofs.lemmas.List.Elements.{All-cons, All-head, All-nil, All-tail}
use Rattle.std.proofs.lemmas.Slice.Eq.{bytes_eq-Decides}
use Rattle.cca_base.specs.Names.{is_word_byte}
use Rattle.trace_text.specs.Words.{behind_spaces, HasNoSpace}

-- no byte is the one that ends a word
abbrev pub Lacks : ℕ → List ℕ → Type 0
Lacks end word = All (λ b. b ≢ end) word

-- letters, digits and _ are none of the other bytes
pub name_lacks : (end : ℕ) → is_word_byte end ≡ false → (name : List ℕ) → list_all is_word_byte name ≡ true → Lacks end name
name_lacks end other [] h = All-nil (λ b. b ≢ end)
name_lacks end other (b ∷ bs) h =
    let both = and_parts (is_word_byte b) (list_all is_word_byte bs) h in
    All-cons (λ c. c ≢ end) b bs (λ e. let no : false ≡ true = sym other ∙ ap is_word_byte (sym e) ∙ both.0 in absurd cc) (name_lacks end other bs both.1)

-- a word ends before these bytes: there are none, or the byte that ends a word comes first
abbrev pub EndsWord : ℕ → List ℕ → Type 0
EndsWord end [] = Unit {0}
EndsWord end (b ∷ bs) = b ≡ end

goes_on : (end b : ℕ) (bs rest more : List ℕ) → Lacks end (b ∷ bs) → EndsWord end rest → rest ≡ b ∷ more → ⊥
goes_on end b bs [] more h ends e = absurd cc
goes_on end b bs (r ∷ rs) more h ends e = let is : r ≡ b = cc in All-head (λ x. x ≢ end) b bs h (sym is ∙ ends)

pub first_word : (end : ℕ) (a b r s : List ℕ) → Lacks end a → Lacks end b → EndsWord end r → EndsWord end s → a ++ r ≡ b ++ s → (a ≡ b) × (r ≡ s)
first_word end [] [] r s h k p q e = (refl, e)
first_word end [] (y ∷ ys) r s h k p q e = absurd (goes_on end y ys r (ys ++ s) k p e)
first_word end (x ∷ xs) [] r s h k p q e = absurd (goes_on end x xs s (xs ++ r) h q (sym e))
first_word end (x ∷ xs) (y ∷ ys) r s h k p q e =
    let same : x ≡ y = cc in
    let rest : xs ++ r ≡ ys ++ s = cc in
    let both : (xs ≡ ys) × (r ≡ s) = first_word end xs ys r s (All-tail (λ c. c ≢ end) x xs h) (All-tail (λ c. c ≢ end) y ys k) p q rest in
    let words : x ∷ xs ≡ y ∷ ys = let t : xs ≡ ys = both.0 in cc in
    (words, both.1)

spaces_end : (words : List (List ℕ)) → EndsWord 32 (behind_spaces words)
spaces_end [] = tt
spaces_end (word ∷ words) = refl

pub behind_spaces_injective : (xs ys : List (List ℕ)) → All HasNoSpace xs → All HasNoSpace ys → behind_spaces xs ≡ behind_spaces ys → xs ≡ ys
behind_spaces_injective [] [] h k e = refl
behind_spaces_injective [] (y ∷ ys) h k e = absurd cc
behind_spaces_injective (x ∷ xs) [] h k e = absurd cc
behind_spaces_injective (x ∷ xs) (y ∷ ys) h k e =
    let rest : x ++ behind_spaces xs ≡ y ++ behind_spaces ys = cc in
    let parts : (x ≡ y) × (behind_spaces xs ≡ behind_spaces ys) =
    first_word 32 x y (behind_spaces xs) (behind_spaces ys) (All-head HasNoSpace x xs h) (All-head HasNoSpace y ys k) (spaces_end xs) (spaces_end ys) rest in
    let tails : xs ≡ ys = behind_spaces_injective xs ys (All-tail HasNoSpace x xs h) (All-tail HasNoSpace y ys k) parts.1 in
    let heads : x ≡ y = parts.0 in
    cc

-- two lists do not begin with words that differ
pub others : (x y : List ℕ) (xs ys : List (List ℕ)) → bytes_eq x y ≡ false → x ∷ xs ≡ y ∷ ys → ⊥
others x y xs ys h e =
    let same : x ≡ y = cc in
    let no : false ≡ true = sym h ∙ (bytes_eq-Decides x y).1 same in
    absurd cc
