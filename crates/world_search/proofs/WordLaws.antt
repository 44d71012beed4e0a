-- Clauses of words of bits.
use Rattle.std.proofs.Common.{◌≡◌, ℕ, ◌+◌, ◌<◌, ◌||◌, false, List, [], ◌∷◌, ◌++◌, length, get_or, take, sym, ap, subst, ◌∙◌}
use Rattle.std.specs.List.{AllZip}
use Rattle.std.proofs.lemmas.List.{take_more}
use Rattle.std.proofs.lemmas.List.Folds.{list_any-append}
use Rattle.clause_form.specs.declared.clause.Literal.{Literal}
use Rattle.clause_form.specs.Clauses.{is_met, is_true}
use Rattle.world_search.specs.declared.words.WordLiteral.{WordLiteral}
use Rattle.world_search.specs.Words.{literal_of, met}

pub met_more : (xs : List ℕ) (literals : List Literal) (words : List WordLiteral) (i : ℕ) (d : Literal) (w : WordLiteral) → i < length literals → met xs words ≡ is_met xs (take i literals)
    → is_true xs (literal_of w) ≡ is_true xs (get_or literals i d) → met xs (words ++ w ∷ []) ≡ is_met xs (take (i + 1) literals)
met_more xs literals words i d w h so_far here =
    list_any-append (λ (w : WordLiteral). is_true xs (literal_of w)) words (w ∷ [])
    ∙ ap (λ b. b || (is_true xs (literal_of w) || false)) so_far
    ∙ ap (λ b. is_met xs (take i literals) || (b || false)) here
    ∙ sym (ap (is_met xs) (take_more literals i d h) ∙ list_any-append (is_true xs) (take i literals) (get_or literals i d ∷ []))

pub zip_push : {A B : Type 0} (R : A → B → Type 0) (xs : List A) (ys : List B) (x : A) (y : B) → AllZip R xs ys → R x y → AllZip R (xs ++ x ∷ []) (ys ++ y ∷ [])
zip_push R [] [] x y all here = (here, tt)
zip_push R [] (b ∷ ys) x y all here = absurd all
zip_push R (a ∷ xs) [] x y all here = absurd all
zip_push R (a ∷ xs) (b ∷ ys) x y all here = (all.0, zip_push R xs ys x y all.1 here)

pub zip_more : {A B : Type 0} (R : A → B → Type 0) (xs : List A) (ys : List B) (i : ℕ) (x : A) (y : B) → i < length xs → x ≡ get_or xs i x → AllZip R (take i xs) ys → R x y → AllZip R (take (i + 1) xs) (ys ++ y ∷ [])
zip_more R xs ys i x y h is all here =
    let split : take (i + 1) xs ≡ take i xs ++ x ∷ [] = take_more xs i x h ∙ ap (λ a. take i xs ++ a ∷ []) (sym is) in
    subst (λ l. AllZip R l (ys ++ y ∷ [])) (sym split) (zip_push R (take i xs) ys x y all here)
