-- What is left of two lists from a place on begins with what stands there.
use Rattle.std.proofs.Common.{◌≡◌, ◌+◌, ◌<◌, ℕ, List, ◌∷◌, length, drop, get_or, sym, ap, ◌∙◌}
use Rattle.std.proofs.lemmas.List.{at_drop_more}

pub both_left : {X Y : Type 0} (F : List X → List Y → List ℕ) (xs : List X) (ys : List Y) (i : ℕ) (x : X) (y : Y) → i < length xs → x ≡ get_or xs i x → i < length ys → y ≡ get_or ys i y
    → F (drop i xs) (drop i ys) ≡ F (x ∷ drop (i + 1) xs) (y ∷ drop (i + 1) ys)
both_left F xs ys i x y before here also there =
    at_drop_more (λ l. F l (drop i ys)) xs i x before
    ∙ ap (λ z. F (z ∷ drop (i + 1) xs) (drop i ys)) (sym here)
    ∙ at_drop_more (λ l. F (x ∷ drop (i + 1) xs) l) ys i y also
    ∙ ap (λ z. F (x ∷ drop (i + 1) xs) (z ∷ drop (i + 1) ys)) (sym there)
