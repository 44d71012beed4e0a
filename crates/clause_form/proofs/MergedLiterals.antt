-- Literals of two clauses put into one, place by place.
use Rattle.std.proofs.Common.{◌≡◌, ℕ, ◌+◌, ◌<◌, ◌||◌, List, [], ◌∷◌, ◌++◌, length, take, sym, ap, ◌∙◌, slice_index_or}
use Rattle.std.proofs.lemmas.List.Folds.{list_any-append, list_any_more}
use mathlib.Core.Bool.{or-false}
use Rattle.clause_form.specs.declared.clause.Literal.{Literal}
use Rattle.clause_form.specs.Clauses.{AreMerged, is_met, is_true}
use Rattle.list_laws.proofs.TestedLists.{or_swap}

met_push : (xs : List ℕ) (ls : List Literal) (l : Literal) → is_met xs (ls ++ l ∷ []) ≡ (is_met xs ls || is_true xs l)
met_push xs ls l = list_any-append (is_true xs) ls (l ∷ []) ∙ ap (λ b. is_met xs ls || b) (or-false (is_true xs l))

-- one more literal of the first clause
pub merged_more : (ls others out new : List Literal) (at : ℕ) (l : Literal) → at < length ls → l ≡ slice_index_or ls at l → new ≡ out ++ l ∷ [] → AreMerged ls at others out → AreMerged ls (at + 1) others new
merged_more ls others out new at l inside is e h xs =
    ap (is_met xs) e ∙ met_push xs out l ∙ ap (λ b. b || is_true xs l) (h xs) ∙ or_swap (is_met xs (take at ls)) (is_met xs others) (is_true xs l)
    ∙ ap (λ z. (is_met xs (take at ls) || is_true xs z) || is_met xs others) is ∙ ap (λ b. b || is_met xs others) (sym (list_any_more (is_true xs) ls at l inside))
