-- One clause that is one literal.
use Rattle.std.proofs.Common.{◌≡◌, ℕ, List, [], ◌∷◌, All, map, ap, subst, ◌∙◌, arith}
use mathlib.Core.Bool.{and-true, or-false}
use Rattle.clause_form.specs.declared.clause.Clause.{Clause}
use Rattle.clause_form.specs.declared.clause.Literal.{Literal}
use Rattle.clause_form.specs.Clauses.{all_met, is_met, is_true}

pub alone_met : (xs : List ℕ) (more : List Clause) (l : Literal) → map (λ (c : Clause). c.literals) more ≡ (l ∷ []) ∷ [] → all_met xs more ≡ is_true xs l
alone_met xs [] l e = absurd (cc)
alone_met xs (c ∷ []) l e =
    let same : c.literals ≡ l ∷ [] = cc in
    and-true (is_met xs c.literals) ∙ ap (is_met xs) same ∙ or-false (is_true xs l)
alone_met xs (c ∷ d ∷ more) l e = absurd (cc)

pub of_alone : (P : List Literal → Type 0) (more : List Clause) (l : Literal) → map (λ (c : Clause). c.literals) more ≡ (l ∷ []) ∷ []
    → All (λ (c : Clause). P c.literals) more → P (l ∷ [])
of_alone P [] l e h = absurd (cc)
of_alone P (c ∷ []) l e h =
    let same : c.literals ≡ l ∷ [] = cc in
    subst P same (h 0 c (omega arith))
of_alone P (c ∷ d ∷ more) l e h = absurd (cc)
