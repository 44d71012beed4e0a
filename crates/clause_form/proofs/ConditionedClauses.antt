-- Clauses once a subject has a value, and the literals that are left.
use Rattle.std.proofs.Common.{◌≡◌, ℕ, ◌<◌, Bool, true, false, not, cond, ◌&&◌, ◌||◌, eqb, List, [], ◌∷◌, length, refl, ◌∙◌, ap, set, get_or, filter, get_or-set_other, get_or-set_same, sym}
use Rattle.std.specs.List.{list_any}
use Rattle.std.proofs.lemmas.Bool.{eqb-false, eqb-true, not-true}
use Rattle.std.proofs.lemmas.List.Elements.{All-weaker, filter_passes}
use Rattle.std.proofs.Math.Bool.{or_assoc}
use Rattle.cca_base.specs.Sets.{has}
use Rattle.clause_form.specs.declared.clause.Literal.{Literal}
use Rattle.clause_form.specs.Clauses.{AreOthers, is_true, is_met}

-- the literal is of the subject and has the value
abbrev pub is_made_true : ℕ → ℕ → Literal → Bool
is_made_true subject value literal = eqb literal.subject subject && has literal.values value

-- the literal is of another subject
abbrev pub is_other : ℕ → Literal → Bool
is_other subject literal = not (eqb literal.subject subject)

apart : (t made r : Bool) → (t || (made || r)) ≡ (made || (t || r))
apart true true r = refl
apart true false r = refl
apart false made r = refl

step : (xs : List ℕ) (subject value : ℕ) (literal : Literal) (rest : List Literal) (now made : Bool) (b : Bool) → eqb literal.subject subject ≡ b
    → (b ≡ true → now ≡ has literal.values value) → (b ≡ false → now ≡ is_true xs literal)
    → (now || (made || is_met xs rest)) ≡ (((b && has literal.values value) || made) || is_met xs (cond (not b) (literal ∷ rest) rest))
step xs subject value literal rest now made true e here there =
    ap (λ b. b || (made || is_met xs rest)) (here refl) ∙ sym (or_assoc (has literal.values value) made (is_met xs rest))
step xs subject value literal rest now made false e here there =
    ap (λ b. b || (made || is_met xs rest)) (there refl) ∙ apart (is_true xs literal) made (is_met xs rest)

pub met_with : (xs : List ℕ) (subject value : ℕ) (literals : List Literal) → subject < length xs
    → is_met (set xs subject value) literals ≡ (list_any (is_made_true subject value) literals || is_met xs (filter (is_other subject) literals))
met_with xs subject value [] h = refl
met_with xs subject value (l ∷ literals) h =
    ap (λ b. is_true (set xs subject value) l || b) (met_with xs subject value literals h)
    ∙ step xs subject value l (filter (is_other subject) literals) (is_true (set xs subject value) l) (list_any (is_made_true subject value) literals) (eqb l.subject subject) refl
    (λ e. ap (λ i. has l.values (get_or (set xs subject value) i 0)) (eqb-true l.subject subject e) ∙ ap (has l.values) (get_or-set_same xs subject value 0 h))
    (λ e. ap (has l.values) (get_or-set_other xs subject l.subject value 0 (eqb-false l.subject subject e)))

-- the literals of other subjects are of other subjects
pub others_left : (subject : ℕ) (literals : List Literal) → AreOthers subject (filter (is_other subject) literals)
others_left subject literals =
    All-weaker (λ (l : Literal). is_other subject l ≡ true) (λ (l : Literal). eqb l.subject subject ≡ false) (λ l k. not-true (eqb l.subject subject) k)
    (filter (is_other subject) literals) (filter_passes (is_other subject) literals)
