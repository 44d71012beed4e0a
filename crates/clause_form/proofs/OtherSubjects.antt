-- Clauses and the values of subjects that they don't name.
use Rattle.std.proofs.Common.{◌≡◌, ℕ, suc, ◌<◌, Bool, true, false, not, ◌&&◌, List, [], ◌∷◌, ◌++◌, length, All, refl, sym, ap, ◌∙◌, arith, set, get_or-set_other, filter, cond, eqb}
use Rattle.std.specs.List.{list_all, list_any}
use mathlib.Core.Bool.{and-false}
use Rattle.std.proofs.lemmas.Bool.{eqb-false, false_from_ne_true, false≢true, not-true}
use Rattle.std.proofs.lemmas.List.Folds.{list_any_at}
use Rattle.std.proofs.lemmas.List.{get_or_append_left}
use Rattle.std.proofs.lemmas.List.Elements.{All-weaker, filter_passes}
use Rattle.clause_form.specs.declared.clause.Clause.{Clause}
use Rattle.clause_form.specs.declared.clause.Literal.{Literal}
use Rattle.cca_base.specs.Sets.{has}
use Rattle.clause_form.specs.Clauses.{AreBelow, AllBelow, AreOthers, AllOthers, all_met, is_met, is_true, meets, names_one}

-- two tests that answer alike of what there is
any_alike : {X : Type 0} (P : X → Type 0) (p q : X → Bool) → ((x : X) → P x → p x ≡ q x) → (xs : List X) → All P xs → list_any p xs ≡ list_any q xs
any_alike P p q e [] h = refl
any_alike P p q e (x ∷ xs) h = rw (e x (h 0 x (omega arith)), any_alike P p q e xs (λ i d l. h (suc i) d (omega arith)))

all_alike : {X : Type 0} (P : X → Type 0) (p q : X → Bool) → ((x : X) → P x → p x ≡ q x) → (xs : List X) → All P xs → list_all p xs ≡ list_all q xs
all_alike P p q e [] h = refl
all_alike P p q e (x ∷ xs) h = rw (e x (h 0 x (omega arith)), all_alike P p q e xs (λ i d l. h (suc i) d (omega arith)))

met_others : (x v : ℕ) (xs : List ℕ) (literals : List Literal) → AreOthers x literals → is_met (set xs x v) literals ≡ is_met xs literals
met_others x v xs = any_alike (λ (l : Literal). eqb l.subject x ≡ false) (is_true (set xs x v)) (is_true xs)
    (λ l ne. ap (has l.values) (get_or-set_other xs x l.subject v 0 (eqb-false l.subject x ne)))

-- the value of a subject that no clause names doesn't matter
pub all_met_others : (x v : ℕ) (xs : List ℕ) (clauses : List Clause) → AllOthers x clauses → all_met (set xs x v) clauses ≡ all_met xs clauses
all_met_others x v xs = all_alike (λ (c : Clause). AreOthers x c.literals) (meets (set xs x v)) (meets xs) (λ c h. met_others x v xs c.literals h)

-- values behind those of the subjects that are named don't matter
pub all_met_first : (xs ys : List ℕ) (clauses : List Clause) → AllBelow (length xs) clauses → all_met (xs ++ ys) clauses ≡ all_met xs clauses
all_met_first xs ys = all_alike (λ (c : Clause). AreBelow (length xs) c.literals) (meets (xs ++ ys)) (meets xs)
    (λ c h. any_alike (λ (l : Literal). l.subject < length xs) (is_true (xs ++ ys)) (is_true xs) (λ l k. ap (has l.values) (get_or_append_left xs ys 0 l.subject k)) c.literals h)

-- a clause that doesn't name the subject has literals of others alone
none_named : (x : ℕ) (literals : List Literal) → list_any (λ (l : Literal). eqb l.subject x) literals ≡ false → AreOthers x literals
none_named x literals h i d inside = false_from_ne_true _ (λ found. false≢true (sym h ∙ list_any_at (λ (l : Literal). eqb l.subject x) literals i d inside found))

pub others_unnamed : (x : ℕ) (clauses : List Clause) → AllOthers x (filter (λ clause. not (names_one (λ u. eqb u x) clause)) clauses)
others_unnamed x clauses =
    let test : Clause → Bool = λ clause. not (names_one (λ u. eqb u x) clause) in
    All-weaker (λ (c : Clause). test c ≡ true) (λ (c : Clause). AreOthers x c.literals) (λ c k. none_named x c.literals (not-true _ k)) (filter test clauses) (filter_passes test clauses)

-- ---- clauses parted by a test

parted_step : (a r u t : Bool) (b : Bool) → r ≡ (u && t) → (a && r) ≡ (cond (not b) (a && u) u && cond b (a && t) t)
parted_step true r u t true e = e
parted_step true r u t false e = e
parted_step false r u t true e = sym (and-false u)
parted_step false r u t false e = refl

fold_cond : {X : Type 0} (p : X → Bool) (x : X) (xs : List X) (b : Bool) → list_all p (cond b (x ∷ xs) xs) ≡ cond b (p x && list_all p xs) (list_all p xs)
fold_cond p x xs true = refl
fold_cond p x xs false = refl

pub all_parted : {X : Type 0} (p t : X → Bool) (xs : List X) → list_all p xs ≡ (list_all p (filter (λ x. not (t x)) xs) && list_all p (filter t xs))
all_parted p t [] = refl
all_parted p t (x ∷ xs) =
    parted_step (p x) (list_all p xs) (list_all p (filter (λ y. not (t y)) xs)) (list_all p (filter t xs)) (t x) (all_parted p t xs)
    ∙ ap (λ b. b && cond (t x) (p x && list_all p (filter t xs)) (list_all p (filter t xs))) (sym (fold_cond p x (filter (λ y. not (t y)) xs) (not (t x))))
    ∙ ap (λ b. list_all p (cond (not (t x)) (x ∷ filter (λ y. not (t y)) xs) (filter (λ y. not (t y)) xs)) && b) (sym (fold_cond p x (filter t xs) (t x)))
