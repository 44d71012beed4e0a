-- What follows from a test, from a choice by one, from an option and from a result.
use Rattle.std.proofs.Common.{◌≡◌, ◌↔◌, ℕ, Bool, true, false, not, cond, ◌||◌, ◌&&◌, ◌==◌, Option, Some, None, Result, Ok, refl, sym, ap, ◌∙◌}
use Rattle.std.proofs.lemmas.Bool.{false≢true, eq-eqb}

-- what follows from either branch
pub cond_either : {A P : Type 0} (b : Bool) (x y z : A) → cond b x y ≡ z → (b ≡ true → x ≡ z → P) → (b ≡ false → y ≡ z → P) → P
cond_either true x y z e f g = f refl e
cond_either false x y z e f g = g refl e

-- what follows from either test
pub either : {P : Type 0} (a b : Bool) → (a || b) ≡ true → (a ≡ true → P) → (b ≡ true → P) → P
either true b e f g = f refl
either false b e f g = g e

-- two tests that exclude each other
pub no_and : (a b : Bool) → (a ≡ true → b ≡ true → ⊥) → (a && b) ≡ false
no_and true true h = absurd (h refl refl)
no_and true false h = refl
no_and false b h = refl

pub and_false : (a b : Bool) → (a && b) ≡ false → a ≡ true → b ≡ false
and_false true b e h = e
and_false false b e h = absurd cc

-- a test that holds changes nothing beside another
pub and_with : (a b : Bool) → b ≡ true → a ≡ (a && b)
and_with true b h = sym h
and_with false b h = refl

-- what is found only where the test holds
pub cond_found : {A : Type 0} (b : Bool) (o : Option A) (y : A) → cond b o None ≡ Some y → (b ≡ true) × (o ≡ Some y)
cond_found true o y e = (refl, e)
cond_found false o y e = absurd cc

pub if_none : {A : Type 0} (b : Bool) (x : A) → cond b (Some x) None ≡ None → b ≡ false
if_none true x e = absurd cc
if_none false x e = refl

-- a number differs from itself never
pub not_itself : (c : ℕ) → not (c == c) ≡ true → ⊥
not_itself c h = false≢true (sym (ap not (eq-eqb c c refl)) ∙ h)

-- what never holds is a test that fails
pub never : {A : Type 0} → (A → ⊥) → A ↔ (false ≡ true)
never h = (λ x. absurd (h x), λ e. absurd cc)

-- something is not nothing
pub some_none : {A P : Type 0} (x : A) → Some x ≡ None → P
some_none x e = absurd cc

-- results that are equal hold one value
pub same_ok : {X E : Type 0} (x y : X) → ◌≡◌ {A = Result X E} (Ok x) (Ok y) → x ≡ y
same_ok x y h = cc

-- a test has one answer
pub true_false : {P : Type 0} → true ≡ false → P
true_false e = absurd cc

pub false_true : {P : Type 0} → false ≡ true → P
false_true e = absurd cc
