-- Tests that some number below a size passes.
use Rattle.std.proofs.Common.{◌≡◌, ℕ, zero, suc, ◌+◌, ◌<◌, Bool, true, false, ◌&&◌, ◌||◌, refl, sym, subst, arith, add-one, inl, inr, ◌⊎◌}
use mathlib.Core.Bool.{or-true, and-false, and-or_distrib_left}
use Rattle.clause_form.specs.Clauses.{any_below}

pub any_below-step : (n : ℕ) (t : ℕ → Bool) → any_below (n + 1) t ≡ (any_below n t || t n)
any_below-step n t = rw add-one

pub any_same : (n : ℕ) (t s : ℕ → Bool) → ((v : ℕ) → t v ≡ s v) → any_below n t ≡ any_below n s
any_same zero t s e = refl
any_same (suc n) t s e = rw (any_same n t s e, e n)

-- a fact that doesn't depend on the number
pub any_and : (n : ℕ) (a : Bool) (t : ℕ → Bool) → any_below n (λ v. a && t v) ≡ (a && any_below n t)
any_and zero a t = sym (and-false a)
any_and (suc n) a t = rw (any_and n a t) (sym (and-or_distrib_left a (any_below n t) (t n)))

any_case : (n : ℕ) (t : ℕ → Bool) (a b : Bool) → any_below n t ≡ a → t n ≡ b → (a || b) ≡ true → ((any_below n t ≡ true → (v : ℕ) × (v < n) × (t v ≡ true))) → (v : ℕ) × (v < suc n) × (t v ≡ true)
any_case n t true b e f h ih = let r = ih e in (r.0, omega (arith, r.1), r.2)
any_case n t false true e f h ih = (n, omega arith, f)
any_case n t false false e f h ih = absurd (cc)

-- what passes is some number
pub any_true : (n : ℕ) (t : ℕ → Bool) → any_below n t ≡ true → (v : ℕ) × (v < n) × (t v ≡ true)
any_true zero t e = absurd (cc)
any_true (suc n) t e = any_case n t (any_below n t) (t n) refl refl e (any_true n t)

pub some_below : (n : ℕ) (t : ℕ → Bool) (v : ℕ) → v < n → t v ≡ true → any_below n t ≡ true
some_below zero t v h e = absurd (omega arith)
some_below (suc n) t v h e =
    let P : ℕ → Type 0 = λ z. t z ≡ true in
    let cases : (v < n) ⊎ (v ≡ n) = grind arith in
    elim cases [ inl l ↦ rw (some_below n t v l e) | inr same ↦ rw (subst P same e, or-true (any_below n t)) ]

pub none_below : (n : ℕ) (t : ℕ → Bool) → ((v : ℕ) → v < n → t v ≡ false) → any_below n t ≡ false
none_below zero t f = refl
none_below (suc n) t f =
    let rest : any_below n t ≡ false = none_below n t (λ v h. f v (omega arith)) in
    let last : t n ≡ false = f n (omega arith) in rw (rest, last)
