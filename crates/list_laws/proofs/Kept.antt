-- How many elements a filter keeps.
use Rattle.std.proofs.Common.{◌≡◌, ◌<◌, zero, suc, Bool, false, List, [], ◌∷◌, length, Contains, filter, inl, inr, sym, ap, subst, arith}
use Rattle.std.proofs.lemmas.Bool.{cases_Bool, cond-true, cond-false}
use Rattle.std.proofs.lemmas.List.Sums.{length-filter, count_by-le-length}

-- a filter drops what fails
pub filter_less : {X : Type 0} (test : X → Bool) (xs : List X) (x : X) → Contains xs x → test x ≡ false → length (filter test xs) < length xs
filter_less test [] x h fails = absurd (omega (arith, h.1))
filter_less test (y ∷ xs) x (zero, h, e) fails =
    let dropped : test y ≡ false = subst (λ z. test z ≡ false) (sym e) fails in
    omega (arith, ap length (cond-false (test y) (y ∷ filter test xs) (filter test xs) dropped), length-filter test xs, count_by-le-length test xs)
filter_less test (y ∷ xs) x (suc k, h, e) fails =
    let rest : length (filter test xs) < length xs = filter_less test xs x (k, omega (arith, h), e) fails in
    elim (cases_Bool (test y)) [
      | inl kept ↦ omega (arith, rest, ap length (cond-true (test y) (y ∷ filter test xs) (filter test xs) kept))
      | inr dropped ↦ omega (arith, rest, ap length (cond-false (test y) (y ∷ filter test xs) (filter test xs) dropped))
    ]
