-- What the first code that applies says of the others.
use Rattle.std.proofs.Common.{◌≡◌, ℕ, Bool, true, false, List, ◌∷◌, None, refl}
use Rattle.formula_syntax.specs.Least.{least}

-- where no code applies, the first does not, and none of the others
pub least_none : (code : ℕ) (applies : Bool) (rest : List (ℕ × Bool)) → least ((code, applies) ∷ rest) ≡ None → (applies ≡ false) × (least rest ≡ None)
least_none code true rest e = absurd cc
least_none code false rest e = (refl, e)
