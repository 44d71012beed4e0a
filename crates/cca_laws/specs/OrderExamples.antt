-- A guard that names more than it needs, and the order of its components.
use Rattle.std.specs.Prelude.{◌≡◌, ◌↔◌, ℕ, false, List, [], ◌∷◌, codes}
use Rattle.cca_base.specs.declared.cube.Pair.{Pair}
use Rattle.cca_base.specs.declared.formula.Formula.{Formula}
use Rattle.cca_base.specs.declared.model.Move.{Move}
use Rattle.cca_base.specs.PlantModel.{PlantModel}
use Rattle.cca_base.specs.Implicants.{PrimeImplicant, Needs}
use Rattle.cca_base.specs.Orders.{IsEffectsFirst}
use Rattle.cca_laws.specs.Examples.{component_of, moving}
use Rattle.cca_laws.specs.FormulaExamples.{mode_in, both, either}

-- (a = p and b = q) or (a = r and b = q)
abbrev pub wordy_guard : Formula
wordy_guard = either (both (mode_in 0 1) (mode_in 1 2)) (both (mode_in 0 2) (mode_in 1 2))

-- the move that has the guard
abbrev pub wordy_move : Move
wordy_move = record { component = 2; source = 0; target = 1; command = 0; repair = false; guard = wordy_guard }

-- a is p or r, b is n or q, and c is off or on
abbrev pub wordy : PlantModel
wordy =
    moving 1
    (component_of (codes "a") (codes "p" ∷ codes "r" ∷ []) ∷ component_of (codes "b") (codes "n" ∷ codes "q" ∷ []) ∷ component_of (codes "c") (codes "off" ∷ codes "on" ∷ []) ∷ [])
    (codes "c_on" ∷ []) (wordy_move ∷ [])

-- b = q
abbrev pub b_is_q : Pair
b_is_q = record { item = 1; value = 1 }

-- the only prime implicant is b = q, though the guard names a
abbrev pub OneImplicant : Type 0
OneImplicant = (cube : List Pair) → PrimeImplicant wordy wordy_move cube ↔ (cube ≡ b_is_q ∷ [])

-- so c needs b, and nothing else is needed
abbrev pub OneNeed : Type 0
OneNeed = (c u : ℕ) → Needs wordy c u ↔ ((c ≡ 2) × (u ≡ 1))

-- effects first the components are a, c, b
abbrev pub CauseComesLast : Type 0
CauseComesLast = IsEffectsFirst wordy (0 ∷ 2 ∷ 1 ∷ [])
