-- The edges of what is well formed.
use Rattle.std.specs.Prelude.{◌≡◌, true, false, ℕ, ◌+◌, ◌/◌, ◌%◌, zero, suc, List, [], ◌∷◌, length, codes}
use Rattle.cca_base.specs.declared.limits.TheConstants.{MAX_CHOICES}
use Rattle.cca_base.specs.PlantModel.{PlantModel}
use Rattle.cca_base.specs.Names.{is_name}
use Rattle.cca_base.specs.Model.{WellFormed, AreChoices, with_failure}
use Rattle.cca_laws.specs.Examples.{lamp, on_move, off_move}

-- a reserved word, a word with a capital and the empty text are no names
abbrev pub WhichAreNames : Type 0
WhichAreNames = (is_name (codes "and") ≡ false) × (is_name (codes "Valve") ≡ false) × (is_name [] ≡ false) × (is_name (codes "valve") ≡ true)

-- the lamp with a failure from off to on
abbrev pub failing_lamp : ℕ → ℕ → PlantModel
failing_lamp component cost = with_failure lamp (record { component = component; source = 0; target = 1; cost = cost })

-- a failure of a component that is not there is not well formed
abbrev pub ForeignFailure : Type 0
ForeignFailure = WellFormed (failing_lamp 99 1) → ⊥

-- costs from 1 to 1,000,000 are well formed, and those beside them are not
abbrev pub CostsAtTheEdge : Type 0
CostsAtTheEdge = (WellFormed (failing_lamp 0 0) → ⊥) × WellFormed (failing_lamp 0 1) × WellFormed (failing_lamp 0 1000000) × (WellFormed (failing_lamp 0 1000001) → ⊥)

-- with its moves swapped the lamp's commands are out of first use
abbrev pub OutOfFirstUse : Type 0
OutOfFirstUse = WellFormed (record lamp { moves = off_move ∷ on_move ∷ [] }) → ⊥

-- no values at all are too few, and a value that comes twice is not allowed
abbrev pub WhichAreChoices : Type 0
WhichAreChoices = (AreChoices [] → ⊥) × AreChoices (codes "a" ∷ []) × (AreChoices (codes "a" ∷ codes "a" ∷ []) → ⊥)

-- so many names of two letters, of which the first tells the eights and the second what is left
abbrev pub two_letters : ℕ → List (List ℕ)
two_letters zero = []
two_letters (suc n) = ((97 + n / 8) ∷ (97 + n % 8) ∷ []) ∷ two_letters n

-- as many names as there may be choices may be values
abbrev pub MostAreChoices : Type 0
MostAreChoices = AreChoices (two_letters MAX_CHOICES)

-- one value more is too many
abbrev pub OneMoreIsTooMany : Type 0
OneMoreIsTooMany = (choices : List (List ℕ)) → length choices ≡ MAX_CHOICES + 1 → AreChoices choices → ⊥
