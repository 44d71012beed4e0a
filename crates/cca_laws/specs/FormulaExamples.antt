-- Small formulas: how deep they are, and which fit.
use Rattle.std.specs.Prelude.{◌≡◌, true, false, ℕ, [], ◌∷◌}
use Rattle.cca_base.specs.declared.formula.Formula.{Formula, roll-Formula}
use Rattle.cca_base.specs.declared.formula.Formula.TheOpen.{Formula-F}
use Rattle.cca_base.specs.declared.formula.Subject.TheVariants.{Component}
use Rattle.cca_base.specs.Formula.{depth, fits, is_choice_of}

-- the component's mode is in the set, which is written as a number
abbrev pub mode_in : ℕ → ℕ → Formula
mode_in c set = roll-Formula (Formula-F.Among (Component c) set)

-- `not` before a formula
abbrev pub negated : Formula → Formula
negated f = roll-Formula (Formula-F.Not f)

-- `and` between two formulas
abbrev pub both : Formula → Formula → Formula
both f g = roll-Formula (Formula-F.All (f ∷ g ∷ []))

-- `or` between two formulas
abbrev pub either : Formula → Formula → Formula
either f g = roll-Formula (Formula-F.Any (f ∷ g ∷ []))

-- `not (a = p and (b = q or not b = n))` has depth 7: each pair of parentheses counts
abbrev pub DepthIsSeven : Type 0
DepthIsSeven = depth (negated (both (mode_in 0 1) (either (mode_in 1 1) (negated (mode_in 1 2))))) ≡ 7

-- of two modes the empty set is no choice, both together are one, and a third mode is none
abbrev pub ChoicesOfTwo : Type 0
ChoicesOfTwo = (is_choice_of 2 0 ≡ false) × (is_choice_of 2 3 ≡ true) × (is_choice_of 2 4 ≡ false)

-- an `and` of one part does not fit, though the part does
abbrev pub OnePartDoesNotFit : Type 0
OnePartDoesNotFit = (fits (2 ∷ []) [] (roll-Formula (Formula-F.All (mode_in 0 1 ∷ []))) ≡ false) × (fits (2 ∷ []) [] (mode_in 0 1) ≡ true)

-- a mode in the empty set does not fit
abbrev pub NoneAmongDoesNotFit : Type 0
NoneAmongDoesNotFit = fits (2 ∷ []) [] (mode_in 0 0) ≡ false
