-- States and worlds that fit, and the first of them.
use Rattle.std.specs.Prelude.{◌≡◌, ℕ, false, IsTrue, List, Option, None, Some}
use Rattle.cca_base.specs.declared.cube.Pair.{Pair}
use Rattle.cca_base.specs.declared.formula.Formula.{Formula}
use Rattle.cca_base.specs.PlantModel.{PlantModel}
use Rattle.cca_base.specs.Formula.{truth}
use Rattle.cca_base.specs.State.{IsState, IsWorld, Extends}
use Rattle.cca_base.specs.Estimates.{IsEarlier}
use Rattle.clause_form.specs.Formulas.{is_denied}
use Rattle.consistency.specs.declared.found.Found.{Found}

-- a state that extends the modes, with a world of it that agrees with what is seen
pub record FitsSeen (m : PlantModel) (modes seen : List Pair) (s w : List ℕ) : Type 0 where
  pub state : IsState m s
  pub extends : Extends s modes
  pub world : IsWorld m s w
  pub agrees : Extends w seen

-- a state that extends the modes, with a world of it in which the formula is false
pub record Counters (m : PlantModel) (modes : List Pair) (f : Formula) (s w : List ℕ) : Type 0 where
  pub state : IsState m s
  pub extends : Extends s modes
  pub world : IsWorld m s w
  pub is_false : truth s w f ≡ false

-- no state with a world fits
abbrev pub NoneFits : PlantModel → List Pair → List Pair → Type 0
NoneFits m modes seen = (s w : List ℕ) → FitsSeen m modes seen s w → ⊥

-- the first of the states with worlds of which something is true: the first state in mode order, with its first world in value order
pub record IsFirstOf (P : List ℕ → List ℕ → Type 0) (s w : List ℕ) : Type 0 where
  pub is_one : P s w
  pub states : (s2 w2 : List ℕ) → P s2 w2 → IsEarlier s2 s → ⊥
  pub worlds : (w2 : List ℕ) → P s w2 → IsEarlier w2 w → ⊥

-- that first one, or none where there is none
abbrev pub IsFirstFound : (List ℕ → List ℕ → Type 0) → Option Found → Type 0
IsFirstFound P None = (s w : List ℕ) → P s w → ⊥
IsFirstFound P (Some f) = IsFirstOf P f.state.modes f.world.values

-- what fits, and has the denied formula false, if there is one
pub record FitsAndDenies (m : PlantModel) (modes seen : List Pair) (denied : Option Formula) (s w : List ℕ) : Type 0 where
  pub fits : FitsSeen m modes seen s w
  pub denies : IsTrue (is_denied s w denied)
