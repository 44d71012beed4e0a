-- Laws of the definitions.
use Rattle.std.specs.Prelude.{ℕ, IsTrue, List, length}
use Rattle.cca_base.specs.declared.formula.Formula.{Formula}
use Rattle.cca_base.specs.PlantModel.{PlantModel}
use Rattle.cca_base.specs.Formula.{is_within}
use Rattle.cca_base.specs.Model.{IsFormula}
use Rattle.cca_base.specs.State.{IsState, IsWorld}

-- a formula of a model speaks only of what its states and worlds have
abbrev pub FormulasAreWithin : Type 0
FormulasAreWithin = (m : PlantModel) (s w : List ℕ) (f : Formula) → IsFormula m f → IsState m s → IsWorld m s w → IsTrue (is_within (length s) (length w) f)
