-- The formulas on which what is left of a program waits or chooses, and which of them may be asked of a model.
use Rattle.std.specs.Prelude.{List, [], ◌∷◌, ◌++◌, length, IsTrue}
use Rattle.cca_base.specs.declared.formula.Formula.{Formula}
use Rattle.cca_base.specs.Formula.{is_within}
use Rattle.cca_base.specs.PlantModel.{PlantModel}
use Rattle.control_laws.specs.Rest.{Rest as rest, Rests as rests}

unfoldable mutual
  -- the formulas that may be asked yet
  pub formulas_left : rest → List Formula
  formulas_left (rest.Reach g) = []
  formulas_left (rest.Await f) = f ∷ []
  formulas_left (rest.Seq xs) = all_formulas_left xs
  formulas_left (rest.Both xs) = all_formulas_left xs
  formulas_left (rest.Choose f a b) = f ∷ formulas_left a ++ formulas_left b
  formulas_left (rest.Repeat n body x) = formulas_left body ++ formulas_left x

  -- the formulas of several rests that may be asked yet
  pub all_formulas_left : rests → List Formula
  all_formulas_left rests.none = []
  all_formulas_left (rests.more x xs) = formulas_left x ++ all_formulas_left xs

-- each subject of the formula is one of the model's components and variables
abbrev pub IsWithin : PlantModel → Formula → Type 0
IsWithin m f = IsTrue (is_within (length m.components) (length m.variables) f)
