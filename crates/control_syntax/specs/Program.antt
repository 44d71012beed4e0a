-- What a control program speaks of: its pairs, its formulas and its numbers.
use Rattle.std.specs.Prelude.{◌≡◌, ◌≤◌, ℕ, false, List, [], ◌∷◌, ◌++◌, flat_map, All}
use Rattle.cca_base.specs.declared.cube.Pair.{Pair}
use Rattle.cca_base.specs.declared.formula.Formula.{Formula}
use Rattle.cca_base.specs.Model.{HasMode, IsFormula, is_broken}
use Rattle.cca_base.specs.PlantModel.{PlantModel}
use Rattle.control_syntax.specs.declared.part.Part.{Part}
use Rattle.control_syntax.specs.declared.part.Part.TheOpen.{Part-F}
use Rattle.control_syntax.specs.declared.part.Part.TheFolds.{fold-Part}

-- the pairs that a part's `reach` lines ask for, of one layer
abbrev pub pairs_step : Part-F (List Pair) → List Pair
pairs_step (Part-F.Reach pairs) = pairs
pairs_step (Part-F.Await f) = []
pairs_step (Part-F.Seq parts) = flat_map (λ ps. ps) parts
pairs_step (Part-F.Both parts) = flat_map (λ ps. ps) parts
pairs_step (Part-F.Choose f a b) = a ++ b
pairs_step (Part-F.Repeat n a) = a

-- the pairs that a program asks for, in the order of its lines
abbrev pub pairs_of : Part → List Pair
pairs_of = fold-Part (List Pair) pairs_step

-- the formulas on which a part waits or chooses, of one layer
abbrev pub formulas_step : Part-F (List Formula) → List Formula
formulas_step (Part-F.Reach pairs) = []
formulas_step (Part-F.Await f) = f ∷ []
formulas_step (Part-F.Seq parts) = flat_map (λ fs. fs) parts
formulas_step (Part-F.Both parts) = flat_map (λ fs. fs) parts
formulas_step (Part-F.Choose f a b) = f ∷ a ++ b
formulas_step (Part-F.Repeat n a) = a

-- the formulas on which a program waits or chooses, in the order of its lines
abbrev pub formulas_of : Part → List Formula
formulas_of = fold-Part (List Formula) formulas_step

-- how often a part's `repeat` blocks go round, of one layer
abbrev pub numbers_step : Part-F (List ℕ) → List ℕ
numbers_step (Part-F.Reach pairs) = []
numbers_step (Part-F.Await f) = []
numbers_step (Part-F.Seq parts) = flat_map (λ ns. ns) parts
numbers_step (Part-F.Both parts) = flat_map (λ ns. ns) parts
numbers_step (Part-F.Choose f a b) = a ++ b
numbers_step (Part-F.Repeat n a) = n ∷ a

-- how often a program's `repeat` blocks go round, in the order of its lines
abbrev pub numbers_of : Part → List ℕ
numbers_of = fold-Part (List ℕ) numbers_step

-- each `repeat` goes round once at least
abbrev pub RepeatsOnce : Part → Type 0
RepeatsOnce part = All (λ n. 1 ≤ n) (numbers_of part)

-- the pairs and formulas of the program are in range for the model
pub record IsInRange (m : PlantModel) (part : Part) : Type 0 where
  pub modes : All (λ p. HasMode m p.item p.value) (pairs_of part)
  pub formulas : All (IsFormula m) (formulas_of part)

-- the program may be run on the model: besides, it asks for no broken mode, and no `repeat` is empty of rounds
pub record MayRun (m : PlantModel) (part : Part) : Type 0 where
  pub range : IsInRange m part
  pub sound : All (λ p. is_broken m.moves p.item p.value ≡ false) (pairs_of part)
  pub once : RepeatsOnce part
