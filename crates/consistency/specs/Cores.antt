-- Which of the assumed pairs have to do with a clash, and which pairs some state with a world extends.
use Rattle.std.specs.Prelude.{ℕ, List, filter, Option}
use Rattle.cca_base.specs.declared.cube.Pair.{Pair}
use Rattle.cca_base.specs.declared.formula.Formula.{Formula}
use Rattle.cca_base.specs.PlantModel.{PlantModel}
use Rattle.cca_base.specs.Cube.{IsPart}
use Rattle.cca_base.specs.Repairs.{pairs_of}
use Rattle.cca_base.specs.Shown.{CanShow, Clash}
use Rattle.cca_base.specs.State.{IsState, Extends}
use Rattle.clash_analysis.specs.declared.subjects.SubjectSet.{SubjectSet}
use Rattle.clash_analysis.specs.Subjects.{is_in}
use Rattle.world_search.specs.declared.answer.Answer.{Answer}
use Rattle.world_search.specs.declared.answer.Answer.TheVariants as answers
use Rattle.consistency.specs.Found.{FitsAndDenies}

-- the pairs that are of these subjects
abbrev pub pairs_in : SubjectSet → List Pair → List Pair
pairs_in subjects pairs = filter (λ p. is_in subjects p.item) pairs

-- the pairs that are of these subjects clash by themselves
abbrev pub IsCore : PlantModel → List Pair → List Pair → SubjectSet → Type 0
IsCore m seen pairs subjects = Clash m seen (pairs_in subjects pairs)

-- some state that extends the pairs has a world with the values that are seen
abbrev pub IsShowable : PlantModel → List Pair → List Pair → Type 0
IsShowable m seen pairs = (s : List ℕ) × IsState m s × Extends s pairs × CanShow m s seen

-- a part of the state's pairs which no state with a world that has the values extends
pub record IsClashOf (m : PlantModel) (s : List ℕ) (seen cube : List Pair) : Type 0 where
  pub part : IsPart cube (pairs_of s)
  pub clash : Clash m seen cube

-- something fits, and has the denied formula false, if there is one; or nothing fits that has the pairs of these subjects
abbrev pub IsFitting : PlantModel → List Pair → List Pair → Option Formula → Answer → Type 0
IsFitting m modes seen denied answers.Agrees = (s : List ℕ) × (w : List ℕ) × FitsAndDenies m modes seen denied s w
IsFitting m modes seen denied (answers.Clash set) = (s w : List ℕ) → FitsAndDenies m (pairs_in set modes) seen denied s w → ⊥

-- some world of the state has the values that are seen; or its pairs that are of these subjects clash
abbrev pub IsShowing : PlantModel → List ℕ → List Pair → Answer → Type 0
IsShowing m s seen answers.Agrees = CanShow m s seen
IsShowing m s seen (answers.Clash set) = IsCore m seen (pairs_of s) set
