-- What is answered for a wish.
use Rattle.std.specs.Prelude.{◌≡◌, ℕ, List}
use Rattle.cca_base.specs.declared.cube.Pair.{Pair}
use Rattle.cca_base.specs.declared.formula.Formula.{Formula}
use Rattle.cca_base.specs.Accepted.{CompiledModel}
use Rattle.guard_compiler.specs.Wishes.{HasFewImplicants, HasManyImplicants}
use Rattle.wish_laws.specs.Settled.{IsGoalOf, IsTarget, NoneHolds, weight_of}
use Rattle.goal_interpreter.specs.declared.target.Target.{Target}
use Rattle.goal_interpreter.specs.declared.target.Target.TheVariants.{Found, Nowhere, Many}
use Rattle.goal_interpreter.specs.declared.target.TheConstants.{MAX_IMPLICANTS}

-- the wish has few implicants; the state is its target, with its weight and its goal
pub record IsFound (b : CompiledModel) (weights : List (List ℕ)) (s : List ℕ) (f : Formula) (t : List ℕ) (total : ℕ) (pairs : List Pair) : Type 0 where
  pub few : HasFewImplicants b.model f MAX_IMPLICANTS
  pub target : IsTarget b.model weights s f t
  pub weight : total ≡ weight_of weights t
  pub goal : IsGoalOf b t pairs

-- the answer for a wish: its target; that it has few implicants, and no settled state holds it; or that it has more
abbrev pub IsTargetFor : CompiledModel → List (List ℕ) → List ℕ → Formula → Target → Type 0
IsTargetFor b weights s f (Found state weight goal) = IsFound b weights s f state.modes weight goal.pairs
IsTargetFor b weights s f Nowhere = HasFewImplicants b.model f MAX_IMPLICANTS × NoneHolds b.model s f
IsTargetFor b weights s f Many = HasManyImplicants b.model f MAX_IMPLICANTS

-- a fact of the target and its goal, where one is found
abbrev pub IfFound : Target → (List ℕ → List Pair → Type 0) → Type 0
IfFound (Found state weight goal) P = P state.modes goal.pairs
IfFound Nowhere P = Unit {0}
IfFound Many P = Unit {0}
