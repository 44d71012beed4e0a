-- The answer for a wish is decided.
use Rattle.std.specs.Prelude.{◌≡◌, ℕ, List}
use Rattle.cca_base.specs.declared.formula.Formula.{Formula}
use Rattle.cca_base.specs.Accepted.{CompiledModel, IsCompiled}
use Rattle.goal_interpreter.specs.declared.target.Target.{Target}
use Rattle.goal_interpreter.specs.Targets.{IsTargetFor}

-- there is one answer at most for a wish: Found, Nowhere and Many exclude one another, and state, weight and goal are decided
abbrev pub OneAnswer : Type 0
OneAnswer = (b : CompiledModel) (weights : List (List ℕ)) (s : List ℕ) (f : Formula) (x y : Target) → IsCompiled b
    → IsTargetFor b weights s f x → IsTargetFor b weights s f y → x ≡ y
