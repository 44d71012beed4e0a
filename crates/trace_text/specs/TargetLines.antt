-- The lines of a target and of the plan to it.
use Rattle.std.specs.Prelude.{ℕ, List, ◌∷◌, ◌++◌, codes}
use Rattle.std.specs.Fmt.{decimal}
use Rattle.cca_base.specs.declared.events.PlanEnd.{PlanEnd}
use Rattle.cca_base.specs.PlantModel.{PlantModel}
use Rattle.trace_text.specs.LineWords.{mode_words}
use Rattle.trace_text.specs.ProofLines.{plan_line}
use Rattle.trace_text.specs.Words.{spaced_line}

-- what a target weighs, and each component with its mode; and behind it the line of the plan
unfoldable pub target_text : PlantModel → ℕ → List ℕ → PlanEnd → List ℕ
target_text m weight modes plan = spaced_line (codes "target") (decimal weight ∷ mode_words m.components modes) ++ plan_line (codes "plan") m plan
