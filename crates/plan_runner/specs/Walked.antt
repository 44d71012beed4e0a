-- Plans that are made command by command.
use Rattle.std.specs.Prelude.{◌≡◌, ◌<◌, ◌≤◌, ℕ, List, [], ◌∷◌, length}
use Rattle.cca_base.specs.declared.cube.Pair.{Pair}
use Rattle.cca_base.specs.declared.limits.TheConstants.{MAX_PLAN}
use Rattle.cca_base.specs.Accepted.{CompiledModel}
use Rattle.cca_base.specs.State.{Extends}
use Rattle.cca_base.specs.Steps.{Step}
use Rattle.cca_base.specs.Choice.{PicksForGoal}
use Rattle.cca_base.specs.Plans.{Whole}
use Rattle.plan_runner.specs.declared.walked.Walked.{Walked}
use Rattle.plan_runner.specs.declared.walked.Walked.TheVariants.{Ended, Endless}

-- the picked commands so far, each applied as its step; the goal stood at none of the states before the last
abbrev pub WholeTo : CompiledModel → List Pair → List ℕ → List ℕ → List ℕ → Type 0
WholeTo b goal s [] at = at ≡ s
WholeTo b goal s (k ∷ ks) at =
    (Extends s goal → ⊥) × PicksForGoal b s goal k × (next : List ℕ) × Step b.model s k next × WholeTo b goal next ks at

-- the whole plan and its end, or there are too many commands
abbrev pub IsWalked : CompiledModel → List Pair → List ℕ → Walked → Type 0
IsWalked b goal s (Ended plan end) = Whole b goal s plan end.modes × (length plan ≤ MAX_PLAN)
IsWalked b goal s Endless = (ks last : List ℕ) × Whole b goal s ks last × (MAX_PLAN < length ks)
