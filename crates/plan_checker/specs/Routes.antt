-- What is found of a command and its route.
use Rattle.std.specs.Prelude.{◌≡◌, ◌⊎◌, ℕ, List, Option, IfSome}
use Rattle.cca_base.specs.declared.cube.Pair.{Pair}
use Rattle.cca_base.specs.declared.events.Route.{Route}
use Rattle.cca_base.specs.PlantModel.{PlantModel}
use Rattle.cca_base.specs.Repairs.{Mending}
use Rattle.cca_base.specs.State.{Extends}
use Rattle.cca_base.specs.Steps.{Step, Run}
use Rattle.cca_base.specs.Trace.{ExecutiveState}
use Rattle.plan_checker.specs.declared.reasons.TheConstants.{STEP, PLAN, GOAL, BACK, ANSWER, LONG}
use Rattle.plan_checker.specs.declared.verdict.Verdict.{Verdict}
use Rattle.plan_checker.specs.declared.verdict.Verdict.TheVariants.{Yes, No}
use Rattle.plan_checker.specs.Reasons.{Printed, OnCommands, IsPlanFrom, IsWayBack, SendsStep, PrintsPlan, ReachesGoal, LeadsBack, AnswersGoal, WritesRoute}

-- the verdict on the tests of a command, its plan, the goal and the way back alone: the first that fails, or yes
abbrev pub IsVerdictOn : Type 0 → Type 0 → Type 0 → Type 0 → Verdict → Type 0
IsVerdictOn step plan goal back Yes = step × plan × goal × back
IsVerdictOn step plan goal back (No reason) =
    ((reason ≡ STEP) × (step → ⊥))
    ⊎ (((reason ≡ PLAN) × step × (plan → ⊥))
    ⊎ (((reason ≡ GOAL) × step × plan × (goal → ⊥)) ⊎ ((reason ≡ BACK) × step × plan × goal × (back → ⊥))))

-- the verdict on a command and its route from a state
abbrev pub IsRouteVerdict : PlantModel → List ℕ → Option (List Pair) → ℕ → Route → Verdict → Type 0
IsRouteVerdict m s goal k r = IsVerdictOn
    ((next : List ℕ) × Step m s k next)
    (OnCommands r.plan (IsPlanFrom m s k))
    (OnCommands r.plan (λ ks. (there : List ℕ) → Run m s ks there → IfSome goal (Extends there)))
    (OnCommands r.plan (λ ks. OnCommands r.back (IsWayBack m s ks)))

-- the commands lead from a state to a mending of another
abbrev pub EndsInMending : PlantModel → List ℕ → List ℕ → List ℕ → Type 0
EndsInMending m s there ls = (last : List ℕ) × Run m there ls last × Mending m s last

-- the verdict on the tests of a sent command
abbrev pub IsSendVerdict : PlantModel → ExecutiveState → Printed → Verdict → Type 0
IsSendVerdict m x t = IsVerdictOn (SendsStep m t) (PrintsPlan m t) (ReachesGoal m x t) (LeadsBack m t)

-- the verdict on the tests of the answer and of what is written out
abbrev pub IsAnswerVerdict : ExecutiveState → Printed → Verdict → Type 0
IsAnswerVerdict x t Yes = AnswersGoal x t.report.shown × WritesRoute t
IsAnswerVerdict x t (No reason) =
    ((reason ≡ ANSWER) × (AnswersGoal x t.report.shown → ⊥)) ⊎ ((reason ≡ LONG) × AnswersGoal x t.report.shown × (WritesRoute t → ⊥))
