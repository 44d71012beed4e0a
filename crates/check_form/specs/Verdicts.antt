-- The lines that are printed of a verdict on a trace.
use Rattle.std.specs.Prelude.{ℕ, List, [], ◌∷◌, ◌++◌, codes, if◌then◌else◌, ◌==◌}
use Rattle.std.specs.Fmt.{decimal}
use Rattle.plan_checker.specs.declared.reasons.TheConstants.{LINE, COST, WORLD, STEP, PLAN, GOAL, BACK, ANSWER}

-- the name of a reason
abbrev pub reason_name : ℕ → List ℕ
reason_name reason =
    if reason == LINE then codes "line"
    else (if reason == COST then codes "cost"
    else (if reason == WORLD then codes "world"
    else (if reason == STEP then codes "step"
    else (if reason == PLAN then codes "plan"
    else (if reason == GOAL then codes "goal"
    else (if reason == BACK then codes "back"
    else (if reason == ANSWER then codes "answer"
    else codes "long")))))))

-- the line of a No to a tick
abbrev pub no_line : ℕ → ℕ → List ℕ
no_line tick reason = codes "no " ++ decimal tick ++ 32 ∷ decimal reason ++ 32 ∷ reason_name reason ++ 10 ∷ []

-- the line of a trace all of whose ticks got a Yes
abbrev pub checked_line : ℕ → List ℕ
checked_line ticks = codes "checked " ++ decimal ticks ++ 10 ∷ []
