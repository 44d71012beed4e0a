-- The line of a No for each reason.
use Rattle.std.specs.Prelude.{◌≡◌, [], ◌∷◌, ◌++◌, codes}
use Rattle.plan_checker.specs.declared.reasons.TheConstants.{LINE, COST, WORLD, STEP, PLAN, GOAL, BACK, ANSWER, LONG}
use Rattle.check_form.specs.Verdicts.{no_line}

-- the reasons by their numbers and names
pub record ReasonsAreNamed : Type 0 where
  pub line : no_line 7 LINE ≡ codes "no 7 1 line" ++ 10 ∷ []
  pub cost : no_line 7 COST ≡ codes "no 7 2 cost" ++ 10 ∷ []
  pub world : no_line 7 WORLD ≡ codes "no 7 3 world" ++ 10 ∷ []
  pub step : no_line 7 STEP ≡ codes "no 7 4 step" ++ 10 ∷ []
  pub plan : no_line 7 PLAN ≡ codes "no 7 5 plan" ++ 10 ∷ []
  pub goal : no_line 7 GOAL ≡ codes "no 7 6 goal" ++ 10 ∷ []
  pub back : no_line 7 BACK ≡ codes "no 7 7 back" ++ 10 ∷ []
  pub answer : no_line 7 ANSWER ≡ codes "no 7 8 answer" ++ 10 ∷ []
  pub long : no_line 7 LONG ≡ codes "no 7 9 long" ++ 10 ∷ []
