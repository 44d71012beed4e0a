-- What is printed of wishes.
use Rattle.std.specs.Prelude.{◌≡◌, ℕ, List, [], ◌∷◌, ◌++◌, codes}
use Rattle.cca_base.specs.Accepted.{CompiledModel}
use Rattle.cca_base.specs.Plans.{ShowsPlan, Whole}
use Rattle.cca_base.specs.Steps.{AllowedPlan}
use Rattle.cca_base.specs.declared.cube.Pair.{Pair}
use Rattle.cca_base.specs.declared.events.PlanEnd.{PlanEnd}
use Rattle.goal_interpreter.specs.Targets.{IsTargetFor}
use Rattle.goal_interpreter.specs.declared.target.Target.{Target}
use Rattle.goal_interpreter.specs.declared.target.Target.TheVariants.{Found, Nowhere, Many}
use Rattle.model_form.specs.Answers.{Saying}
use Rattle.model_form.specs.LinesEnds.{ending}
use Rattle.trace_text.specs.TargetLines.{target_text}
use Rattle.want_form.specs.Wishes.{Wish, Wishes, ReadsWishes, first_settings}

-- the picked commands for the goal, shown so: an allowed plan that ends in exactly the state
pub record ShowsWayTo (b : CompiledModel) (s t : List ℕ) (goal : List Pair) (shown : PlanEnd) : Type 0 where
  pub commands : List ℕ
  pub whole : Whole b goal s commands t
  pub allowed : AllowedPlan b.model s commands t
  pub shows : ShowsPlan shown commands

-- the line where there is no target
abbrev pub none_line : List ℕ
none_line = codes "none" ++ 10 ∷ []

-- the text of an answer: the target's line and that of the plan to it, or the line none
abbrev pub TargetText : CompiledModel → List ℕ → Target → List ℕ → Type 0
TargetText b s (Found state weight goal) text = (shown : PlanEnd) × ShowsWayTo b s state.modes goal.pairs shown × (text ≡ target_text b.model weight state.modes shown)
TargetText b s Nowhere text = text ≡ none_line
TargetText b s Many text = ⊥

-- the text of a wish is that of its target
abbrev pub WishText : CompiledModel → Wish → List ℕ → Type 0
WishText b w text = (target : Target) × IsTargetFor b w.settings.weights w.settings.modes w.formula target × TargetText b w.settings.modes target text

-- the texts of wishes, one behind the other
abbrev pub WishesText : CompiledModel → List Wish → List ℕ → Type 0
WishesText b [] text = text ≡ []
WishesText b (w ∷ ws) text = (first rest : List ℕ) × WishText b w first × WishesText b ws rest × (text ≡ first ++ rest)

-- what is printed of the lines behind the line `script`, which is of this number: the texts of their wishes, and the line of a refusal comes last
abbrev pub SaysWishes : Saying
SaysWishes b n ls e text =
    (r : Wishes) × (told : List ℕ) × ReadsWishes b.model (first_settings b.model) n ls r × WishesText b r.items told
    × (e ≡ (ending b.model r.ending).end) × (text ≡ told ++ (ending b.model r.ending).text)
