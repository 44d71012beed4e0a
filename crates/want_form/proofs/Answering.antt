-- What is printed for a wish is the text of its target.
use Rattle.std.proofs.Common.{◌≡◌, ℕ, List, refl, subst}
use Rattle.cca_base.specs.Accepted.{CompiledModel}
use Rattle.cca_base.specs.Plans.{Whole}
use Rattle.cca_base.specs.Steps.{AllowedPlan}
use Rattle.cca_base.specs.declared.cube.Pair.{Pair}
use Rattle.cca_base.specs.declared.events.PlanEnd.{PlanEnd}
use Rattle.cca_base.specs.declared.formula.Formula.{Formula}
use Rattle.cca_base.specs.declared.state.Goal.{Goal}
use Rattle.cca_base.specs.declared.state.State.{State}
use Rattle.goal_interpreter.specs.Targets.{IfFound, IsTargetFor}
use Rattle.goal_interpreter.specs.declared.target.Target.{Target}
use Rattle.goal_interpreter.specs.declared.target.Target.TheVariants.{Found, Nowhere}
use Rattle.line_machine.specs.Next.{GoesOn}
use Rattle.plan_runner.specs.Plans.{IsWholePlan}
use Rattle.policy_tables.specs.Tables.{TableParts}
use Rattle.trace_text.specs.TargetLines.{target_text}
use Rattle.wish_laws.specs.Settled.{PlansEndIn}
use Rattle.want_form.specs.Answered.{ShowsWayTo, none_line}
use Rattle.want_form.specs.WishMachine.{WishState, AnswersBy}

-- the whole plan for the target's goal is the way to the target
way_there : (t : TableParts) (s u : List ℕ) (goal : List Pair) (shown : PlanEnd) → PlansEndIn t.classes.compiled s goal u → IsWholePlan t s goal shown → ShowsWayTo t.classes.compiled s u goal shown
way_there t s u goal shown ends p =
    let last = ends p.commands p.last p.plan.whole in
    record {
      commands = p.commands;
      whole = subst (Whole t.classes.compiled goal s p.commands) last p.plan.whole;
      allowed = subst (AllowedPlan t.classes.compiled.model s p.commands) last p.plan.allowed;
      shows = p.shows;
    }

module _ (x : WishState) (n : ℕ) (formula : Formula) (t : TableParts) (s : List ℕ) (compiled : t.classes.compiled ≡ x.compiled) (from : s ≡ x.settings.modes) where
  -- the wish is answered so
  abbrev pub IsAnswered : List ℕ → Type 0
  IsAnswered text = (target : Target) × IsTargetFor x.compiled x.settings.weights x.settings.modes formula target × AnswersBy target x n (GoesOn x) text

  here : (P : CompiledModel → List ℕ → Type 0) → P t.classes.compiled s → P x.compiled x.settings.modes
  here P h = subst (λ (b : CompiledModel). P b x.settings.modes) compiled (subst (P t.classes.compiled) from h)

  pub found : (target : Target) (state : State) (weight : ℕ) (goal : Goal) (shown : PlanEnd) (text : List ℕ) → target ≡ Found state weight goal
      → IsTargetFor t.classes.compiled x.settings.weights s formula target → IfFound target (λ u pairs. PlansEndIn t.classes.compiled s pairs u)
      → IsWholePlan t s goal.pairs shown → text ≡ target_text x.compiled.model weight state.modes shown → IsAnswered text
  found target state weight goal shown text is h ends plan words =
      let of_wish = subst (IsTargetFor t.classes.compiled x.settings.weights s formula) is h in
      let there = subst (λ (z : Target). IfFound z (λ u pairs. PlansEndIn t.classes.compiled s pairs u)) is ends in (
        Found state weight goal,
        here (λ b z. IsTargetFor b x.settings.weights z formula (Found state weight goal)) of_wish,
        (refl, (shown, here (λ b z. ShowsWayTo b z state.modes goal.pairs shown) (way_there t s state.modes goal.pairs shown there plan), words)),
      )

  pub nowhere : (target : Target) (text : List ℕ) → target ≡ Nowhere → IsTargetFor t.classes.compiled x.settings.weights s formula target → text ≡ none_line → IsAnswered text
  nowhere target text is h words =
      (Nowhere, here (λ b z. IsTargetFor b x.settings.weights z formula Nowhere) (subst (IsTargetFor t.classes.compiled x.settings.weights s formula) is h), (refl, words))
