-- A state and a line lead to one state and one text. The proofs stand here since a machine names them.
use Rattle.std.proofs.Common.{◌≡◌, ℕ, List, Option, Some, Result, Ok, refl, sym, ap, subst, ◌∙◌, arith}
use Rattle.cca_base.specs.Accepted.{CompiledModel, IsCompiled}
use Rattle.cca_base.specs.declared.cube.Pair.{Pair}
use Rattle.cca_base.specs.declared.events.PlanEnd.{PlanEnd}
use Rattle.cca_base.specs.declared.events.PlanEnd.TheVariants.{Plan, Long}
use Rattle.cca_base.specs.Plans.{ShowsPlan}
use Rattle.goal_interpreter.proofs.OneAnswer.{one_answer}
use Rattle.goal_interpreter.specs.declared.target.Target.{Target}
use Rattle.goal_interpreter.specs.declared.target.Target.TheVariants.{Found, Nowhere, Many}
use Rattle.line_machine.specs.Next.{Next}
use Rattle.model_form.specs.OneStep.{AreOne}
use Rattle.reach_laws.proofs.Picks.{one_whole}
use Rattle.trace_text.specs.TargetLines.{target_text}
use Rattle.want_lines.proofs.OneRequest.{requests_are_one}
use Rattle.want_lines.specs.declared.request.Request.{Request}
use Rattle.want_lines.specs.declared.request.Request.TheVariants.{Weight, At, Want}
use Rattle.want_form.specs.Answered.{ShowsWayTo, TargetText}
use Rattle.want_form.specs.WishMachine.{WishState, AnswersBy, ServesRequest, wish_lines}

-- a list is shown in one way
shown_one : (p q : PlanEnd) (ks : List ℕ) → ShowsPlan p ks → ShowsPlan q ks → p ≡ q
shown_one (Plan x) (Plan y) ks h k = ap (λ (z : List ℕ). Plan z) (h.0 ∙ sym k.0)
shown_one (Plan x) Long ks h k = absurd (omega (arith, h.1, k))
shown_one Long (Plan y) ks h k = absurd (omega (arith, k.1, h))
shown_one Long Long ks h k = refl

module _ (b : CompiledModel) (compiled : IsCompiled b) where
  -- the picked commands are shown in one way
  one_way_there : (s t : List ℕ) (goal : List Pair) (p q : PlanEnd) → ShowsWayTo b s t goal p → ShowsWayTo b s t goal q → p ≡ q
  one_way_there s t goal p q h k =
      let same = one_whole b goal s h.commands t k.commands t compiled h.whole k.whole in
      shown_one p q k.commands (subst (ShowsPlan p) same.0 h.shows) k.shows

  -- an answer has one text
  pub one_target_text : (s : List ℕ) (target : Target) (a c : List ℕ) → TargetText b s target a → TargetText b s target c → a ≡ c
  one_target_text s (Found state weight goal) a c (p, way, is) (q, way', was) =
      is ∙ ap (target_text b.model weight state.modes) (one_way_there s state.modes goal.pairs p q way way') ∙ sym was
  one_target_text s Nowhere a c h k = h ∙ sym k
  one_target_text s Many a c h k = absurd h

answers_one : (target : Target) (x : WishState) (n : ℕ) (u v : Next WishState) (a c : List ℕ) → IsCompiled x.compiled → AnswersBy target x n u a → AnswersBy target x n v c → AreOne u v a c
answers_one (Found state weight goal) x n u v a c compiled h k = (h.0 ∙ sym k.0, one_target_text x.compiled compiled x.settings.modes (Found state weight goal) a c h.1 k.1)
answers_one Nowhere x n u v a c compiled h k = (h.0 ∙ sym k.0, h.1 ∙ sym k.1)
answers_one Many x n u v a c compiled h k = (h.0 ∙ sym k.0, h.1 ∙ sym k.1)

request_one : (r : Request) (x : WishState) (n : ℕ) (u v : Next WishState) (a c : List ℕ) → IsCompiled x.compiled → ServesRequest r x n u a → ServesRequest r x n v c → AreOne u v a c
request_one (Weight p weight) x n u v a c compiled h k = (h.0 ∙ sym k.0, h.1 ∙ sym k.1)
request_one (At pairs) x n u v a c compiled h k = (h.0 ∙ sym k.0, h.1 ∙ sym k.1)
request_one (Want formula) x n u v a c compiled (t, is, h) (s, was, k) =
    let same = one_answer x.compiled x.settings.weights x.settings.modes formula compiled t s is was in
    answers_one s x n u v a c compiled (subst (λ (z : Target). AnswersBy z x n u a) same h) k

pub said_one : (x : WishState) (l : List ℕ) (a b : Result (Option Request) ℕ) → wish_lines.said x l a → wish_lines.said x l b → a ≡ b
said_one x l a b h k = requests_are_one x.compiled.model l a b h.1 k.1

pub serves_one : (r : Request) (x : WishState) (l : List ℕ) (n : ℕ) (u v : Next WishState) (a c : List ℕ) → wish_lines.said x l (Ok (Some r)) → ServesRequest r x n u a → ServesRequest r x n v c → AreOne u v a c
serves_one r x l n u v a c says h k = request_one r x n u v a c says.0 h k
