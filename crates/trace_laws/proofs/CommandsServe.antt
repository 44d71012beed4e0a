-- A stretch of right ticks with one goal, seen as states and replies.
use Rattle.std.proofs.Common.{◌≡◌, ◌<◌, ◌≤◌, ℕ, zero, suc, ◌+◌, Bool, true, false, cond, List, [], ◌∷◌, length, count_by, None, Some, All, Contains, slice_get, inl, refl, sym, ap, subst, arith}
use Rattle.std.proofs.lemmas.List.Elements.{All-nil, All-cons, All-contains, All-filter, All-tail, All-head}
use Rattle.std.proofs.lemmas.List.Sums.{sum_by-cons}
use Rattle.std.proofs.lemmas.Option.{slice_get_within, get_or_from_slice_get, same_Some}
use Rattle.cca_base.specs.declared.cube.Pair.{Pair}
use Rattle.cca_base.specs.declared.events.Reply.{Reply}
use Rattle.cca_base.specs.declared.events.Reply.TheVariants.{Idle, Send, Achieved, Unreachable}
use Rattle.cca_base.specs.PlantModel.{PlantModel}
use Rattle.cca_base.specs.Accepted.{CompiledModel}
use Rattle.cca_base.specs.Model.{WellFormed}
use Rattle.cca_base.specs.State.{IsState, Extends}
use Rattle.cca_base.specs.Repairs.{pairs_of}
use Rattle.cca_base.specs.Steps.{Step, Reach, support, AreReached}
use Rattle.cca_base.specs.Successors.{Nominal}
use Rattle.cca_base.specs.Goals.{IsFirstUnreached}
use Rattle.cca_base.specs.Choice.{PicksForGoal, IsChosenReply}
use Rattle.cca_base.specs.Plans.{Whole}
use Rattle.cca_base.specs.Trace.{command_of}
use Rattle.cca_base.specs.Runs.{TickRecord, reply_at, is_send, is_unreachable}
use Rattle.list_laws.proofs.Elements.{contains_middle}
use Rattle.list_laws.proofs.Members.{all_from}
use Rattle.cca_base.proofs.Members.{stands_in}
use Rattle.cca_laws.specs.Laws.{NoneTwice}
use Rattle.cca_base.proofs.NominalLaws.{one_nominal, nominal_is_free, stays}
use Rattle.cca_laws.proofs.GoalLaws.{sends_serve, standing_is_reached}
use Rattle.cca_laws.proofs.OnePick.{one_command}
use Rattle.trace_laws.specs.Served.{IsMeasure}

-- ---- steps

-- a state has what a move may lean on in it
pub supported : (m : PlantModel) (s : List ℕ) (k : ℕ) (t : List ℕ) → (step : Step m s k t) → Extends s (support m s step.move)
supported m s k t step =
    let Stands : Pair → Type 0 = λ p. slice_get s p.item ≡ Some p.value in
    All-cons Stands (record { item = step.move.component; value = step.move.source }) _ step.source
    (All-filter _ Stands (pairs_of s) (all_from Stands (pairs_of s) (stands_in s)))

step_is_nominal : (m : PlantModel) (s : List ℕ) (k : ℕ) (t : List ℕ) → IsState m s → Step m s k t → Nominal m s (Some k) t
step_is_nominal m s k t state step =
    inl (step.move, record { of_model = step.of_model; command = ap Some (sym step.command); source = step.source; guard = step.guard s state (supported m s k t step) }, step.gives)

module _ (b : CompiledModel) (good : WellFormed b.model) (goal : List Pair) where
  one_step : (s : List ℕ) (k : ℕ) (t u : List ℕ) → IsState b.model s → Step b.model s k t → Step b.model s k u → t ≡ u
  one_step s k t u state h g = one_nominal b.model s (Some k) t u good.commands (step_is_nominal b.model s k t state h) (step_is_nominal b.model s k u state g)

  step_state : (s : List ℕ) (k : ℕ) (t : List ℕ) → IsState b.model s → Step b.model s k t → IsState b.model t
  step_state s k t state h = (nominal_is_free b.model s t (Some k) good state (step_is_nominal b.model s k t state h)).state

  -- ---- how many picked commands are left

  -- after at most n picked commands the goal stands
  abbrev pub Left : ℕ → List ℕ → Type 0
  Left zero s = Extends s goal
  Left (suc n) s = (k : ℕ) (next : List ℕ) → PicksForGoal b s goal k → Step b.model s k next → AreReached b.model next goal → Left n next

  pub left_of_whole : NoneTwice b.order → (ks : List ℕ) (s last : List ℕ) → IsState b.model s → Whole b goal s ks last → Left (length ks) s
  left_of_whole once [] s last state h = h.0
  left_of_whole once (k ∷ ks) s last state (lacks, picks, next, step, rest) = λ l other picked taken reached.
      let same : k ≡ l = one_command b s once goal k l picks picked in
      let there : next ≡ other = one_step s l next other state (subst (λ n. Step b.model s n next) same step) taken in
      subst (Left (length ks)) there (left_of_whole once ks next last (step_state s k next state step) rest)

  pub left_of_measure : (left : List ℕ → ℕ) → IsMeasure b goal left → (n : ℕ) (s : List ℕ) → IsState b.model s → AreReached b.model s goal → left s ≤ n → Left n s
  left_of_measure left h zero s state reached below = h.stands s state reached (omega (arith, below))
  left_of_measure left h (suc n) s state reached below = λ k next picks step again.
      left_of_measure left h n next (step_state s k next state step) again (omega (arith, below, h.falls s next k state reached picks step))

  -- ---- a stretch

  -- from the state on, each tick's reply is the chosen one, and its command takes the state on
  abbrev pub Serving : List ℕ → List TickRecord → Type 0
  Serving s [] = Unit {0}
  Serving s (t ∷ ts) =
      (reply : Reply) × (reply_at t ≡ Some reply) × IsChosenReply b s goal reply × (next : List ℕ) × Nominal b.model s (command_of reply) next × Serving next ts

  -- the goal is served within n commands
  pub record IsServed (n : ℕ) (ts : List TickRecord) : Type 0 where
    pub reached : All (λ t. is_unreachable (reply_at t) ≡ false) ts
    pub few : count_by (λ t. is_send (reply_at t)) ts ≤ n
    pub stays : (first later : ℕ) (t u : TickRecord) → first < later → slice_get ts first ≡ Some t → slice_get ts later ≡ Some u → reply_at t ≡ Some Achieved → is_send (reply_at u) ≡ false
    pub stands : (late : ℕ) (t : TickRecord) → n ≤ late → slice_get ts late ≡ Some t → reply_at t ≡ Some Achieved

  abbrev Achieves : TickRecord → Type 0
  Achieves t = reply_at t ≡ Some Achieved

  unmoved : (s next : List ℕ) → Nominal b.model s None next → s ≡ next
  unmoved s next h = one_nominal b.model s None s next good.commands (stays b.model s) h

  -- a goal that stands is achieved from then on
  achieved : (s : List ℕ) (ts : List TickRecord) → Extends s goal → Serving s ts → All Achieves ts
  achieved s [] stands h = All-nil Achieves
  achieved s (t ∷ ts) stands (Achieved, e, chosen, next, moves, rest) =
      All-cons Achieves t ts e (achieved next ts (subst (λ z. Extends z goal) (unmoved s next moves) stands) rest)
  achieved s (t ∷ ts) stands (Idle, e, chosen, next, moves, rest) = absurd chosen.good
  achieved s (t ∷ ts) stands (Send k, e, chosen, next, moves, rest) = absurd ((sends_serve b.model s goal k chosen.good).0 stands)
  achieved s (t ∷ ts) stands (Unreachable c mode, e, chosen, next, moves, rest) = absurd (standing_is_reached b.model s goal c mode stands chosen.good)

  counted : (t : TickRecord) (ts : List TickRecord) → count_by (λ t. is_send (reply_at t)) (t ∷ ts) ≡ cond (is_send (reply_at t)) 1 0 + count_by (λ t. is_send (reply_at t)) ts
  counted t ts = sum_by-cons (λ t. cond (is_send (reply_at t)) 1 0) t ts

  one_at_most : (x : Bool) → cond x 1 0 ≤ 1
  one_at_most true = omega arith
  one_at_most false = omega arith

  none_sent : (ts : List TickRecord) → All Achieves ts → count_by (λ t. is_send (reply_at t)) ts ≡ 0
  none_sent [] h = refl
  none_sent (t ∷ ts) h =
      let own : cond {A = ℕ} (is_send (reply_at t)) 1 0 ≡ 0 = ap (λ r. cond {A = ℕ} (is_send r) 1 0) (All-head Achieves t ts h) in
      omega (arith, counted t ts, own, none_sent ts (All-tail Achieves t ts h))

  at_all : (ts : List TickRecord) (i : ℕ) (t : TickRecord) → All Achieves ts → slice_get ts i ≡ Some t → Achieves t
  at_all ts i t h e = All-contains Achieves ts t h (i, slice_get_within ts i t e, get_or_from_slice_get ts i t t e)

  served_achieved : (n : ℕ) (ts : List TickRecord) → All Achieves ts → IsServed n ts
  served_achieved n ts h = record {
    reached = λ i d within. ap is_unreachable (h i d within);
    few = omega (arith, none_sent ts h);
    stays = λ first later t u before at there is. ap is_send (at_all ts later u h there);
    stands = λ late t over at. at_all ts late t h at;
  }

  not_achieved : (k : ℕ) (t : TickRecord) → reply_at t ≡ Some (Send k) → reply_at t ≡ Some Achieved → ⊥
  not_achieved k t e f = absurd cc

  later_stays : (n k : ℕ) (t : TickRecord) (ts : List TickRecord) → reply_at t ≡ Some (Send k) → IsServed n ts → (first later : ℕ) (v u : TickRecord) → first < later
      → slice_get (t ∷ ts) first ≡ Some v → slice_get (t ∷ ts) later ≡ Some u → reply_at v ≡ Some Achieved → is_send (reply_at u) ≡ false
  later_stays n k t ts e h first zero v u before at there is = absurd (omega (arith, before))
  later_stays n k t ts e h zero (suc later) v u before at there is = absurd (not_achieved k v (subst (λ z. reply_at z ≡ Some (Send k)) (same_Some t v at) e) is)
  later_stays n k t ts e h (suc first) (suc later) v u before at there is = h.stays first later v u (omega (arith, before)) at there is

  late_stands : (n : ℕ) (t : TickRecord) (ts : List TickRecord) → IsServed n ts → (late : ℕ) (v : TickRecord) → suc n ≤ late → slice_get (t ∷ ts) late ≡ Some v → reply_at v ≡ Some Achieved
  late_stands n t ts h zero v over at = absurd (omega (arith, over))
  late_stands n t ts h (suc late) v over at = h.stands late v (omega (arith, over)) at

  served_after : (n k : ℕ) (t : TickRecord) (ts : List TickRecord) → reply_at t ≡ Some (Send k) → IsServed n ts → IsServed (suc n) (t ∷ ts)
  served_after n k t ts e h = record {
    reached = All-cons (λ t. is_unreachable (reply_at t) ≡ false) t ts (ap is_unreachable e) h.reached;
    few = omega (arith, counted t ts, one_at_most (is_send (reply_at t)), h.few);
    stays = later_stays n k t ts e h;
    stands = late_stands n t ts h;
  }

  unreached : (s : List ℕ) (p : Pair) → AreReached b.model s goal → IsFirstUnreached b.model s goal p → ⊥
  unreached s p h k = k.unreached (All-contains (λ q. Reach b.model s q.item q.value) goal p h (subst (λ l. Contains l p) (sym k.split) (contains_middle k.before k.after p)))

  pub served : (n : ℕ) (s : List ℕ) (ts : List TickRecord) → IsState b.model s → AreReached b.model s goal → Left n s → Serving s ts → IsServed n ts
  served n s [] state reached left h = served_achieved n [] (All-nil Achieves)
  served n s (t ∷ ts) state reached left (Achieved, e, chosen, next, moves, rest) =
      served_achieved n (t ∷ ts) (achieved s (t ∷ ts) chosen.good (Achieved, e, chosen, next, moves, rest))
  served n s (t ∷ ts) state reached left (Idle, e, chosen, next, moves, rest) = absurd chosen.good
  served n s (t ∷ ts) state reached left (Unreachable c mode, e, chosen, next, moves, rest) = absurd (unreached s _ reached chosen.good)
  served zero s (t ∷ ts) state reached left (Send k, e, chosen, next, moves, rest) = absurd ((sends_serve b.model s goal k chosen.good).0 left)
  served (suc n) s (t ∷ ts) state reached left (Send k, e, chosen, next, moves, rest) =
      let plan = chosen.good.1 in
      let step : Step b.model s k plan.plan.0 = plan.plan.1.step in
      let there : plan.plan.0 ≡ next = one_nominal b.model s (Some k) plan.plan.0 next good.commands (step_is_nominal b.model s k plan.plan.0 state step) moves in
      let again : AreReached b.model plan.plan.0 goal = λ i d within. (plan.others, plan.last, plan.plan.2, plan.stands i d within) in
      served_after n k t ts e
      (served n next ts (subst (IsState b.model) there (step_state s k plan.plan.0 state step)) (subst (λ z. AreReached b.model z goal) there again)
      (subst (Left n) there (left k plan.plan.0 (chosen.picked k refl) step again)) rest)
