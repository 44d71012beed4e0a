-- What an answer of the rule says.
use Rattle.std.proofs.Common.{◌≡◌, ◌≤◌, ◌<◌, ◌↔◌, ℕ, true, false, List, [], ◌∷◌, length, slice_get, Some, All, Contains, refl, sym, subst, ◌∙◌, inl, inr, arith}
use Rattle.std.proofs.lemmas.Bool.{false_from_ne_true}
use Rattle.std.proofs.lemmas.List.Elements.{All-contains, Contains-append_left, Contains-append_right}
use Rattle.list_laws.proofs.Members.{all_from, contains_here}
use Rattle.cca_base.specs.declared.cube.Pair.{Pair}
use Rattle.cca_base.specs.declared.events.Reply.TheVariants as reply
use Rattle.cca_base.specs.Accepted.{CompiledModel}
use Rattle.cca_base.specs.Goals.{IsFirstUnreached}
use Rattle.cca_base.specs.Model.{HasMode, is_broken}
use Rattle.cca_base.specs.Orders.{IsFirstMissing}
use Rattle.cca_base.specs.Plans.{Promising, CanBeServed}
use Rattle.cca_base.specs.Runs.{is_unreachable}
use Rattle.cca_base.specs.State.{Extends}
use Rattle.cca_base.specs.Steps.{Reach, AreReached}
use Rattle.cca_base.specs.Choice.{IsChosenReply}
use Rattle.cca_base.proofs.Within.{mode_within}
use Rattle.cca_laws.proofs.GoalLaws.{same_split}
use Rattle.reach_laws.specs.Classes.{AreInside}
use Rattle.reach_laws.specs.Cells.{Finds}
use Rattle.reach_laws.specs.Plans.{IsAnswer}
use Rattle.reach_laws.proofs.Order.{order_from}
use Rattle.reach_laws.proofs.Cells.{missing_among}
use Rattle.reach_laws.proofs.CellLaws.{found_is_picked}
use Rattle.reach_laws.proofs.PlanLaws.{serialisation}
use Rattle.reach_laws.proofs.Trails.{order_few}
use Rattle.reach_laws.proofs.Answered.{answers_are_chosen}
use Rattle.reversibility.specs.ClassParts.{CoversState}
use Rattle.policy_tables.specs.Tables.{TableParts, IsTables}
use Rattle.planner_step.specs.declared.answer.Answer.{Answer}
use Rattle.planner_step.specs.declared.answer.Answer.TheVariants.{Send, Achieved, Unreachable}
use Rattle.planner_step.specs.Planning.{cells_of, member_of, reply_of, IsGoal}
use Rattle.planner_step.specs.Toward.{IsWantedPair}
use Rattle.planner_step.proofs.Covered.{setting, reach_from, reach_inside}
use Rattle.reach_laws.proofs.Later.{in_order_few}

same_pair : (c mode : ℕ) (p : Pair) → Unreachable c mode ≡ Unreachable p.item p.value → (c ≡ p.item) × (mode ≡ p.value)
same_pair c mode p h = (cc, cc)

-- the first pair that is not reached is one
one_unreached : (b : CompiledModel) (s : List ℕ) (goal : List Pair) (p q : Pair) → IsFirstUnreached b.model s goal p → IsFirstUnreached b.model s goal q → p ≡ q
one_unreached b s goal p q h k =
    same_split (λ r. Reach b.model s r.item r.value) h.before h.after k.before k.after p q h.reached k.reached h.unreached k.unreached (sym h.split ∙ k.split)

module _ (t : TableParts) (is : IsTables t) (s : List ℕ) (cov : CoversState t.classes s) (goal : List Pair) (g : IsGoal t.classes.compiled goal) where
  abbrev b : CompiledModel
  b = t.classes.compiled

  pub goal_within : All (λ p. p.item < length s) goal
  goal_within = all_from (λ p. p.item < length s) goal (λ p among.
      subst (λ n. p.item < n) (sym cov.state.full) (mode_within b.model p.item p.value (All-contains (λ q. HasMode b.model q.item q.value) goal p g.modes among)))

  pub goal_few : length goal ≤ length b.model.components
  goal_few =
      let a = in_order_few b.order goal g.in_order in
      let all = order_few b.model b.order (order_from b.model b.order is.classes.compiled.order) in
      omega (arith, a, all)

  goal_sound : (p : Pair) → Contains goal p → is_broken b.model.moves p.item p.value ≡ false
  goal_sound p among = All-contains (λ q. is_broken b.model.moves q.item q.value ≡ false) goal p g.sound among

  reached_in : (p : Pair) → Contains goal p → Reach b.model s p.item p.value → member_of t p.item p.value ≡ true
  reached_in p among reach = reach_inside t is s cov p (goal_sound p among) reach

  -- the goal is reached exactly where it lies in the classes
  pub goal_inside : AreReached b.model s goal → AreInside (member_of t) goal
  goal_inside h = all_from (λ p. member_of t p.item p.value ≡ true) goal (λ p among. reached_in p among (All-contains (λ q. Reach b.model s q.item q.value) goal p h among))

  -- ---- the answers by the rule

  pub unreached_answer : (p : Pair) → IsFirstUnreached b.model s goal p → IsAnswer (member_of t) (cells_of t) s goal (reply.Unreachable p.item p.value)
  unreached_answer p h =
      let among : (q : Pair) → Contains (p ∷ h.after) q → Contains goal q = λ q in_after. subst (λ l. Contains l q) (sym h.split) (Contains-append_right h.before (p ∷ h.after) q in_after) in (
        (λ held. h.unreached ([], s, refl, All-contains (λ q. slice_get s q.item ≡ Some q.value) goal p held (among p (contains_here p p h.after refl)))),
        record {
          before = h.before;
          after = h.after;
          split = h.split;
          inside = all_from (λ q. member_of t q.item q.value ≡ true) h.before (λ q before.
              reached_in q (subst (λ l. Contains l q) (sym h.split) (Contains-append_left h.before (p ∷ h.after) q before))
              (All-contains (λ r. Reach b.model s r.item r.value) h.before q h.reached before));
          outside = false_from_ne_true (member_of t p.item p.value) (λ inside. h.unreached (reach_from t is s cov p (inr inside)));
        },
      )

  pub first_wanted : AreReached b.model s goal → (p : Pair) → IsFirstMissing s goal p → IsWantedPair t s p
  first_wanted h p first = record {
    inside = All-contains (λ q. member_of t q.item q.value ≡ true) goal p (goal_inside h) (missing_among s goal p first);
    missing = first.missing;
  }

  pub send_answer : AreReached b.model s goal → (p : Pair) → IsFirstMissing s goal p → (k n : ℕ) → Finds (cells_of t) s p.item p.value k n
      → IsAnswer (member_of t) (cells_of t) s goal (reply.Send k)
  send_answer h p first k n found = (
    (λ held. first.missing (All-contains (λ q. slice_get s q.item ≡ Some q.value) goal p held (missing_among s goal p first))),
    goal_inside h,
    (n, (p, first, found)),
  )

  pub found_few : (k n : ℕ) (p : Pair) → IsWantedPair t s p → Finds (cells_of t) s p.item p.value k n → n ≤ length b.model.components
  found_few k n p wanted found =
      (found_is_picked b t.classes.base (member_of t) (cells_of t) is.cells.policy s (setting t is s cov) p.item p.value k n wanted.inside found).1

  -- ---- what they say

  chosen : (answer : Answer) → IsAnswer (member_of t) (cells_of t) s goal (reply_of answer) → IsChosenReply b s goal (reply_of answer)
  chosen answer h = answers_are_chosen b t.classes.base (member_of t) (cells_of t) is.classes.compiled is.cells.policy s (setting t is s cov) goal g.in_order g.sound (reply_of answer) h

  held_served : Extends s goal → CanBeServed b s goal
  held_served held = ([], s, (held, refl), omega arith)

  inside_served : AreInside (member_of t) goal → CanBeServed b s goal
  inside_served inside =
      let some = serialisation b t.classes.base (member_of t) (cells_of t) is.classes.compiled is.cells.policy s (setting t is s cov) goal g.in_order inside in
      (some.0, some.1, some.2, some.4)

  held_reached : Extends s goal → AreReached b.model s goal
  held_reached held = all_from (λ p. Reach b.model s p.item p.value) goal (λ p among.
      reach_from t is s cov p (inl (All-contains (λ q. slice_get s q.item ≡ Some q.value) goal p held among)))

  pub inside_reached : AreInside (member_of t) goal → AreReached b.model s goal
  inside_reached inside = all_from (λ p. Reach b.model s p.item p.value) goal (λ p among.
      reach_from t is s cov p (inr (All-contains (λ q. member_of t q.item q.value ≡ true) goal p inside among)))

  promising : (answer : Answer) → IsAnswer (member_of t) (cells_of t) s goal (reply_of answer) → Promising b s goal (reply_of answer)
  promising Achieved h = record { chosen = chosen Achieved h; served = λ e. held_served h }
  promising (Send k) h = record { chosen = chosen (Send k) h; served = λ e. inside_served h.1 }
  promising (Unreachable c mode) h = record { chosen = chosen (Unreachable c mode) h; served = λ e. absurd cc }

  achieved_exactly : (answer : Answer) → IsAnswer (member_of t) (cells_of t) s goal (reply_of answer) → (answer ≡ Achieved) ↔ Extends s goal
  achieved_exactly Achieved h = ((λ e. h), (λ held. refl))
  achieved_exactly (Send k) h = ((λ e. absurd cc), (λ held. absurd (h.0 held)))
  achieved_exactly (Unreachable c mode) h = ((λ e. absurd cc), (λ held. absurd (h.0 held)))

  never_first : AreReached b.model s goal → (p : Pair) → IsFirstUnreached b.model s goal p → ⊥
  never_first reached p first = first.unreached (All-contains (λ q. Reach b.model s q.item q.value) goal p reached
      (subst (λ l. Contains l p) (sym first.split) (Contains-append_right first.before (p ∷ first.after) p (contains_here p p first.after refl))))

  reached_exactly : (answer : Answer) → IsAnswer (member_of t) (cells_of t) s goal (reply_of answer)
      → (is_unreachable (Some (reply_of answer)) ≡ false) ↔ AreReached b.model s goal
  reached_exactly Achieved h = ((λ e. held_reached h), (λ reached. refl))
  reached_exactly (Send k) h = ((λ e. inside_reached h.1), (λ reached. refl))
  reached_exactly (Unreachable c mode) h = (
    (λ e. absurd cc),
    (λ reached.
        let first : IsFirstUnreached b.model s goal (record { item = c; value = mode }) = (chosen (Unreachable c mode) h).good in
        absurd (never_first reached (record { item = c; value = mode }) first)),
  )

  unreachable_exactly : (answer : Answer) → IsAnswer (member_of t) (cells_of t) s goal (reply_of answer) → (p : Pair)
      → (answer ≡ Unreachable p.item p.value) ↔ IsFirstUnreached b.model s goal p
  unreachable_exactly Achieved h p = ((λ e. absurd cc), (λ first. absurd (never_first (held_reached h) p first)))
  unreachable_exactly (Send k) h p = ((λ e. absurd cc), (λ first. absurd (never_first (inside_reached h.1) p first)))
  unreachable_exactly (Unreachable c mode) h p =
      let first : IsFirstUnreached b.model s goal (record { item = c; value = mode }) = (chosen (Unreachable c mode) h).good in (
        (λ e. let same = same_pair c mode p e in subst (IsFirstUnreached b.model s goal) (λ i. record { item = same.0 i; value = same.1 i }) first),
        (λ other. let same = one_unreached b s goal (record { item = c; value = mode }) p first other in λ i. Unreachable (same i).item (same i).value),
      )

  -- what is exact of an answer by the rule
  pub record IsExactly (answer : Answer) : Type 0 where
    pub achieved : (answer ≡ Achieved) ↔ Extends s goal
    pub unreachable : (p : Pair) → (answer ≡ Unreachable p.item p.value) ↔ IsFirstUnreached b.model s goal p
    pub reached : (is_unreachable (Some (reply_of answer)) ≡ false) ↔ AreReached b.model s goal
    pub promises : Promising b s goal (reply_of answer)

  pub by_rule : (answer : Answer) → IsAnswer (member_of t) (cells_of t) s goal (reply_of answer) → IsExactly answer
  by_rule answer h =
      record { achieved = achieved_exactly answer h; unreachable = unreachable_exactly answer h; reached = reached_exactly answer h; promises = promising answer h }
