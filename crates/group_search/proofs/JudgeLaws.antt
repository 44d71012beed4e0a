-- What a search keeps where a cut is kept, and what is known of the components that it looks at.
use Rattle.std.proofs.Common.{◌≡◌, ◌⊎◌, inl, inr, ℕ, ◌-◌, ◌<◌, ◌≤◌, Bool, true, false, List, Option, All, Contains, length, slice_index, slice_index_or, refl, sym, ap, subst, ◌∙◌, arith}
use Rattle.std.specs.List.{sum_by}
use Rattle.cca_base.specs.declared.cube.Pair.{Pair}
use Rattle.cca_base.specs.declared.limits.TheConstants.{MAX_ROWS}
use Rattle.group_search.specs.Bounds.{AllStand, EachPays}
use Rattle.group_search.specs.Questions.{IsCut, Question, cost_in, in_group}
use Rattle.group_search.specs.Rooms.{KeepsRooms}
use Rattle.group_search.specs.Works.{AreMembers, IsWork, KeepsBox}
use Rattle.group_search.specs.declared.columns.TheConstants.{MAX_PATH}
use Rattle.group_search.specs.declared.path_box.PathBox.{PathBox}
use Rattle.group_search.specs.declared.work.Work.{Work}
use Rattle.group_search.proofs.ChooseLaws.{least_paths}
use Rattle.group_search.proofs.StoreLaws.{work_kept}
use Rattle.group_search.proofs.MemberLaws.{member_has, members_cost, members_each, members_few}

-- a cut is kept
pub work_keeps : (q : Question) (old new : Work) (cut : List Pair) → IsWork q old → new.boxed ≡ old.boxed → new.names ≡ old.names → new.spending ≡ old.spending → IsCut q cut → KeepsRooms old new
    → ((k : List Pair) → Contains new.cuts k → Contains old.cuts k ⊎ (k ≡ cut)) → IsWork q new
work_keeps q old new cut work boxed names spending is rooms known = work_kept q old new cut work is boxed (ap length names) spending rooms known

-- ---- the components of the group, as a call was given them

module _ (q : Question) (group : Option ℕ) (w : Work) (work : IsWork q w) (members : AreMembers q w.names group w.focus.members.items) (seen : List ℕ) (same : seen ≡ w.focus.members.items) where
  pub seen_few : q.count ≤ MAX_ROWS → length seen ≤ MAX_ROWS
  seen_few few = omega (arith, few, members_few (in_group w.names group) q.count seen (same ∙ members))

  pub seen_within : (n : ℕ) → n ≡ q.count → All (λ c. c < n) seen
  seen_within n long = members_each (in_group w.names group) q.count seen (same ∙ members) (λ c. c < n) (λ c less own. omega (arith, less, long))

  pub seen_stand : (stands : List Bool) → stands ≡ w.boxed.stands → All (λ c. slice_index_or stands c false ≡ true) seen → AllStand q (in_group w.names group) w.boxed
  seen_stand stands shown all =
      member_has (in_group w.names group) q.count seen (same ∙ members) (λ c. slice_index_or w.boxed.stands c false ≡ true)
      (subst (λ s. All (λ c. slice_index_or s c false ≡ true) seen) shown all)

  pub seen_cheap : AllStand q (in_group w.names group) w.boxed → (costs : List ℕ) → costs ≡ w.boxed.columns.costs → All (λ c. slice_index costs c ≤ MAX_PATH) seen
  seen_cheap stand costs shown =
      subst (λ l. All (λ c. slice_index l c ≤ MAX_PATH) seen) (sym shown)
      (members_each (in_group w.names group) q.count seen (same ∙ members) (λ c. slice_index w.boxed.columns.costs c ≤ MAX_PATH)
      (least_paths q (in_group w.names group) w.boxed work.ready stand).cheap)

  pub seen_cost : (costs : List ℕ) (cost : ℕ) → costs ≡ w.boxed.columns.costs → cost ≡ sum_by (λ c. slice_index costs c) seen → cost ≡ cost_in q.count (in_group w.names group) w.boxed.columns.costs
  seen_cost costs cost shown is =
      members_cost (in_group w.names group) q.count seen (same ∙ members) seen w.boxed.columns.costs costs cost refl shown is

-- ---- box and names are as before

module _ (q : Question) (group : Option ℕ) (old new : Work) (kept : KeepsBox old new) where
  pub stand_kept : AllStand q (in_group old.names group) old.boxed → AllStand q (in_group new.names group) new.boxed
  stand_kept stand =
      subst (λ (b : PathBox). AllStand q (in_group new.names group) b) (sym kept.boxed)
      (subst (λ names. AllStand q (in_group names group) old.boxed) (sym kept.names) stand)

  pub cost_kept : cost_in q.count (in_group new.names group) new.boxed.columns.costs ≡ cost_in q.count (in_group old.names group) old.boxed.columns.costs
  cost_kept =
      ap (λ names. cost_in q.count (in_group names group) new.boxed.columns.costs) kept.names
      ∙ ap (λ (b : PathBox). cost_in q.count (in_group old.names group) b.columns.costs) kept.boxed

  pub pays_kept : (spent : List ℕ) (base total : ℕ) → base ≡ cost_in q.count (in_group old.names group) old.boxed.columns.costs
      → EachPays q (in_group old.names group) old.boxed.masks old.boxed.columns.costs spent (total - base)
      → EachPays q (in_group new.names group) new.boxed.masks new.boxed.columns.costs spent (total - cost_in q.count (in_group new.names group) new.boxed.columns.costs)
  pays_kept spent base total is pays =
      subst (λ n. EachPays q (in_group new.names group) new.boxed.masks new.boxed.columns.costs spent (total - n)) (is ∙ sym cost_kept)
      (subst (λ (b : PathBox). EachPays q (in_group new.names group) b.masks b.columns.costs spent (total - base)) (sym kept.boxed)
      (subst (λ names. EachPays q (in_group names group) old.boxed.masks old.boxed.columns.costs spent (total - base)) (sym kept.names) pays))
