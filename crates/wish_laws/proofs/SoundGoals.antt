-- The goal of a target: its pairs whose modes are not broken.
use Rattle.std.proofs.Common.{◌≡◌, ◌<◌, ◌+◌, ◌≤◌, ◌∙◌, ℕ, true, false, not, List, [], ◌∷◌, ◌++◌, length, take, slice_get, slice_index, Some, Contains, sym, ap, subst}
use Rattle.std.proofs.lemmas.Bool.{not-true, not_from_false, not_from_true}
use Rattle.std.proofs.lemmas.List.{take_all}
use Rattle.std.proofs.lemmas.Option.{slice_get_within, get_or_from_slice_get}
use Rattle.list_laws.proofs.GoneThrough.{take_next}
use Rattle.cca_base.specs.declared.cube.Pair.{Pair}
use Rattle.cca_base.specs.Accepted.{CompiledModel}
use Rattle.cca_base.specs.PlantModel.{PlantModel}
use Rattle.cca_base.specs.Model.{is_broken}
use Rattle.cca_base.specs.Orders.{IsEffectsFirst}
use Rattle.reach_laws.specs.Classes.{Test}
use Rattle.reach_laws.proofs.Order.{IsOrder, order_from}
use Rattle.reach_laws.proofs.Trails.{among_from}
use Rattle.wish_laws.specs.Settled.{IsGoalOf}
use Rattle.wish_laws.proofs.Settling.{pairs_in, pairs_in-from, pairs_in-has, pairs_in-more, pairs_in-same, pairs_in-sorted}

-- no repair leaves the mode
abbrev pub is_sound : PlantModel → Test
is_sound m c mode = not (is_broken m.moves c mode)

module _ (b : CompiledModel) (ordered : IsEffectsFirst b.model b.order) (t : List ℕ) where
  order : IsOrder b.model b.order
  order = order_from b.model b.order ordered

  pub order_place : (i c : ℕ) → slice_get b.order i ≡ Some c → c < length b.model.components
  order_place i c at = order.within c (among_from c b.order (i, slice_get_within b.order i c at, get_or_from_slice_get b.order i c c at))

  -- the next component's pair is there, or isn't
  pub pair_more : (i c mode : ℕ) (pairs : List Pair) → slice_get b.order i ≡ Some c → slice_index t c ≡ mode → is_broken b.model.moves c mode ≡ false
      → pairs ≡ pairs_in (is_sound b.model) t (take i b.order) → pairs ++ record { item = c; value = mode } ∷ [] ≡ pairs_in (is_sound b.model) t (take (i + 1) b.order)
  pair_more i c mode pairs at here sound e =
      let longer = take_next b.order i c at in
      ap (λ l. l ++ record { item = c; value = mode } ∷ []) e
      ∙ ap (λ x. pairs_in (is_sound b.model) t (take i b.order) ++ record { item = c; value = x } ∷ []) (sym here)
      ∙ sym (ap (pairs_in (is_sound b.model) t) longer
      ∙ pairs_in-more (is_sound b.model) t (take i b.order) c (subst (λ x. is_sound b.model c x ≡ true) (sym here) (not_from_false (is_broken b.model.moves c mode) sound)))

  pub pair_skip : (i c mode : ℕ) (pairs : List Pair) → slice_get b.order i ≡ Some c → slice_index t c ≡ mode → is_broken b.model.moves c mode ≡ true
      → pairs ≡ pairs_in (is_sound b.model) t (take i b.order) → pairs ≡ pairs_in (is_sound b.model) t (take (i + 1) b.order)
  pair_skip i c mode pairs at here broken e =
      e ∙ sym (ap (pairs_in (is_sound b.model) t) (take_next b.order i c at)
      ∙ pairs_in-same (is_sound b.model) t (take i b.order) c (subst (λ x. is_sound b.model c x ≡ false) (sym here) (not_from_true (is_broken b.model.moves c mode) broken)))

  -- all of them are the goal
  pub goal_is : (i : ℕ) (pairs : List Pair) → length b.order ≤ i → pairs ≡ pairs_in (is_sound b.model) t (take i b.order) → IsGoalOf b t pairs
  goal_is i pairs past e = subst (IsGoalOf b t) (sym (e ∙ ap (pairs_in (is_sound b.model) t) (take_all i b.order past))) (record {
    in_order = pairs_in-sorted (is_sound b.model) t b.order;
    each = λ p. (
      (λ among. let from = pairs_in-from (is_sound b.model) t b.order p among in (order.within p.item from.0, from.1, not-true (is_broken b.model.moves p.item p.value) from.2)),
      (λ is. subst (Contains (pairs_in (is_sound b.model) t b.order)) (ap (λ x. record { item = p.item; value = x }) (sym is.1))
          (pairs_in-has (is_sound b.model) t b.order p.item (order.all_there p.item is.0)
          (subst (λ x. is_sound b.model p.item x ≡ true) is.1 (not_from_false (is_broken b.model.moves p.item p.value) is.2)))),
    );
  })
