-- A component's least walk inside the sets, as its column.
use Rattle.std.proofs.Common.{◌≡◌, ℕ, ◌≤◌, true, List, length, slice_index, slice_index_or, Option, None, sym, ap, subst, ◌∙◌, inl, inr, arith}
use Rattle.std.proofs.lemmas.Bool.{eq-eqb}
use Rattle.cca_base.specs.Sets.{has}
use Rattle.group_search.specs.Columns.{CostsMore, IsColumn, NoColumn, itself}
use Rattle.group_search.specs.Questions.{IsInside, IsSolution}
use Rattle.group_search.specs.declared.columns.Columns.{Columns}
use Rattle.trajectory_estimator.specs.Asked.{Asked}
use Rattle.trajectory_estimator.specs.PlaceLaws.{IsOwnPlace, gate_own, length-places, mode_own, own_places}
use Rattle.trajectory_estimator.specs.Rests.{AreInside, ArePricedTo, AreRests, IsFollowed, KeepsPrices, NoWalk, whole_cost}
use Rattle.trajectory_estimator.specs.Walks.{IsWalk, gate_place, mode_place}
use Rattle.trajectory_estimator.specs.Windows.{window_of}
use Rattle.trajectory_estimator.specs.declared.component_query.ComponentQuery.{ComponentQuery}
use Rattle.trajectory_estimator.specs.declared.record.TheConstants.{MAX_WINDOW}

module _ (x : ComponentQuery) where
  abbrev q : Asked
  q = x.query.now

  abbrev c : ℕ
  c = x.component

  -- a solution inside has a walk inside
  walk_inside : (values costs : List ℕ) → IsSolution (window_of q) (itself c) x.masks.now values costs → (own : ℕ → ℕ) × AreInside x values own × (slice_index costs c ≡ whole_cost x own)
  walk_inside values costs h =
      let walk : IsWalk q c values (slice_index costs c) = h.solves.walks c x.within in
      let stands : (place : ℕ) → IsOwnPlace q c place → has (slice_index x.masks.now place) (slice_index values place) ≡ true =
      λ place own. h.inside place (omega (arith, own.within, length-places q)) (eq-eqb (slice_index (window_of q).of place) c own.own) in
      let inside : AreInside x values walk.own = record {
        steps = walk.steps;
        modes = λ at below. stands (mode_place q c at) (mode_own q c at x.within below);
        gates = λ at below. stands (gate_place q c at) (gate_own q c at x.within below);
      } in
      (walk.own, inside, walk.total)

  pub no_column : (room : List (Option ℕ)) → AreRests x room → NoWalk x → NoColumn (window_of q) x.masks.now c
  no_column room rests none values costs h =
      let walk = walk_inside values costs h in
      none values walk.0 walk.1

  module _ (old walked given new : Columns) (followed : IsFollowed x old walked) (same_values : given.values ≡ walked.values) (same_costs : given.costs ≡ walked.costs)
      (kept : KeepsPrices x given new) (priced : ArePricedTo x (length q.records) new) where
    all_values : new.values ≡ walked.values
    all_values = kept.values ∙ same_values

    costs_same : slice_index new.costs c ≡ slice_index walked.costs c
    costs_same = ap (λ l. slice_index l c) (kept.costs ∙ same_costs)

    -- a solution that leaves a value of the walk pays its price
    pays : (place : ℕ) (values costs : List ℕ) → IsOwnPlace q c place → IsSolution (window_of q) (itself c) x.masks.now values costs → (slice_index values place ≡ slice_index new.values place → ⊥)
        → CostsMore (slice_index_or new.prices place None) (slice_index new.costs c) (slice_index costs c)
    pays place values costs own h differs =
        let walk = walk_inside values costs h in
        let found = own_places q c place own in
        let at : ℕ = found.0 in
        subst (CostsMore (slice_index_or new.prices place None) (slice_index new.costs c)) (sym walk.2) (elim found.2 [
          | inl e ↦
              subst (λ k. CostsMore (slice_index_or new.prices k None) (slice_index new.costs c) (whole_cost x walk.0)) (sym e)
              ((priced values walk.0 walk.1 at found.1).0 (λ s. differs (ap (slice_index values) e ∙ s ∙ sym (ap (slice_index new.values) e))))
          | inr e ↦
              subst (λ k. CostsMore (slice_index_or new.prices k None) (slice_index new.costs c) (whole_cost x walk.0)) (sym e)
              ((priced values walk.0 walk.1 at found.1).1 (λ s. differs (ap (slice_index values) e ∙ s ∙ sym (ap (slice_index new.values) e))))
        ])

    pub is_column : length q.records ≤ MAX_WINDOW → IsColumn (window_of q) x.masks.now c new
    is_column few = record {
      inside = subst (IsInside (window_of q) (itself c) x.masks.now) (sym all_values) followed.inside;
      cost = subst (λ l. IsWalk q c l (slice_index new.costs c)) (sym all_values) (subst (IsWalk q c walked.values) (sym costs_same) followed.walk);
      cheap = omega (arith, costs_same, followed.cheap, few);
      least = λ values costs h.
          let walk = walk_inside values costs h in
          omega (arith, costs_same, followed.least values walk.0 walk.1, walk.2);
      more = λ place values costs within at h differs. pays place values costs (record { within = omega (arith, within, length-places q); own = at }) h differs;
    }
