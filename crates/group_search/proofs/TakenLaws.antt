-- Paths that are taken over for a group.
use Rattle.std.proofs.Common.{◌≡◌, ◌⊎◌, ℕ, ◌-◌, ◌<◌, ◌≤◌, true, false, not, List, length, slice_index, All, Option, Some, inl, inr, refl, sym, ap, subst, ◌∙◌, arith}
use Rattle.std.proofs.lemmas.Bool.{cases_Bool, cond-false, cond-true, not_from_false}
use Rattle.std.proofs.lemmas.List.{ext_get_or}
use Rattle.cca_base.specs.Sets.{has}
use Rattle.group_search.specs.Columns.{ArePaths}
use Rattle.group_search.specs.Floors.{HasFloors, IsFloored, every}
use Rattle.group_search.specs.Questions.{Question, CostsAtLeast, IsInside, IsWhole, cost_in, in_group}
use Rattle.group_search.specs.Searches.{IsFind}
use Rattle.group_search.specs.Takings.{IsTaken}
use Rattle.group_search.specs.declared.columns.Chosen.{Chosen}
use Rattle.group_search.proofs.FloorLaws.{AreTaken, floors_taken, taken_total}

-- what a component costs depends on its own places alone
abbrev pub ByOwnPlaces : Question → Type 0
ByOwnPlaces q = (c cost : ℕ) (values others : List ℕ) → ((place : ℕ) → place < length q.of → slice_index q.of place ≡ c → slice_index values place ≡ slice_index others place)
    → q.has_cost c values cost → q.has_cost c others cost

module _ (q : Question) (names : List ℕ) (group : Option ℕ) (found old new : Chosen) (taken : IsTaken q.of names group found old new) where
  value_found : (place : ℕ) → place < length q.of → in_group names group (slice_index q.of place) ≡ true → slice_index new.values place ≡ slice_index found.values place
  value_found place less own = taken.values place less ∙ cond-true (in_group names group (slice_index q.of place)) (slice_index found.values place) (slice_index old.values place) own

  value_kept : (place : ℕ) → place < length q.of → in_group names group (slice_index q.of place) ≡ false → slice_index new.values place ≡ slice_index old.values place
  value_kept place less other = taken.values place less ∙ cond-false (in_group names group (slice_index q.of place)) (slice_index found.values place) (slice_index old.values place) other

  cost_found : (c : ℕ) → c < length names → in_group names group c ≡ true → slice_index new.costs c ≡ slice_index found.costs c
  cost_found c less own = taken.costs c less ∙ cond-true (in_group names group c) (slice_index found.costs c) (slice_index old.costs c) own

  cost_kept : (c : ℕ) → c < length names → in_group names group c ≡ false → slice_index new.costs c ≡ slice_index old.costs c
  cost_kept c less other = taken.costs c less ∙ cond-false (in_group names group c) (slice_index found.costs c) (slice_index old.costs c) other

  pub taken_paths : length names ≡ q.count → ByOwnPlaces q → ArePaths q (in_group names group) found.values found.costs → ArePaths q every old.values old.costs → ArePaths q every new.values new.costs
  taken_paths long local there before = record {
    places = taken.places ∙ before.places;
    components = taken.components ∙ before.components;
    cost = λ c less all. elim (cases_Bool (in_group names group c)) [
      | inl own ↦
          local c (slice_index new.costs c) found.values new.values
          (λ place within of_it. sym (value_found place within (ap (in_group names group) of_it ∙ own)))
          (subst (q.has_cost c found.values) (sym (cost_found c (omega (arith, less, long)) own)) (there.cost c less own))
      | inr other ↦
          local c (slice_index new.costs c) old.values new.values
          (λ place within of_it. sym (value_kept place within (ap (in_group names group) of_it ∙ other)))
          (subst (q.has_cost c old.values) (sym (cost_kept c (omega (arith, less, long)) other)) (before.cost c less refl))
    ];
    cheap = λ c less all. elim (cases_Bool (in_group names group c)) [
      | inl own ↦ omega (arith, cost_found c (omega (arith, less, long)) own, there.cheap c less own)
      | inr other ↦ omega (arith, cost_kept c (omega (arith, less, long)) other, before.cheap c less refl)
    ];
  }

  pub taken_inside : (masks : List ℕ) → IsInside q (in_group names group) masks found.values → IsInside q (λ c. not (in_group names group c)) masks old.values → IsInside q every masks new.values
  taken_inside masks there before place less all = elim (cases_Bool (in_group names group (slice_index q.of place))) [
    | inl own ↦ ap (has (slice_index masks place)) (value_found place less own) ∙ there place less own
    | inr other ↦ ap (has (slice_index masks place)) (value_kept place less other) ∙ before place less (not_from_false (in_group names group (slice_index q.of place)) other)
  ]

  -- where each component is in the group, all is as it was found
  pub taken_solves : length names ≡ q.count → All (λ c. c < q.count) q.of → IsWhole q names group → ArePaths q (in_group names group) found.values found.costs → ArePaths q every old.values old.costs
      → q.solves found.values found.costs → q.solves new.values new.costs
  taken_solves long owned whole there before solves =
      let values : new.values ≡ found.values = ext_get_or 0 new.values found.values (taken.places ∙ before.places ∙ sym there.places)
      (λ place less. value_found place (omega (arith, less, taken.places, before.places)) (whole (slice_index q.of place) (owned place 0 (omega (arith, less, taken.places, before.places))))) in
      let costs : new.costs ≡ found.costs = ext_get_or 0 new.costs found.costs (taken.components ∙ before.components ∙ sym there.components)
      (λ c less. cost_found c (omega (arith, less, taken.components, before.components, long)) (whole c (omega (arith, less, taken.components, before.components)))) in
      subst (λ v. q.solves v new.costs) (sym values) (subst (λ z. q.solves found.values z) (sym costs) solves)

-- what is found on a group, and costs less than the others leave of the limit, costs less than the limit with them, and keeps floors
pub taken_floored : (q : Question) (masks names : List ℕ) (g limit total floor : ℕ) (found old new : Chosen) → length names ≡ q.count → ByOwnPlaces q → IsTaken q.of names (Some g) found old new
    → IsFind q names (Some g) masks found → HasFloors q masks names old → IsInside q (λ c. not (in_group names (Some g) c)) masks old.values
    → total ≡ cost_in q.count every old.costs → floor ≡ cost_in q.count (in_group names (Some g)) old.costs
    → cost_in q.count (in_group names (Some g)) found.costs < limit - (total - floor)
    → (cost_in q.count (in_group names (Some g)) found.costs ≤ floor) ⊎ CostsAtLeast q (in_group names (Some g)) masks (cost_in q.count (in_group names (Some g)) found.costs)
    → IsFloored q masks names limit new
taken_floored q masks names g limit total floor found old new long local taken find has beside all own less low =
    let costs : AreTaken q.count names g found.costs old.costs new.costs = λ c inside. taken.costs c (omega (arith, inside, long)) in
    let lower : (cost_in q.count (in_group names (Some g)) found.costs ≤ cost_in q.count (in_group names (Some g)) old.costs)
    ⊎ CostsAtLeast q (in_group names (Some g)) masks (cost_in q.count (in_group names (Some g)) found.costs) = elim low [
      | inl under ↦ inl (omega (arith, under, own))
      | inr least ↦ inr least
    ] in
    let sum = taken_total q.count names g found.costs old.costs new.costs costs in
    record {
      has = record {
        paths = taken_paths q names (Some g) found old new taken long local find.paths has.paths;
        floors = floors_taken q masks names found.costs old.costs new.costs g costs has.floors lower;
      };
      inside = taken_inside q names (Some g) found old new taken masks find.inside beside;
      less = omega (arith, sum, all, own, less);
    }
