-- The first level is found by halving.
use Rattle.std.proofs.Common.{◌≡◌, ◌<◌, ◌≤◌, ℕ, true, List, Some, length, slice_get, slice_index, sym, ap, ◌∙◌, arith}
use Rattle.list_laws.proofs.Places.{some_at}
use Rattle.cca_base.specs.PlantModel.{PlantModel}
use Rattle.cca_base.specs.Model.{HasMode, mode_counts}
use Rattle.reach_laws.specs.Classes.{Test, OpenMove}
use Rattle.reversibility.specs.Levels.{IsNear, IsLevel, AreLevelsOf}
use Rattle.reversibility.specs.ClassParts.{in_row}
use Rattle.policy_tables.specs.Distances.{IsFirstLevel, AreRising}

-- no level before the one place leads there, and the level at the other does, if there is one
pub record IsBetween (levels : List (List ℕ)) (from to low high : ℕ) : Type 0 where
  pub order : low ≤ high
  pub within : high ≤ length levels
  pub before : (j : ℕ) (other : List ℕ) → j < low → slice_get levels j ≡ Some other → in_row other from to ≡ true → ⊥
  pub after : (level : List ℕ) → slice_get levels high ≡ Some level → in_row level from to ≡ true

module _ (levels : List (List ℕ)) (from to low high : ℕ) (h : IsBetween levels from to low high) where
  pub first_found : high ≤ low → low < length levels → IsFirstLevel levels from to low
  first_found met within =
      let there = some_at levels low within in
      let same : low ≡ high = omega (arith, met, h.order) in
      record {
        level = there.0;
        at = there.1;
        leads = h.after there.0 (sym (ap (slice_get levels) same) ∙ there.1);
        first = λ j other lt at leads. h.before j other lt at leads;
      }

-- what a level of open moves leads to, later levels lead to
pub levels_rise : (m : PlantModel) (member : Test) (c : ℕ) (levels : List (List ℕ)) → AreLevelsOf m member c levels → (from to : ℕ) → HasMode m c from → AreRising levels from to
levels_rise m member c levels of from to has_from j k level later le at_j at_k leads =
    let here : IsLevel (OpenMove m member c) (slice_index (mode_counts m) c) j level = of.each j level at_j in
    let there : IsLevel (OpenMove m member c) (slice_index (mode_counts m) c) k later = of.each k later at_k in
    let near : IsNear (OpenMove m member c) j from to = (here.each from to has_from).0 leads in
    (there.each from to has_from).1 (record { count = near.count; few = omega (arith, near.few, le); walk = near.walk })
