-- The first level is the distance, and moves that lead near approach.
use Rattle.std.proofs.Common.{◌≡◌, ◌≢◌, ◌<◌, ◌≤◌, ◌-◌, ℕ, zero, suc, List, length, slice_get, slice_index, Some, refl, sym, ap, subst, ◌∙◌, inl, inr, arith}
use Rattle.std.proofs.lemmas.Bool.{cases_lt, cases_order}
use Rattle.std.proofs.lemmas.Option.{slice_get_within, slice_get-get_or}
use Rattle.list_laws.proofs.Places.{some_at}
use Rattle.cca_base.specs.declared.model.Move.{Move}
use Rattle.cca_base.specs.PlantModel.{PlantModel}
use Rattle.cca_base.specs.Model.{WellFormed, HasMode, mode_counts}
use Rattle.reach_laws.specs.Classes.{Test, IsOpen, OpenMove, OpenWalk, Joined}
use Rattle.reach_laws.specs.Cells.{IsShortest, Approaches}
use Rattle.reach_laws.proofs.Needed.{move_in}
use Rattle.reversibility.specs.Levels.{IsNear, IsLevel, AreLevelsOf}
use Rattle.policy_tables.specs.Distances.{IsFirstLevel, IsNoLevel, LeadsNear}
use Rattle.reversibility.proofs.Shortest.{to_open, from_open, target_mode}

module _ (m : PlantModel) (w : WellFormed m) (member : Test) (c : ℕ) where
  abbrev modes : ℕ
  modes = slice_index (mode_counts m) c

  module _ (levels : List (List ℕ)) (of : AreLevelsOf m member c levels) where
    -- what is joined is in the last level
    pub no_level : (from to : ℕ) → HasMode m c from → Joined m member c from to → IsNoLevel levels from to → ⊥
    no_level from to has_from joined none =
        let last = some_at levels (length levels - 1) (omega (arith, of.some)) in
        none (length levels - 1) last.0 last.1 (of.last last.0 last.1 from to has_from joined)

    pub level_shortest : (from to k : ℕ) → HasMode m c from → IsFirstLevel levels from to k → IsShortest m member c from to k
    level_shortest from to k has_from first =
        let within : k < length levels = slice_get_within levels k first.level first.at in
        let level : IsLevel (OpenMove m member c) modes k first.level = of.each k first.level first.at in
        let near : IsNear (OpenMove m member c) k from to = (level.each from to has_from).0 first.leads in
        let none : (j : ℕ) → j < k → OpenWalk m member c from to j → ⊥ = λ j lt walk.
        (let there = some_at levels j (omega (arith, lt, within)) in
        let at_j : IsLevel (OpenMove m member c) modes j there.0 = of.each j there.0 there.1 in
        first.first j there.0 lt there.1 ((at_j.each from to has_from).1
        (record { count = j; few = omega arith; walk = from_open m w member c from to j walk }))) in
        let same : near.count ≡ k = elim (cases_order near.count k) [
          | inl e ↦ e
          | inr (inl lt) ↦ absurd (none near.count lt (to_open m w member c from to near.count near.walk))
          | inr (inr gt) ↦ absurd (omega (arith, gt, near.few))
        ] in
        record {
          walk = subst (OpenWalk m member c from to) same (to_open m w member c from to near.count near.walk);
          least = λ fewer walk. elim (cases_lt fewer k) [
            | inl lt ↦ absurd (none fewer lt walk)
            | inr past ↦ past
          ];
        }

  -- where the modes differ, an open move is left
  pub apart_some : (from to k : ℕ) → IsShortest m member c from to k → from ≢ to → 0 < k
  apart_some from to zero s ne = absurd (ne s.walk)
  apart_some from to (suc k) s ne = omega arith

  -- a move of the model that is open
  as_open : (i from : ℕ) (move : Move) → slice_get m.moves i ≡ Some move → move.component ≡ c → move.source ≡ from → IsOpen m member move → OpenMove m member c from move.target
  as_open i from move at own source open_move = record { move = move; of_model = move_in m i move at; own = own; source = source; target = refl; open_move = open_move }

  -- where the distance is one more than a level's number, the moves that lead near by the level are those that approach
  module _ (from to rest : ℕ) (shortest : IsShortest m member c from to (suc rest)) (level : List ℕ) (is : IsLevel (OpenMove m member c) modes rest level) where
    -- a move that begins a walk of the rest approaches
    as_approach : (move : Move) → move.component ≡ c → move.source ≡ from → IsOpen m member move → OpenMove m member c from move.target → OpenWalk m member c move.target to rest
        → Approaches m member c from to (suc rest) move
    as_approach move own source open_move o walk = record {
      own = own;
      source = source;
      open_move = open_move;
      rest = rest;
      counts = refl;
      before = shortest;
      after = record { walk = walk; least = λ fewer other. (let le : suc rest ≤ suc fewer = shortest.least (suc fewer) (move.target, o, other) in omega (arith, le)) };
    }

    pub approach_to : (i : ℕ) → (h : LeadsNear m member level c from to i) → Approaches m member c from to (suc rest) h.move
    approach_to i h =
        let o : OpenMove m member c from h.move.target = as_open i from h.move h.move_at h.own h.source h.open_move in
        let near : IsNear (OpenMove m member c) rest h.move.target to = (is.each h.move.target to (target_mode m w member c from h.move.target o)).0 h.near in
        let long : suc rest ≤ suc near.count = shortest.least (suc near.count) (h.move.target, o, to_open m w member c h.move.target to near.count near.walk) in
        let same : near.count ≡ rest = omega (arith, long, near.few) in
        as_approach h.move h.own h.source h.open_move o (subst (OpenWalk m member c h.move.target to) same (to_open m w member c h.move.target to near.count near.walk))

    pub approach_from : (i : ℕ) (move : Move) → slice_get m.moves i ≡ Some move → Approaches m member c from to (suc rest) move → LeadsNear m member level c from to i
    approach_from i move at a =
        let o : OpenMove m member c from move.target = as_open i from move at a.own a.source a.open_move in
        let few : a.rest ≤ rest = omega (arith, a.counts) in
        record {
          move = move;
          move_at = at;
          own = a.own;
          source = a.source;
          near = (is.each move.target to (target_mode m w member c from move.target o)).1
              (record { count = a.rest; few = few; walk = from_open m w member c move.target to a.rest a.after.walk });
          open_move = a.open_move;
        }

    -- the first move of a shortest walk leads near
    pub some_leads : (i : ℕ) × LeadsNear m member level c from to i
    some_leads =
        let next : ℕ = shortest.walk.0 in
        let o : OpenMove m member c from next = shortest.walk.1 in
        let walk : OpenWalk m member c next to rest = shortest.walk.2 in
        let at : ℕ = o.of_model.0 in (
          at,
          approach_from at o.move (slice_get-get_or m.moves at o.move o.of_model.1 ∙ ap (λ z. Some z) o.of_model.2)
              (as_approach o.move o.own o.source o.open_move (subst (OpenMove m member c from) (sym o.target) o) (subst (λ x. OpenWalk m member c x to rest) (sym o.target) walk)),
        )
