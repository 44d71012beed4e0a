-- Levels of open moves, and homes by them.
use Rattle.std.proofs.Common.{◌≡◌, ◌<◌, ◌≤◌, ◌-◌, ◌⊎◌, ℕ, true, zero, suc, List, length, slice_get, slice_index, Option, Some, None, refl, sym, ap, subst, ◌∙◌, inl, inr, arith}
use Rattle.std.proofs.lemmas.Bool.{cases_lt}
use Rattle.std.proofs.lemmas.Option.{same_Some, none-some}
use Rattle.cca_base.specs.declared.model.Move.{Move}
use Rattle.cca_base.specs.PlantModel.{PlantModel}
use Rattle.cca_base.specs.Model.{WellFormed, HasMode, mode_counts}
use Rattle.cca_base.specs.Relations.{numbers_below}
use Rattle.cca_base.proofs.PathLaws.{below_contains, numbers_within}
use Rattle.reach_laws.specs.Classes.{Test, OpenMove, OpenWalk, Joined, OpenRepairs}
use Rattle.reach_laws.specs.Cells.{IsShortest}
use Rattle.reach_laws.proofs.Facts.{RepairRules}
use Rattle.reach_laws.proofs.Order.{repair_rules}
use Rattle.cca_laws.proofs.Decided.{dec_equal}
use Rattle.cca_laws.proofs.Minimal.{search_list}
use Rattle.reach_laws.proofs.Trails.{shortest_few}
use Rattle.reach_laws.proofs.Walk.{mended_by}
use Rattle.reversibility.specs.ClassParts.{in_row}
use Rattle.reversibility.specs.Levels.{Edges, MoveLeads, AreOpenMoves, EdgeWalk, IsNear, IsLevel, AreLevels, AreEnough, AreLevelsOf}
use Rattle.reversibility.specs.Homes.{IsAround, EdgeRepairs, IsHomeBy, IsHomeFrom, IsClassFrom}
use Rattle.reversibility.proofs.Near.{closed_walk}
use Rattle.reversibility.proofs.OpenMoves.{leads_open, open_leads}
use Rattle.cca_base.proofs.NextModes.{next_broken}

-- ---- the least number

abbrev IsLeast : (ℕ → Type 0) → ℕ → Type 0
IsLeast P j = P j × ((i : ℕ) → P i → j ≤ i)

below : (P : ℕ → Type 0) → ((k : ℕ) → Dec (P k)) → (n : ℕ) → ((j : ℕ) × IsLeast P j) ⊎ ((i : ℕ) → i < n → P i → ⊥)
below P each zero = inr (λ i lt p. absurd (omega (arith, lt)))
below P each (suc n) = elim (below P each n) [
  | inl found ↦ inl found
  | inr none ↦ here (each n) none
]
  where
    here : Dec (P n) → ((i : ℕ) → i < n → P i → ⊥) → ((j : ℕ) × IsLeast P j) ⊎ ((i : ℕ) → i < suc n → P i → ⊥)
    here (yes p) none = inl (n, (p, λ i q. elim (cases_lt i n) [ inl lt ↦ absurd (none i lt q) | inr past ↦ past ]))
    here (no q) none = inr (λ i lt p. elim (cases_lt i n) [
      | inl lower ↦ none i lower p
      | inr past ↦ let e : i ≡ n = omega (arith, past, lt) in q (subst P e p)
    ])

least : (P : ℕ → Type 0) → ((k : ℕ) → Dec (P k)) → (n : ℕ) → P n → (j : ℕ) × IsLeast P j
least P each n p = elim (below P each (suc n)) [
  | inl found ↦ found
  | inr none ↦ absurd (none n (omega arith) p)
]

-- ---- edges of one kind are edges of the other

walk_map : (edge other : Edges) → ((a x : ℕ) → edge a x → other a x) → (a b n : ℕ) → EdgeWalk edge a b n → EdgeWalk other a b n
walk_map edge other each a b zero walk = walk
walk_map edge other each a b (suc n) walk = (walk.0, each a walk.0 walk.1, walk_map edge other each walk.0 b n walk.2)

near_map : (edge other : Edges) → ((a x : ℕ) → edge a x → other a x) → (k a b : ℕ) → IsNear edge k a b → IsNear other k a b
near_map edge other each k a b h = record { count = h.count; few = h.few; walk = walk_map edge other each a b h.count h.walk }

level_map : (edge other : Edges) → ((a x : ℕ) → edge a x → other a x) → ((a x : ℕ) → other a x → edge a x) → (n k : ℕ) (level : List ℕ) → IsLevel edge n k level → IsLevel other n k level
level_map edge other to from n k level h = record {
  full = h.full;
  each = λ a b lt. (
    (λ e. near_map edge other to k a b ((h.each a b lt).0 e)),
    (λ near. (h.each a b lt).1 (near_map other edge from k a b near)),
  );
}

-- ---- open moves

module _ (m : PlantModel) (w : WellFormed m) (member : Test) (c : ℕ) where
  abbrev rules : RepairRules m
  rules = repair_rules m w

  abbrev modes : ℕ
  modes = slice_index (mode_counts m) c

  pub target_mode : (a x : ℕ) → OpenMove m member c a x → HasMode m c x
  target_mode a x o = subst (HasMode m c) o.target (subst (λ d. HasMode m d o.move.target) o.own (rules.targets o.move o.of_model))

  pub to_open : (a b n : ℕ) → EdgeWalk (OpenMove m member c) a b n → OpenWalk m member c a b n
  to_open a b zero walk = walk
  to_open a b (suc n) walk = (walk.0, walk.1, to_open walk.0 b n walk.2)

  pub from_open : (a b n : ℕ) → OpenWalk m member c a b n → EdgeWalk (OpenMove m member c) a b n
  from_open a b zero walk = walk
  from_open a b (suc n) walk = (walk.0, walk.1, from_open walk.0 b n walk.2)

  walk_end : (a b n : ℕ) → HasMode m c a → OpenWalk m member c a b n → HasMode m c b
  walk_end a b zero has_a e = subst (HasMode m c) e has_a
  walk_end a b (suc n) has_a walk = walk_end walk.0 b n (target_mode a walk.0 walk.1) walk.2

  -- what a level has, open moves join
  near_joined : (k a b : ℕ) → IsNear (OpenMove m member c) k a b → Joined m member c a b
  near_joined k a b near = record { count = near.count; walk = to_open a b near.count near.walk }

  -- ---- the last level

  module _ (numbers : List ℕ) (are : AreOpenMoves m member c numbers) where
    abbrev Edge : Edges
    Edge = MoveLeads m numbers (length numbers)

    dec_both : {A B : Type 0} → Dec A → Dec B → Dec (A × B)
    dec_both (yes a) (yes b) = yes (a, b)
    dec_both (yes a) (no h) = no (λ p. h p.1)
    dec_both (no h) _ = no (λ p. h p.0)

    abbrev NamesEdge : ℕ → ℕ → Option Move → Type 0
    NamesEdge a x o = (move : Move) × (o ≡ Some move) × (move.source ≡ a) × (move.target ≡ x)

    dec_names : (a x : ℕ) (o : Option Move) → Dec (NamesEdge a x o)
    dec_names a x None = no (λ h. none-some h.0 h.1)
    dec_names a x (Some move) = like (dec_both (dec_equal move.source a) (dec_equal move.target x))
      where
        like : Dec ((move.source ≡ a) × (move.target ≡ x)) → Dec (NamesEdge a x (Some move))
        like (yes h) = yes (move, refl, h.0, h.1)
        like (no h) = no (λ named.
            let same : move ≡ named.0 = same_Some move named.0 named.1 in
            h (ap (λ (z : Move). z.source) same ∙ named.2, ap (λ (z : Move). z.target) same ∙ named.3))

    dec_edge : (a x : ℕ) → Dec (OpenMove m member c a x)
    dec_edge a x = elim (search_list (λ k. NamesEdge a x (slice_get m.moves (slice_index numbers k))) (λ k. dec_names a x (slice_get m.moves (slice_index numbers k))) (numbers_below (length numbers))) [
      | inl found ↦ yes (leads_open m w member c numbers are a x (record {
        place = found.0;
        below = numbers_within (length numbers) found.0 found.1;
        move = found.2.0;
        move_at = found.2.1;
        source = found.2.2;
        target = found.2.3;
      }))
      | inr none ↦ no (λ o.
          let h : Edge a x = open_leads m w member c numbers are a x o in
          none h.place (below_contains (length numbers) h.place h.below) (h.move, h.move_at, h.source, h.target))
    ]

    dec_walk : (n a b : ℕ) → Dec (OpenWalk m member c a b n)
    dec_walk zero a b = dec_equal a b
    dec_walk (suc n) a b = elim (search_list (λ x. OpenMove m member c a x × OpenWalk m member c x b n) (λ x. dec_both (dec_edge a x) (dec_walk n x b)) (numbers_below modes)) [
      | inl found ↦ yes (found.0, found.2.0, found.2.1)
      | inr none ↦ no (λ walk. none walk.0 (below_contains modes walk.0 (target_mode a walk.0 walk.1)) (walk.1, walk.2))
    ]

    -- what is joined is near by as many moves as there are modes
    joined_near : (a b : ℕ) → HasMode m c a → Joined m member c a b → IsNear (OpenMove m member c) modes a b
    joined_near a b has_a joined =
        let found = least (λ n. OpenWalk m member c a b n) (λ n. dec_walk n a b) joined.count joined.walk in
        let shortest : IsShortest m member c a b found.0 = record { walk = found.1.0; least = found.1.1 } in
        let few : found.0 < modes = shortest_few m member rules c b found.0 a has_a shortest in
        record { count = found.0; few = omega (arith, few); walk = from_open a b found.0 found.1.0 }

    module _ (levels : List (List ℕ)) (leveled : AreLevels Edge modes levels) (some : 0 < length levels) where
      by_moves : AreLevels (OpenMove m member c) modes levels
      by_moves k level at = level_map Edge (OpenMove m member c) (leads_open m w member c numbers are) (open_leads m w member c numbers are) modes k level (leveled k level at)

      stay : (a x : ℕ) → Edge a x → x < modes
      stay a x e = target_mode a x (leads_open m w member c numbers are a x e)

      last_has : AreEnough Edge modes levels → (level : List ℕ) → slice_get levels (length levels - 1) ≡ Some level → (a b : ℕ) → HasMode m c a → Joined m member c a b → in_row level a b ≡ true
      last_has (inl all) level at a b has_a joined =
          let here : length levels - 1 ≡ modes = omega (arith, all) in
          ((by_moves modes level (subst (λ k. slice_get levels k ≡ Some level) here at)).each a b has_a).1 (joined_near a b has_a joined)
      last_has (inr nothing_new) level at a b has_a joined =
          let is : IsLevel Edge modes (length levels - 1) level = leveled (length levels - 1) level at in
          closed_walk Edge modes stay level is.full (λ x has_x. (is.each x x has_x).1 (record { count = 0; few = omega arith; walk = refl })) (nothing_new level at)
          joined.count a b has_a (walk_map (OpenMove m member c) Edge (open_leads m w member c numbers are) a b joined.count (from_open a b joined.count joined.walk))

      pub levels_of : AreEnough Edge modes levels → length levels ≤ suc modes → AreLevelsOf m member c levels
      levels_of enough few = record { some = some; few = few; each = by_moves; last = last_has enough }

  -- ---- the class around a home

  module _ (levels : List (List ℕ)) (of : AreLevelsOf m member c levels) (closed : List ℕ) (at : slice_get levels (length levels - 1) ≡ Some closed) where
    abbrev level : IsLevel (OpenMove m member c) modes (length levels - 1) closed
    level = of.each (length levels - 1) closed at

    pub class_from : (mode home set : ℕ) → HasMode m c home → IsHomeFrom m member c mode home → IsAround closed home (length closed) set → IsClassFrom m member c mode set
    class_from mode home set has_home is_home round = record {
      home = home;
      is_home = is_home;
      each = λ x. (
        (λ e.
            let h = (round x).0 e in
            let has_x : HasMode m c x = subst (λ n. x < n) level.full h.0 in (
              near_joined (length levels - 1) home x ((level.each home x has_home).0 h.1),
              near_joined (length levels - 1) x home ((level.each x home has_x).0 h.2),
            )),
        (λ j.
            let has_x : HasMode m c x = walk_end home x j.0.count has_home j.0.walk in
            (round x).1 (subst (λ n. x < n) (sym level.full) has_x, of.last closed at home x has_home j.0, of.last closed at x home has_x j.1)),
      );
    }

  -- ---- homes

  module _ (numbers : List ℕ) (are : AreOpenMoves m member c numbers) where
    open_repairs : (mode a n : ℕ) → EdgeRepairs m.moves (MoveLeads m numbers (length numbers)) c mode a n → OpenRepairs m member c mode a n
    open_repairs mode a zero e = e
    open_repairs mode a (suc n) p =
        (p.0, next_broken m.moves c mode p.0 p.1, leads_open m w member c numbers are mode p.0 p.2, open_repairs p.0 a n p.3)

    pub home_from : (mode a : ℕ) → IsHomeBy m.moves (MoveLeads m numbers (length numbers)) c mode a → IsHomeFrom m member c mode a
    home_from mode a h = record { sound = h.0; count = h.1.0; way = open_repairs mode a h.1.0 h.1.1 }

    edge_repairs : (mode a n : ℕ) → OpenRepairs m member c mode a n → EdgeRepairs m.moves (MoveLeads m numbers (length numbers)) c mode a n
    edge_repairs mode a zero e = e
    edge_repairs mode a (suc n) p =
        (p.0, mended_by m member rules c mode p.0 p.1 p.2, open_leads m w member c numbers are mode p.0 p.2, edge_repairs p.0 a n p.3)

    pub home_by : (mode a : ℕ) → IsHomeFrom m member c mode a → IsHomeBy m.moves (MoveLeads m numbers (length numbers)) c mode a
    home_by mode a h = (h.sound, (h.count, edge_repairs mode a h.count h.way))

    repairs_mode : (mode a n : ℕ) → HasMode m c mode → EdgeRepairs m.moves (MoveLeads m numbers (length numbers)) c mode a n → HasMode m c a
    repairs_mode mode a zero has_mode e = subst (HasMode m c) e has_mode
    repairs_mode mode a (suc n) has_mode p = repairs_mode p.0 a n (target_mode mode p.0 (leads_open m w member c numbers are mode p.0 p.2)) p.3

    pub home_mode : (mode a : ℕ) → HasMode m c mode → IsHomeBy m.moves (MoveLeads m numbers (length numbers)) c mode a → HasMode m c a
    home_mode mode a has_mode h = repairs_mode mode a h.1.0 has_mode h.1.1
