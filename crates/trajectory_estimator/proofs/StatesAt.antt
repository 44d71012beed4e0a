-- The states of a list of values, and pairs at the places of their components' modes behind a record.
use Rattle.std.proofs.Common.{◌≡◌, ℕ, suc, ◌+◌, ◌*◌, ◌<◌, ◌≤◌, true, false, not, inl, inr, List, filter, length, map, take, drop, get_or, slice_get, slice_index, All, Contains, Some, sym, ap, subst, ◌∙◌, arith}
use Rattle.std.proofs.lemmas.Bool.{both_ways, cases_Bool, cond-false, cond-true, not-true, or_left}
use Rattle.std.proofs.Math.Nat.{mul-le-mul_left}
use Rattle.std.proofs.lemmas.List.{ext_get_or, get_or-drop, get_or-map, get_or-take, length-drop, length-map, length-take-le}
use Rattle.std.proofs.lemmas.List.Elements.{All-contains, All-filter, All-get_or, All-map}
use Rattle.std.proofs.lemmas.Option.{get_or_from_slice_get, slice_get-get_or}
use Rattle.list_laws.proofs.Elements.{contains_map}
use Rattle.list_laws.proofs.Members.{all_from, from_filter, to_filter}
use Rattle.list_laws.proofs.Tests.{either}
use Rattle.list_laws.proofs.Places.{value_at}
use Rattle.cca_base.specs.Cube.{IsPart}
use Rattle.cca_base.specs.Model.{HasMode}
use Rattle.cca_base.specs.PlantModel.{PlantModel}
use Rattle.cca_base.specs.Shown.{CanShow, Clash}
use Rattle.cca_base.specs.State.{Extends, HasValue, IsState}
use Rattle.cca_base.specs.declared.cube.Pair.{Pair}
use Rattle.consistency.specs.Cores.{IsShowable}
use Rattle.group_search.specs.Questions.{AreOf, IsWhole, in_group}
use Rattle.trajectory_estimator.specs.Asked.{Asked, AreValues, entry_of}
use Rattle.trajectory_estimator.specs.Clashes.{ArePairsAt, AreWalks, IsClashOf, is_asked, mode_asked, stands_still}
use Rattle.trajectory_estimator.specs.PlaceLaws.{length-places, mode_own}
use Rattle.trajectory_estimator.specs.Queries.{IsAsked}
use Rattle.trajectory_estimator.specs.WalkLaws.{walk_modes}
use Rattle.trajectory_estimator.specs.Walks.{IsWalk, mode_place, nothing_known, places, record_at}
use Rattle.trajectory_estimator.specs.Windows.{IsWindow, state_at, window_of}
use Rattle.trajectory_estimator.specs.declared.group_paths.GroupPaths.{GroupPaths}
use Rattle.trajectory_estimator.specs.declared.record.Record.{Record}
use Rattle.window_laws.specs.Trajectories.{Entry}

-- ---- a state of the values

module _ (q : Asked) (values : List ℕ) (full : length values ≡ places q) (at : ℕ) (within : at < length q.records) where
  abbrev count : ℕ
  count = length q.model.components

  row_fits : count ≤ length (drop (at * count) values)
  row_fits =
      let up : count * (at + 1) ≤ count * (length q.records + length q.records) = mul-le-mul_left count (omega arith) in
      omega (arith, length-drop (at * count) values, up, full)

  -- a mode for each component
  pub length-state : length (state_at q values at) ≡ count
  length-state = length-take-le count (drop (at * count) values) row_fits

  -- which stands at its place
  pub mode_in : (c d : ℕ) → c < count → get_or (state_at q values at) c d ≡ get_or values (mode_place q c at) d
  mode_in c d inside = get_or-take count (drop (at * count) values) c d inside ∙ get_or-drop (at * count) values c d

  pub place_inside : (c : ℕ) → c < count → mode_place q c at < length values
  place_inside c inside = omega (arith, (mode_own q c at inside within).within, full)

  pub stands_in : (c mode : ℕ) → c < count → slice_get values (mode_place q c at) ≡ Some mode → slice_get (state_at q values at) c ≡ Some mode
  stands_in c mode inside there =
      slice_get-get_or (state_at q values at) c 0 (omega (arith, inside, length-state)) ∙ ap Some (mode_in c 0 inside ∙ value_at values (mode_place q c at) mode there)

  -- walks lead to a state
  pub walked_state : IsAsked q → ((c : ℕ) → c < count → (cost : ℕ) × IsWalk q c values cost) → IsState q.model (state_at q values at)
  walked_state asked walks = record {
    full = length-state;
    modes = λ c inside.
        let (cost, walk) = walks c inside in
        subst (HasMode q.model c) (sym (mode_in c 0 inside)) (walk_modes q c values walk.own asked.model asked.anchor walk.steps (suc at) (omega (arith, within)));
  }

-- ---- what was seen at a record

module _ (q : Asked) (records : List Record) (same : map entry_of records ≡ q.records) (at : ℕ) (within : at < length q.records) (r : Record) where
  pub seen_here : (get_or records at r).seen.pairs ≡ (record_at q at).seen
  seen_here =
      let inside : at < length records = omega (arith, length-map records entry_of, ap length same) in
      ap (λ (e : Entry). e.seen) (sym (get_or-map entry_of records at r nothing_known inside) ∙ ap (λ (entries : List Entry). get_or entries at nothing_known) same)

  -- are values of the model
  pub seen_values : (m : PlantModel) → m ≡ q.model → All (AreValues q.model) q.records → All (λ p. HasValue m p.item p.value) (get_or records at r).seen.pairs
  seen_values m is values =
      subst (λ (n : PlantModel). All (λ p. HasValue n p.item p.value) (get_or records at r).seen.pairs) (sym is)
      (subst (All (λ p. HasValue q.model p.item p.value)) (sym seen_here) (All-get_or (AreValues q.model) q.records at nothing_known within values))

-- ---- pairs of a group

module _ (x : GroupPaths) (asked : IsAsked x.query.now) (at : ℕ) (within : at < length x.query.now.records) where
  abbrev q : Asked
  q = x.query.now

  abbrev move_pair : Pair → Pair
  move_pair p = record { item = mode_place q p.item at; value = p.value }

  abbrev moved : List Pair → List Pair
  moved cube = map move_pair cube

  -- where it stands still its mode is the anchor's, and else the one that stands behind the record
  still_mode : (c : ℕ) → stands_still x c ≡ true → mode_asked x at c ≡ slice_index q.anchor c
  still_mode c still = cond-true (stands_still x c) (slice_index q.anchor c) (slice_index x.values.now (mode_place q c at)) still

  moving_mode : (c : ℕ) → stands_still x c ≡ false → mode_asked x at c ≡ slice_index x.values.now (mode_place q c at)
  moving_mode c moving = cond-false (stands_still x c) (slice_index q.anchor c) (slice_index x.values.now (mode_place q c at)) moving

  -- one that is asked for and doesn't stand still is of the group
  in_the_group : (c : ℕ) → is_asked x c ≡ true → stands_still x c ≡ false → in_group x.names.now x.group c ≡ true
  in_the_group c asks moving = either (in_group x.names.now x.group c) (stands_still x c) asks (λ e. e) (λ still. absurd (both_ways (stands_still x c) moving still))

  module _ (pairs : List Pair) (are : ArePairsAt x at pairs) where
    own : (p : Pair) → Contains pairs p → (p.item < length q.model.components) × (is_asked x p.item ≡ true) × (p.value ≡ mode_asked x at p.item)
    own p among = All-contains (λ (p : Pair). (p.item < length q.model.components) × (is_asked x p.item ≡ true) × (p.value ≡ mode_asked x at p.item)) pairs p are.own among

    -- they are modes of their components
    pub pairs_have_modes : AreWalks x → All (λ p. HasMode q.model p.item p.value) pairs
    pairs_have_modes walks = all_from (λ p. HasMode q.model p.item p.value) pairs (λ p among.
        let mine = own p among in
        elim (cases_Bool (stands_still x p.item)) [
          | inl still ↦ subst (HasMode q.model p.item) (sym (mine.2 ∙ still_mode p.item still)) (asked.anchor.modes p.item mine.0)
          | inr moving ↦
              let (cost, walk) = walks p.item mine.0 (in_the_group p.item mine.1 moving) in
              subst (HasMode q.model p.item) (sym (mine.2 ∙ moving_mode p.item moving))
              (walk_modes q p.item x.values.now walk.own asked.model asked.anchor walk.steps (suc at) (omega (arith, within)))
        ])

    module _ (cube : List Pair) (part : IsPart cube pairs) where
      in_pairs : (p : Pair) → Contains cube p → Contains pairs p
      in_pairs p among = All-contains (Contains pairs) cube p part among

      pub part_within : All (λ p. p.item < length q.model.components) cube
      part_within = all_from (λ p. p.item < length q.model.components) cube (λ p among. (own p (in_pairs p among)).0)

      -- the pairs of components that don't stand still
      abbrev moving : List Pair
      moving = filter (λ p. not (stands_still x p.item)) cube

      pub moving_within : All (λ p. p.item < length q.model.components) moving
      moving_within = All-filter (λ p. not (stands_still x p.item)) (λ p. p.item < length q.model.components) cube part_within

      moving_own : (p : Pair) → Contains moving p → (p.item < length q.model.components) × (in_group x.names.now x.group p.item ≡ true) × (p.value ≡ slice_index x.values.now (mode_place q p.item at))
      moving_own p among =
          let kept = from_filter (λ p. not (stands_still x p.item)) cube p among in
          let mine = own p (in_pairs p kept.1) in
          let moves : stands_still x p.item ≡ false = not-true (stands_still x p.item) kept.0 in
          (mine.0, in_the_group p.item mine.1 moves, mine.2 ∙ moving_mode p.item moves)

      -- at their places they stand
      moved_held : Extends x.values.now (moved moving)
      moved_held = All-map (λ p. slice_get x.values.now p.item ≡ Some p.value) move_pair moving (all_from (λ p. slice_get x.values.now (mode_place q p.item at) ≡ Some p.value) moving (λ p among.
          let mine = moving_own p among in
          slice_get-get_or x.values.now (mode_place q p.item at) 0 (place_inside q x.values.now x.full at within p.item mine.0) ∙ ap Some (sym mine.2)))

      moved_own : AreOf (window_of q) (in_group x.names.now x.group) (moved moving)
      moved_own = All-map (λ p. (p.item < length (window_of q).of) × (in_group x.names.now x.group (slice_index (window_of q).of p.item) ≡ true)) move_pair moving
          (all_from (λ p. (mode_place q p.item at < length (window_of q).of) × (in_group x.names.now x.group (slice_index (window_of q).of (mode_place q p.item at)) ≡ true)) moving (λ p among.
          let mine = moving_own p among in
          let place = mode_own q p.item at mine.0 within in
          (omega (arith, place.within, length-places q), ap (in_group x.names.now x.group) place.own ∙ mine.1)))

      -- a solution that has the moved pairs has all pairs in its state
      extends_state : (values costs : List ℕ) → IsWindow q values costs → Extends values (moved moving) → Extends (state_at q values at) cube
      extends_state values costs h extends = all_from (λ p. slice_get (state_at q values at) p.item ≡ Some p.value) cube (λ p among.
          let mine = own p (in_pairs p among) in
          stands_in q values h.places at within p.item p.value mine.0 (elim (cases_Bool (stands_still x p.item)) [
            | inl still ↦
                slice_get-get_or values (mode_place q p.item at) 0 (place_inside q values h.places at within p.item mine.0)
                ∙ ap Some (x.stands.each p.item mine.0 still values (slice_index costs p.item) (h.walks p.item mine.0) at within ∙ sym (mine.2 ∙ still_mode p.item still))
            | inr moves ↦
                All-contains (λ p. slice_get values p.item ≡ Some p.value) (moved moving) (move_pair p) extends
                (contains_map move_pair moving p (to_filter (λ p. not (stands_still x p.item)) cube p (ap not moves) among))
          ]))

      -- and if they clash, no trajectory has them
      pub moved_clash : Clash q.model (record_at q at).seen cube → IsClashOf x (moved moving)
      moved_clash clash = record {
        own = record { held = moved_held; own = moved_own };
        clash = λ values costs h extends.
            clash (state_at q values at) (walked_state q values h.places at within asked (λ c inside. (slice_index costs c, h.walks c inside)))
            (extends_state values costs h extends) (h.shows at within);
      }

    -- a state that extends the pairs of all components is the one behind the record
    shown_state : AreWalks x → (s : List ℕ) → IsState q.model s → Extends s pairs → IsWhole (window_of q) x.names.now x.group → s ≡ state_at q x.values.now at
    shown_state walks s state extends whole =
        let as_long : length s ≡ length (state_at q x.values.now at) = state.full ∙ sym (length-state q x.values.now x.full at within) in
        ext_get_or 0 s (state_at q x.values.now at) as_long (λ c below.
        let inside : c < length q.model.components = omega (arith, below, state.full) in
        let (cost, walk) = walks c inside (whole c inside) in
        let among = are.whole c inside (or_left (in_group x.names.now x.group c) (stands_still x c) (whole c inside)) in
        let there : mode_asked x at c ≡ slice_index x.values.now (mode_place q c at) = elim (cases_Bool (stands_still x c)) [
          | inl still ↦ still_mode c still ∙ sym (x.stands.each c inside still x.values.now cost walk at within)
          | inr moves ↦ moving_mode c moves
        ] in
        get_or_from_slice_get s c (mode_asked x at c) 0 (All-contains (λ p. slice_get s p.item ≡ Some p.value) pairs (record { item = c; value = mode_asked x at c }) extends among)
        ∙ there ∙ sym (mode_in q x.values.now x.full at within c 0 inside))

    pub none_shows : AreWalks x → IsShowable q.model (record_at q at).seen pairs → IsWhole (window_of q) x.names.now x.group → CanShow q.model (state_at q x.values.now at) (record_at q at).seen
    none_shows walks shown whole = subst (λ s. CanShow q.model s (record_at q at).seen) (shown_state walks shown.0 shown.1 shown.2 whole) shown.3
