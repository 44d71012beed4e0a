-- The pairs that are asked of a group, and what a clash of them says of a tick.
use Rattle.std.proofs.Common.{◌≡◌, ℕ, ◌+◌, ◌<◌, ◌∷◌, ◌++◌, Bool, true, false, not, inl, inr, List, [], filter, length, get_or, slice_get, slice_index, All, Contains, Option, Some, sym, ap, subst, ◌∙◌, arith}
use Rattle.std.proofs.lemmas.Bool.{both_ways, cases_Bool, cond-false, cond-true, eq-eqb, eqb-true, ne_eqb, not-true, or_from, or_left, or_right}
use Rattle.std.proofs.lemmas.List.{ext_get_or, get_or_default}
use Rattle.std.proofs.lemmas.List.Elements.{All-contains, Contains-get_or}
use Rattle.std.proofs.lemmas.Option.{get_or_from_slice_get, slice_get-get_or}
use Rattle.list_laws.proofs.Members.{all_from, from_filter, to_filter}
use Rattle.list_laws.proofs.Tests.{either}
use Rattle.cca_base.specs.Cube.{IsPart}
use Rattle.cca_base.specs.Model.{HasMode}
use Rattle.cca_base.specs.PlantModel.{PlantModel}
use Rattle.cca_base.specs.Shown.{CanShow, Clash}
use Rattle.cca_base.specs.State.{Extends, IsState}
use Rattle.cca_base.specs.declared.choice.Choice.{Choice}
use Rattle.cca_base.specs.declared.cube.Pair.{Pair}
use Rattle.cca_base.proofs.PathLaws.{length-numbers}
use Rattle.consistency.specs.Cores.{IsShowable}
use Rattle.group_search.specs.Columns.{ArePaths}
use Rattle.group_search.specs.Questions.{AreOf, IsCut, IsWhole, in_group}
use Rattle.mode_estimator.specs.TickLaws.{asked, number_at}
use Rattle.mode_estimator.specs.Ticks.{ArePairsOf, IsChoice, is_asked, is_fixed, own_mode}
use Rattle.mode_estimator.specs.declared.tick.Tick.{Tick}
use Rattle.mode_estimator.proofs.ComponentPairs.{AreBefore, one_less, one_more}

abbrev nothing : Choice
nothing = record { mode = 0; cost = 0 }

-- ---- a component with one choice

module _ (rows : List (List Choice)) (c : ℕ) where
  one_choice : is_fixed rows c ≡ true → length (get_or rows c []) ≡ 1
  one_choice fixed = eqb-true (length (get_or rows c [])) 1 fixed

  module _ (modes : List ℕ) where
    pub mode_of_fixed : is_fixed rows c ≡ true → own_mode rows modes c ≡ (get_or (get_or rows c []) 0 nothing).mode
    mode_of_fixed fixed = cond-true (is_fixed rows c) (get_or (get_or rows c []) 0 nothing).mode (slice_index modes c) fixed

    pub mode_of_free : is_fixed rows c ≡ false → own_mode rows modes c ≡ slice_index modes c
    mode_of_free free = cond-false (is_fixed rows c) (get_or (get_or rows c []) 0 nothing).mode (slice_index modes c) free

    -- whatever mode it has is that of its choice
    pub only_mode : (mode cost : ℕ) → is_fixed rows c ≡ true → IsChoice rows c mode cost → mode ≡ own_mode rows modes c
    only_mode mode cost fixed (at, within, is) =
        let first : at ≡ 0 = omega (arith, within, one_choice fixed) in
        let x : Choice = record { mode = mode; cost = cost } in
        ap (λ (z : Choice). z.mode) (sym is ∙ get_or_default (get_or rows c []) at x nothing within ∙ ap (λ k. get_or (get_or rows c []) k nothing) first) ∙ sym (mode_of_fixed fixed)

    -- a mode that it has of its choices stands for it, also where it has but one
    pub chosen_mode : (cost : ℕ) → IsChoice rows c (slice_index modes c) cost → own_mode rows modes c ≡ slice_index modes c
    chosen_mode cost is = elim (cases_Bool (is_fixed rows c)) [
      | inl fixed ↦ sym (only_mode (slice_index modes c) cost fixed is)
      | inr free ↦ mode_of_free free
    ]

-- ---- the pairs, component by component

module _ (rows : List (List Choice)) (names : List ℕ) (group : Option ℕ) (modes : List ℕ) (i : ℕ) (row : List Choice) (here : get_or rows i [] ≡ row) (pairs : List Pair) where
  abbrev test : ℕ → Bool
  test = is_asked rows names group

  abbrev mode : ℕ → ℕ
  mode = own_mode rows modes

  pub takes_fixed : (new : List Pair) → AreBefore test mode i pairs → length row ≡ 1 → new ≡ pairs ++ (record { item = i; value = (get_or row 0 nothing).mode }) ∷ [] → AreBefore test mode (i + 1) new
  takes_fixed new h one put =
      let fixed : is_fixed rows i ≡ true = eq-eqb (length (get_or rows i [])) 1 (ap length here ∙ one) in
      one_more test mode i pairs h (get_or row 0 nothing).mode new (or_right (in_group names group i) (is_fixed rows i) fixed) (ap (λ (r : List Choice). (get_or r 0 nothing).mode) (sym here) ∙ sym (mode_of_fixed rows i modes fixed)) put

  module _ (h : AreBefore test mode i pairs) (other : length row ≡ 1 → ⊥) where
    free : is_fixed rows i ≡ false
    free = ne_eqb (length (get_or rows i [])) 1 (λ e. other (ap length (sym here) ∙ e))

    pub takes_free : (new : List Pair) → in_group names group i ≡ true → new ≡ pairs ++ (record { item = i; value = slice_index modes i }) ∷ [] → AreBefore test mode (i + 1) new
    takes_free new among put = one_more test mode i pairs h (slice_index modes i) new (or_left (in_group names group i) (is_fixed rows i) among) (sym (mode_of_free rows i modes free)) put

    pub takes_none : in_group names group i ≡ false → AreBefore test mode (i + 1) pairs
    takes_none beyond = one_less test mode i pairs h (or_from (in_group names group i) (is_fixed rows i) beyond free)

-- ---- a clash

-- the pairs of components with more than one choice
abbrev pub free_pairs : List (List Choice) → List Pair → List Pair
free_pairs rows cube = filter (λ p. not (is_fixed rows p.item)) cube

module _ (t : Tick) where
  abbrev m : PlantModel
  m = t.rules.now.model.now

  abbrev rows : List (List Choice)
  rows = t.rows.now.rows

  -- the modes of a solution are a state
  solved_state : (values costs : List ℕ) → (asked t).solves values costs → IsState m values
  solved_state values costs h = record {
    full = h.states ∙ t.of_rows.full;
    modes = λ c within.
        let less : c < length rows = omega (arith, within, t.of_rows.full) in
        t.of_rows.modes c (record { mode = slice_index values c; cost = slice_index costs c }) less (h.each c less);
  }

  module _ (names : List ℕ) (group : Option ℕ) (values costs : List ℕ) (paths : ArePaths (asked t) (in_group names group) values costs) where
    pub as_many : length values ≡ length rows
    as_many = paths.places ∙ length-numbers (length rows)

    module _ (made pairs : List Pair) (made_are : ArePairsOf rows names group values made) (same : pairs ≡ made) where
      are : ArePairsOf rows names group values pairs
      are = subst (ArePairsOf rows names group values) (sym same) made_are

      own : (p : Pair) → Contains pairs p → (p.item < length values) × (is_asked rows names group p.item ≡ true) × (p.value ≡ own_mode rows values p.item)
      own p among = All-contains (λ (p : Pair). (p.item < length values) × (is_asked rows names group p.item ≡ true) × (p.value ≡ own_mode rows values p.item)) pairs p are.own among

      -- one that is asked and has more than one choice is of the group
      in_the_group : (c : ℕ) → is_asked rows names group c ≡ true → is_fixed rows c ≡ false → in_group names group c ≡ true
      in_the_group c asks free = either (in_group names group c) (is_fixed rows c) asks (λ e. e) (λ fixed. absurd (both_ways (is_fixed rows c) free fixed))

      module _ (cube : List Pair) (part : IsPart cube pairs) where
        in_pairs : (p : Pair) → Contains cube p → Contains pairs p
        in_pairs p among = All-contains (Contains pairs) cube p part among

        pub part_within : All (λ p. p.item < length rows) cube
        part_within = all_from (λ p. p.item < length rows) cube (λ p among. omega (arith, (own p (in_pairs p among)).0, as_many))

        -- a solution that has the free pairs has the others too
        whole_stands : (s costs : List ℕ) → (asked t).solves s costs → Extends s (free_pairs rows cube) → Extends s cube
        whole_stands s costs h extends = all_from (λ p. slice_get s p.item ≡ Some p.value) cube (λ p among.
            let mine = own p (in_pairs p among) in
            let within : p.item < length rows = omega (arith, mine.0, as_many) in
            elim (cases_Bool (is_fixed rows p.item)) [
              | inl fixed ↦
                  slice_get-get_or s p.item 0 (omega (arith, within, h.states))
                  ∙ ap Some (only_mode rows p.item values (slice_index s p.item) (slice_index costs p.item) fixed (h.each p.item within) ∙ sym mine.2)
              | inr free ↦ All-contains (λ p. slice_get s p.item ≡ Some p.value) (free_pairs rows cube) p extends (to_filter (λ p. not (is_fixed rows p.item)) cube p (ap not free) among)
            ])

        pub clash_cuts : Clash m t.seen.now cube → IsCut (asked t) (free_pairs rows cube)
        clash_cuts clash s costs h extends = clash s (solved_state s costs h) (whole_stands s costs h extends) h.shows

        -- each free pair is one of the group, with the mode that stands there
        free_own : (p : Pair) → Contains (free_pairs rows cube) p → (p.item < length values) × (in_group names group p.item ≡ true) × (slice_get values p.item ≡ Some p.value)
        free_own p among =
            let kept = from_filter (λ p. not (is_fixed rows p.item)) cube p among in
            let mine = own p (in_pairs p kept.1) in
            let free : is_fixed rows p.item ≡ false = not-true (is_fixed rows p.item) kept.0 in
            (mine.0, in_the_group p.item mine.1 free, slice_get-get_or values p.item 0 mine.0 ∙ ap Some (sym (mine.2 ∙ mode_of_free rows p.item values free)))

        pub free_stand : Extends values (free_pairs rows cube)
        free_stand = all_from (λ p. slice_get values p.item ≡ Some p.value) (free_pairs rows cube) (λ p among. (free_own p among).2)

        pub free_are_of : AreOf (asked t) (in_group names group) (free_pairs rows cube)
        free_are_of = all_from (λ p. (p.item < length (asked t).of) × (in_group names group (slice_index (asked t).of p.item) ≡ true)) (free_pairs rows cube) (λ p among.
            let mine = free_own p among in
            let within : p.item < length rows = omega (arith, mine.0, as_many) in
            (omega (arith, within, length-numbers (length rows)), ap (in_group names group) (number_at (length rows) p.item within) ∙ mine.1))

      -- they are modes of their components
      pub pairs_have_modes : All (λ p. HasMode m p.item p.value) pairs
      pairs_have_modes = all_from (λ p. HasMode m p.item p.value) pairs (λ p among.
          let mine = own p among in
          let within : p.item < length rows = omega (arith, mine.0, as_many) in
          subst (HasMode m p.item) (sym mine.2) (elim (cases_Bool (is_fixed rows p.item)) [
            | inl fixed ↦
                let row : List Choice = get_or rows p.item [] in
                subst (HasMode m p.item) (sym (mode_of_fixed rows p.item values fixed))
                (t.of_rows.modes p.item (get_or row 0 nothing) within (Contains-get_or row 0 nothing (omega (arith, one_choice rows p.item fixed))))
            | inr free ↦
                subst (HasMode m p.item) (sym (mode_of_free rows p.item values free))
                (t.of_rows.modes p.item (record { mode = slice_index values p.item; cost = slice_index costs p.item }) within (paths.cost p.item within (in_the_group p.item mine.1 free)))
          ]))

      -- a state that extends the pairs of all components is these values
      shown_values : (s : List ℕ) → IsState m s → Extends s pairs → IsWhole (asked t) names group → s ≡ values
      shown_values s state extends whole =
          let as_long : length s ≡ length values = state.full ∙ sym t.of_rows.full ∙ sym as_many in
          ext_get_or 0 s values as_long (λ i below.
          let within : i < length rows = omega (arith, below, as_long, as_many) in
          let mode : ℕ = own_mode rows values i in
          let among = are.whole i (omega (arith, below, as_long)) (or_left (in_group names group i) (is_fixed rows i) (whole i within)) in
          get_or_from_slice_get s i mode 0 (All-contains (λ p. slice_get s p.item ≡ Some p.value) pairs (record { item = i; value = mode }) extends among)
          ∙ chosen_mode rows i values (slice_index costs i) (paths.cost i within (whole i within)))

      pub none_solves : IsShowable m t.seen.now pairs → IsWhole (asked t) names group → (asked t).solves values costs
      none_solves shown whole = record {
        states = as_many;
        full = paths.components;
        each = λ c within. paths.cost c within (whole c within);
        shows = subst (λ s. CanShow m s t.seen.now) (shown_values shown.0 shown.1 shown.2 whole) shown.3;
      }
