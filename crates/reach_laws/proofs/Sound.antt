-- Every move inside the classes has a way back, and every pair of a class is reached.
use Rattle.std.proofs.Common.{◌≡◌, ◌<◌, ◌+◌, ◌⊎◌, ◌≢◌, ◌==◌, ℕ, true, false, cond, List, [], ◌∷◌, ◌++◌, length, slice_get, slice_index, slice_set, Option, Some, None, Contains, refl, sym, ap, subst, ◌∙◌, inl, inr, zero, suc}
use Rattle.std.proofs.lemmas.Bool.{cases_eq, cases_Bool, both_ways, cond-true, cond-false, eq-eqb, eqb-true, eqb-false, false_from_ne_true}
use Rattle.std.proofs.lemmas.List.Elements.{All-contains}
use Rattle.std.proofs.lemmas.Option.{slice_get_within, same_Some, none-some}
use Rattle.list_laws.proofs.Places.{value_at, get_at}
use Rattle.list_laws.proofs.Members.{all_from, contains_cases, contains_here, contains_there, contains_none}
use Rattle.cca_base.specs.declared.cube.Pair.{Pair}
use Rattle.cca_base.specs.PlantModel.{PlantModel}
use Rattle.cca_base.specs.Cube.{IsRising}
use Rattle.cca_base.specs.Model.{RepairChain, HasMode, is_broken, mode_counts}
use Rattle.cca_base.specs.Implicants.{Needs}
use Rattle.cca_base.specs.State.{IsState}
use Rattle.cca_base.specs.Repairs.{Mending}
use Rattle.cca_base.specs.Steps.{Step, Run, Allowed, AllowedPlan, Reach}
use Rattle.cca_base.specs.Relations.{numbers_below}
use Rattle.cca_base.proofs.PathLaws.{below_contains}
use Rattle.reach_laws.specs.Classes.{Test, IsOpen, OpenMove, OpenWalk, Joined, OpenRepairs, IsHome, InClass, AreClasses, IsOnWay, Stands, Covers}
use Rattle.reach_laws.specs.Laws.{Setting, Ready, ClassIsReach, OneClasses, Returns, ReturnsInside, RepairsLeadIn, StaysCovered}
use Rattle.reach_laws.proofs.Facts.{RepairRules, run_one, step_within, step_source, step_target, step_other, step_state, join, go_one, repairs_join, repairs_walk}
use Rattle.cca_base.proofs.Support.{leans}
use Rattle.reach_laws.proofs.Order.{repair_rules, Among, AreEffectsFirst, IsOrder, order_from}
use Rattle.cca_laws.proofs.Minimal.{one_pair, search_list}
use Rattle.reach_laws.proofs.Ready.{steps_are_ready}
use Rattle.reach_laws.proofs.Walk.{mended_by, repairs_from, way_on, one_home, home_member, near_member, member_sound, member_within, stands_sound, home_from, closed}

-- ---- what a cube wants

-- the mode that a cube wants of a component
abbrev find_mode : List Pair → ℕ → Option ℕ
find_mode [] d = None
find_mode (p ∷ ps) d = cond (p.item == d) (Some p.value) (find_mode ps d)

found_in : (cube : List Pair) (d x : ℕ) → find_mode cube d ≡ Some x → Contains cube (record { item = d; value = x })
found_in [] d x h = absurd (none-some x h)
found_in (p ∷ ps) d x h = elim (cases_Bool (p.item == d)) [
  | inl yes_p ↦
      let value : p.value ≡ x = same_Some p.value x (sym (cond-true (p.item == d) (Some p.value) (find_mode ps d) yes_p) ∙ h) in
      contains_here p (record { item = d; value = x }) ps (λ i. record { item = eqb-true p.item d yes_p i; value = value i })
  | inr no_p ↦ contains_there p (record { item = d; value = x }) ps (found_in ps d x (sym (cond-false (p.item == d) (Some p.value) (find_mode ps d) no_p) ∙ h))
]

finds_some : (cube : List Pair) (p : Pair) → Contains cube p → (x : ℕ) × (find_mode cube p.item ≡ Some x)
finds_some [] p among = absurd (contains_none p among)
finds_some (q ∷ cube) p among = elim (cases_Bool (q.item == p.item)) [
  | inl yes_q ↦ (q.value, cond-true (q.item == p.item) (Some q.value) (find_mode cube p.item) yes_q)
  | inr no_q ↦ elim (contains_cases q p cube among) [
    | inl e ↦ absurd (eqb-false q.item p.item no_q (ap (λ r. r.item) e))
    | inr there ↦ let rest = finds_some cube p there in (rest.0, cond-false (q.item == p.item) (Some q.value) (find_mode cube p.item) no_q ∙ rest.1)
  ]
]

find_each : (cube : List Pair) → IsRising cube → (p : Pair) → Contains cube p → find_mode cube p.item ≡ Some p.value
find_each cube rising p among =
    let found = finds_some cube p among in
    let q : Pair = record { item = p.item; value = found.0 } in
    let same : q ≡ p = one_pair cube rising q p (found_in cube p.item found.0 found.1) among refl in
    found.1 ∙ ap (λ r. Some r.value) same

-- an option has a value or none
known : (o : Option ℕ) → ((a : ℕ) × (o ≡ Some a)) ⊎ (o ≡ None)
known (Some a) = inl (a, refl)
known None = inr refl

-- ---- steps inside the classes

-- a step from a covered state, by an open move, to where its component still stands in its class or on the way to it
pub record InnerStep (m : PlantModel) (base : List ℕ) (member : Test) (s : List ℕ) (k : ℕ) (t : List ℕ) : Type 0 where
  pub step : Step m s k t
  pub open_move : IsOpen m member step.move
  pub into : Stands m base member step.move.component step.move.target
  pub state : IsState m s
  pub covers : Covers m base member s

abbrev pub Inner : PlantModel → List ℕ → Test → List ℕ → List ℕ → List ℕ → Type 0
Inner m base member s [] t = t ≡ s
Inner m base member s (k ∷ ks) t = (mid : List ℕ) × InnerStep m base member s k mid × Inner m base member mid ks t

-- no mode is in the class of the component
abbrev pub HasNone : Test → ℕ → Type 0
HasNone member c = (x : ℕ) → member c x ≡ true → ⊥

module _ (m : PlantModel) (base : List ℕ) (member : Test) where
  inner_join : (s t u : List ℕ) (ks ls : List ℕ) → Inner m base member s ks t → Inner m base member t ls u → Inner m base member s (ks ++ ls) u
  inner_join s t u [] ls r q = subst (λ x. Inner m base member x ls u) r q
  inner_join s t u (k ∷ ks) ls r q = (r.0, r.1, inner_join r.0 t u ks ls r.2 q)

  inner_run : (s t : List ℕ) (ks : List ℕ) → Inner m base member s ks t → Run m s ks t
  inner_run s t [] r = r
  inner_run s t (k ∷ ks) r = (r.0, r.1.step, inner_run r.0 t ks r.2)

  pub inner_covers : (s t : List ℕ) (k : ℕ) → InnerStep m base member s k t → Covers m base member t
  inner_covers s t k inner d within = elim (cases_eq d inner.step.move.component) [
    | inl e ↦ subst (λ c. Stands m base member c (slice_index t c)) (sym e)
        (subst (Stands m base member inner.step.move.component) (sym (step_target m s t k inner.step)) inner.into)
    | inr other ↦ subst (Stands m base member d) (sym (step_other m s t k inner.step d other)) (inner.covers d within)
  ]

  -- what is wanted of some components was reached, the others stand as they did, and so do those with no mode in their classes
  pub record Rearranged (s : List ℕ) (moved : ℕ → Type 0) (want : ℕ → Option ℕ) : Type 0 where
    pub t : List ℕ
    pub ks : List ℕ
    pub run : Inner m base member s ks t
    pub state : IsState m t
    pub covers : Covers m base member t
    pub others : (d : ℕ) → (moved d → ⊥) → slice_index t d ≡ slice_index s d
    pub idle : (d : ℕ) → HasNone member d → slice_index t d ≡ slice_index s d
    pub stands : (d x : ℕ) → moved d → want d ≡ Some x → slice_index t d ≡ x

  abbrev pub IsWished : (ℕ → Option ℕ) → Type 0
  IsWished want = (d x : ℕ) → want d ≡ Some x → member d x ≡ true

  abbrev pub Can : List ℕ → Type 0
  Can order = (s : List ℕ) (want : ℕ → Option ℕ) → IsState m s → Covers m base member s → IsWished want → Rearranged s (λ d. Among d order) want

module _ (m : PlantModel) (base : List ℕ) (member : Test) (rules : RepairRules m) (classes : AreClasses m base member) where
  -- open moves lead from where a covered component stands to each mode of its class
  pub covered_joined : (c a b : ℕ) → Stands m base member c a → member c b ≡ true → Joined m member c a b
  covered_joined c a b (inl inside) inside_b =
      let x : InClass m base member c a = (classes.each c a).0 inside in
      let y : InClass m base member c b = (classes.each c b).0 inside_b in
      let same : x.home ≡ y.home = one_home m base member rules classes c x.home y.home x.is_home y.is_home in
      join m member c a y.home b (subst (λ h. Joined m member c a h) same x.from) y.to
  covered_joined c a b (inr on) inside_b =
      let y : InClass m base member c b = (classes.each c b).0 inside_b in
      let rest = way_on m member rules c (slice_index base c) a y.home on.count y.is_home.count on.way y.is_home.way y.is_home.sound in
      join m member c a y.home b (record { count = rest.0; walk = repairs_walk m member c a y.home rest.0 rest.1 }) y.to

  -- an open repair leads from the way to the class on along it, or into the class
  on_from : (c x y : ℕ) → c < length m.components → IsOnWay m base member c x → OpenMove m member c x y → Stands m base member c y
  on_from c x y within on o =
      let step : OpenRepairs m member c x y 1 = (y, on.broken, o, refl) in
      elim (cases_Bool (is_broken m.moves c y)) [
        | inl broken ↦ inr (record { broken = broken; count = on.count + 1; way = repairs_join m member c (slice_index base c) x y on.count 1 on.way step })
        | inr sound ↦ inl (home_member m base member rules classes c y (home_from m base member rules classes c x y 1 within on step sound))
      ]

  -- an open move toward a mode of the class leads to where the component stands in its class, or on the way to it
  pub stands_on : (c x y b : ℕ) → c < length m.components → Stands m base member c x → OpenMove m member c x y → Joined m member c y b → member c b ≡ true → Stands m base member c y
  stands_on c x y b within (inr on) o rest inside_b = on_from c x y within on o
  stands_on c x y b within (inl inside) o rest inside_b =
      inl (near_member m base member rules classes c x y inside (go_one m member c x y o)
      (join m member c y b x rest (covered_joined c b x (inl inside_b) inside)))

  -- c was brought to b; of the others only those of the list may have moved
  record Walked (c : ℕ) (rest s : List ℕ) (b : ℕ) : Type 0 where
    t : List ℕ
    ks : List ℕ
    run : Inner m base member s ks t
    state : IsState m t
    covers : Covers m base member t
    others : (d : ℕ) → d ≢ c → (Among d rest → ⊥) → slice_index t d ≡ slice_index s d
    idle : (d : ℕ) → HasNone member d → slice_index t d ≡ slice_index s d
    there : slice_index t c ≡ b

  walk_to : (c : ℕ) (rest : List ℕ) → Can m base member rest → ((u : ℕ) → Needs m c u → Among u rest) → (Among c rest → ⊥) → c < length m.components
      → (n : ℕ) (b : ℕ) (s : List ℕ) → IsState m s → Covers m base member s → OpenWalk m member c (slice_index s c) b n → member c b ≡ true
      → Walked c rest s b
  walk_to c rest can below apart within zero b s state covers walk inside_b =
      record { t = s; ks = []; run = refl; state = state; covers = covers; others = λ d _ _. refl; idle = λ d _. refl; there = walk }
  walk_to c rest can below apart within (suc n) b s state covers walk inside_b =
      let x : ℕ = walk.0 in
      let o : OpenMove m member c (slice_index s c) x = walk.1 in
      let cube : List Pair = o.open_move.cube in
      let inside_p : (p : Pair) → Contains cube p → member p.item p.value ≡ true =
      λ p among. All-contains (λ q. member q.item q.value ≡ true) cube p o.open_move.inside among in
      let first : Rearranged m base member s (λ d. Among d rest) (find_mode cube) =
      can s (find_mode cube) state covers (λ d y h. inside_p (record { item = d; value = y }) (found_in cube d y h)) in
      let mid : List ℕ = slice_set first.t o.move.component o.move.target in
      let source : slice_get first.t o.move.component ≡ Some o.move.source =
      subst (λ d. slice_get first.t d ≡ Some o.move.source) (sym o.own)
      (get_at first.t c o.move.source (subst (λ n. c < n) (sym first.state.full) within) (first.others c apart ∙ sym o.source)) in
      let stands_p : (p : Pair) → Contains cube p → (slice_get first.t p.item ≡ Some p.value) × (is_broken m.moves p.item p.value ≡ false) =
      λ p among. (
        let need : Needs m c p.item = record { move = o.move; of_model = o.of_model; own = o.own; cube = cube; prime = o.open_move.prime; mode = p.value; occurs = among } in
            get_at first.t p.item p.value (subst (λ n. p.item < n) (sym first.state.full) (member_within m base member rules classes p.item p.value (inside_p p among)))
            (first.stands p.item p.value (below p.item need) (find_each cube o.open_move.prime.rising p among)),
        member_sound m base member rules classes p.item p.value (inside_p p among),
      ) in
      let step : Step m first.t o.move.command mid = record {
        move = o.move;
        of_model = o.of_model;
        command = refl;
        source = source;
        guard = leans m first.t o.move cube o.open_move.prime.suffices stands_p;
        gives = refl;
      } in
      let into_x : Stands m base member c x =
      stands_on c (slice_index s c) x b within (covers c within) o (record { count = n; walk = walk.2 }) inside_b in
      let inner : InnerStep m base member first.t o.move.command mid = record {
        step = step;
        open_move = o.open_move;
        into = subst (λ d. Stands m base member d o.move.target) (sym o.own) (subst (Stands m base member c) (sym o.target) into_x);
        state = first.state;
        covers = first.covers;
      } in
      let at_x : slice_index mid c ≡ x = subst (λ d. slice_index mid d ≡ o.move.target) o.own (step_target m first.t mid o.move.command step) ∙ o.target in
      let after : Walked c rest mid b = walk_to c rest can below apart within n b mid (step_state m first.t mid o.move.command step rules first.state)
      (inner_covers m base member first.t mid o.move.command inner) (subst (λ v. OpenWalk m member c v b n) (sym at_x) walk.2) inside_b in
      record {
        t = after.t;
        ks = first.ks ++ o.move.command ∷ after.ks;
        run = inner_join m base member s first.t after.t first.ks (o.move.command ∷ after.ks) first.run (mid, inner, after.run);
        state = after.state;
        covers = after.covers;
        others = λ d ne apart_d. after.others d ne apart_d
            ∙ (step_other m first.t mid o.move.command step d (λ e. ne (e ∙ o.own)) ∙ first.others d apart_d);
        idle = λ d none. after.idle d none
            ∙ (step_other m first.t mid o.move.command step d (λ e. none b (subst (λ y. member y b ≡ true) (sym (e ∙ o.own)) inside_b)) ∙ first.idle d none);
        there = after.there;
      }

  -- effects first, each component is brought to what is wanted of it
  achieve : (order : List ℕ) → AreEffectsFirst m order → ((c : ℕ) → Among c order → c < length m.components) → Can m base member order
  achieve [] first all s want state covers wanted =
      record { t = s; ks = []; run = refl; state = state; covers = covers; others = λ d _. refl; idle = λ d _. refl; stands = λ d x none. absurd none }
  achieve (c ∷ rest) first all s want state covers wanted = elim (known (want c)) [
    | inl found ↦
        let b : ℕ = found.0 in
        let can : Can m base member rest = achieve rest first.2 (λ d i. all d (inr i)) in
        let within : c < length m.components = all c (inl refl) in
        let way = covered_joined c (slice_index s c) b (covers c within) (wanted c b found.1) in
        let w : Walked c rest s b = walk_to c rest can first.0 first.1 within way.count b s state covers way.walk (wanted c b found.1) in
        let after : Rearranged m base member w.t (λ d. Among d rest) want = can w.t want w.state w.covers wanted in
        record {
          t = after.t;
          ks = w.ks ++ after.ks;
          run = inner_join m base member s w.t after.t w.ks after.ks w.run after.run;
          state = after.state;
          covers = after.covers;
          others = λ d apart. after.others d (λ i. apart (inr i)) ∙ w.others d (λ e. apart (inl e)) (λ i. apart (inr i));
          idle = λ d none. after.idle d none ∙ w.idle d none;
          stands = λ d x there h. elim there [
            | inl e ↦ subst (λ y. slice_index after.t y ≡ x) (sym e)
                (after.others c first.1 ∙ (w.there ∙ same_Some b x (sym found.1 ∙ subst (λ y. want y ≡ Some x) e h)))
            | inr i ↦ after.stands d x i h
          ];
        }
    | inr none ↦
        let after : Rearranged m base member s (λ d. Among d rest) want = achieve rest first.2 (λ d i. all d (inr i)) s want state covers wanted in
        record {
          t = after.t;
          ks = after.ks;
          run = after.run;
          state = after.state;
          covers = after.covers;
          others = λ d apart. after.others d (λ i. apart (inr i));
          idle = after.idle;
          stands = λ d x there h. elim there [
            | inl e ↦ absurd (none-some x (sym none ∙ subst (λ y. want y ≡ Some x) e h))
            | inr i ↦ after.stands d x i h
          ];
        }
  ]

  -- ---- whether a class is empty

  walk_mode : (c a b n : ℕ) → OpenWalk m member c a b n → HasMode m c a → HasMode m c b
  walk_mode c a b zero e has = subst (HasMode m c) e has
  walk_mode c a b (suc n) p has =
      walk_mode c p.0 b n p.2 (subst (HasMode m c) p.1.target (subst (λ d. HasMode m d p.1.move.target) p.1.own (rules.targets p.1.move p.1.of_model)))

  pub member_mode : IsState m base → (c x : ℕ) → member c x ≡ true → HasMode m c x
  member_mode grounded c x inside =
      let k : InClass m base member c x = (classes.each c x).0 inside in
      walk_mode c k.home x k.to.count k.to.walk
      (walk_mode c (slice_index base c) k.home k.is_home.count (repairs_walk m member c (slice_index base c) k.home k.is_home.count k.is_home.way)
      (grounded.modes c k.is_home.within))

  dec_member : (c x : ℕ) → Dec (member c x ≡ true)
  dec_member c x = elim (cases_Bool (member c x)) [ inl inside ↦ yes inside | inr outside ↦ no (λ inside. both_ways (member c x) outside inside) ]

  -- a class has a home, or no mode
  pub find_home : IsState m base → (c : ℕ) → ((a : ℕ) × IsHome m base member c a) ⊎ HasNone member c
  find_home grounded c =
      elim (search_list (λ x. member c x ≡ true) (dec_member c) (numbers_below (slice_index (mode_counts m) c))) [
        | inl found ↦ let k : InClass m base member c found.0 = (classes.each c found.0).0 found.2 in inl (k.home, k.is_home)
        | inr none ↦ inr (λ x inside. none x (below_contains (slice_index (mode_counts m) c) x (member_mode grounded c x inside)) inside)
      ]

  module _ (grounded : IsState m base) (order : List ℕ) (ordered : IsOrder m order) where
    abbrev option_of : (c : ℕ) → ((a : ℕ) × IsHome m base member c a) ⊎ HasNone member c → Option ℕ
    option_of c (inl found) = Some found.0
    option_of c (inr none) = None

    option_member : (c : ℕ) (h : ((a : ℕ) × IsHome m base member c a) ⊎ HasNone member c) (x : ℕ) → option_of c h ≡ Some x → member c x ≡ true
    option_member c (inl found) x e = subst (λ y. member c y ≡ true) (same_Some found.0 x e) (home_member m base member rules classes c found.0 found.1)
    option_member c (inr none) x e = absurd (none-some x e)

    -- as the component stands where that is in its class, and else its home
    abbrev back_want : List ℕ → ℕ → Option ℕ
    back_want s d = cond (member d (slice_index s d)) (Some (slice_index s d)) (option_of d (find_home grounded d))

    back_wanted : (s : List ℕ) → IsWished m base member (back_want s)
    back_wanted s d x h = elim (cases_Bool (member d (slice_index s d))) [
      | inl inside ↦ subst (λ y. member d y ≡ true)
          (same_Some (slice_index s d) x (sym (cond-true (member d (slice_index s d)) (Some (slice_index s d)) (option_of d (find_home grounded d)) inside) ∙ h)) inside
      | inr outside ↦ option_member d (find_home grounded d) x (sym (cond-false (member d (slice_index s d)) (Some (slice_index s d)) (option_of d (find_home grounded d)) outside) ∙ h)
    ]

    -- after an inner step, a component that stays has a place along its chain
    step_repairs : (s t : List ℕ) (k : ℕ) → InnerStep m base member s k t → (c : ℕ) → is_broken m.moves c (slice_index s c) ≡ true
        → (n : ℕ) × RepairChain m.moves c (slice_index s c) (slice_index t c) n
    step_repairs s t k inner c broken = elim (cases_eq c inner.step.move.component) [
      | inl e ↦
          let o : OpenMove m member c (slice_index s c) (slice_index t c) = record {
            move = inner.step.move;
            of_model = inner.step.of_model;
            own = sym e;
            source = sym (subst (λ d. slice_index s d ≡ inner.step.move.source) (sym e) (step_source m s t k inner.step));
            target = sym (subst (λ d. slice_index t d ≡ inner.step.move.target) (sym e) (step_target m s t k inner.step));
            open_move = inner.open_move;
          } in
          (1, (slice_index t c, mended_by m member rules c (slice_index s c) (slice_index t c) broken o, refl))
      | inr other ↦ (0, sym (step_other m s t k inner.step c other))
    ]

    wanted_back : (s t : List ℕ) (k : ℕ) → InnerStep m base member s k t → (a : Rearranged m base member t (λ d. Among d order) (back_want s))
        → (c : ℕ) → c < length m.components → member c (slice_index s c) ≡ false → IsOnWay m base member c (slice_index s c)
        → (h : ((b : ℕ) × IsHome m base member c b) ⊎ HasNone member c) → back_want s c ≡ option_of c h
        → (n : ℕ) × RepairChain m.moves c (slice_index s c) (slice_index a.t c) n
    wanted_back s t k inner a c within outside on (inl found) wants =
        let at_home : slice_index a.t c ≡ found.0 = a.stands c found.0 (ordered.all_there c within) wants in
        let rest = way_on m member rules c (slice_index base c) (slice_index s c) found.0 on.count found.1.count on.way found.1.way found.1.sound in
        (rest.0, subst (λ y. RepairChain m.moves c (slice_index s c) y rest.0) (sym at_home) (repairs_from m member rules c (slice_index s c) found.0 rest.0 rest.1))
    wanted_back s t k inner a c within outside on (inr none) wants =
        let way = step_repairs s t k inner c on.broken in
        (way.0, subst (λ y. RepairChain m.moves c (slice_index s c) y way.0) (sym (a.idle c none)) way.1)

    record WayBack (s t : List ℕ) : Type 0 where
      ks : List ℕ
      end : List ℕ
      run : Run m t ks end
      mends : Mending m s end

    comes_back : (s t : List ℕ) (k : ℕ) → InnerStep m base member s k t → WayBack s t
    comes_back s t k inner =
        let a : Rearranged m base member t (λ d. Among d order) (back_want s) =
        achieve order ordered.effects_first ordered.within t (back_want s)
        (step_state m s t k inner.step rules inner.state) (inner_covers m base member s t k inner) (back_wanted s) in
        record {
          ks = a.ks;
          end = a.t;
          run = inner_run m base member t a.t a.ks a.run;
          mends = record {
            full = a.state.full ∙ sym inner.state.full;
            each = λ c lt.
                let within : c < length m.components = subst (λ n. c < n) inner.state.full lt in
                elim (cases_Bool (member c (slice_index s c))) [
                  | inl inside ↦ (
                    0,
                    sym (a.stands c (slice_index s c) (ordered.all_there c within)
                        (cond-true (member c (slice_index s c)) (Some (slice_index s c)) (option_of c (find_home grounded c)) inside)),
                  )
                  | inr outside ↦ elim (inner.covers c within) [
                    | inl inside ↦ absurd (both_ways (member c (slice_index s c)) outside inside)
                    | inr on ↦ wanted_back s t k inner a c within outside on (find_home grounded c)
                        (cond-false (member c (slice_index s c)) (Some (slice_index s c)) (option_of c (find_home grounded c)) outside)
                  ]
                ];
          };
        }

    -- ---- what steps are inner

    -- a step from a covered state is an open move
    step_open : (s t : List ℕ) (k : ℕ) → IsState m s → Covers m base member s → (step : Step m s k t) → IsOpen m member step.move
    step_open s t k state covers step =
        let r : Ready m s step.move = steps_are_ready m s t k state step in
        record {
          cube = r.cube;
          prime = r.prime;
          inside = all_from (λ p. member p.item p.value ≡ true) r.cube (λ p among.
              let stands = All-contains (λ q. (slice_get s q.item ≡ Some q.value) × (is_broken m.moves q.item q.value ≡ false)) r.cube p r.stands among in
              let at_p = value_at s p.item p.value stands.0 in
              let within : p.item < length m.components = subst (λ n. p.item < n) state.full (slice_get_within s p.item p.value stands.0) in
              subst (λ v. member p.item v ≡ true) at_p
              (stands_sound m base member rules classes p.item (slice_index s p.item) (covers p.item within) (subst (λ v. is_broken m.moves p.item v ≡ false) (sym at_p) stands.1)));
        }

    -- a repair leads on along the way to the class, or into it
    pub repair_into : (s t : List ℕ) (k : ℕ) → IsState m s → Covers m base member s → (step : Step m s k t) → step.move.repair ≡ true
        → Stands m base member step.move.component step.move.target
    repair_into s t k state covers step repair =
        let c = step.move.component in
        let within : c < length m.components = subst (λ n. c < n) state.full (step_within m s t k step) in
        let broken : is_broken m.moves c (slice_index s c) ≡ true =
        subst (λ x. is_broken m.moves c x ≡ true) (sym (step_source m s t k step)) (rules.repairs_leave step.move step.of_model repair) in
        let o : OpenMove m member c (slice_index s c) step.move.target = record {
          move = step.move;
          of_model = step.of_model;
          own = refl;
          source = sym (step_source m s t k step);
          target = refl;
          open_move = step_open s t k state covers step;
        } in
        elim (covers c within) [
          | inl inside ↦ absurd (both_ways (is_broken m.moves c (slice_index s c)) (member_sound m base member rules classes c (slice_index s c) inside) broken)
          | inr on ↦ on_from c (slice_index s c) step.move.target within on o
        ]

    -- a step that is no repair leads to a sound mode
    plain_sound : (s t : List ℕ) (k : ℕ) → (step : Step m s k t) → step.move.repair ≡ false → is_broken m.moves step.move.component step.move.target ≡ false
    plain_sound s t k step plain = false_from_ne_true (is_broken m.moves step.move.component step.move.target)
        (λ broken. both_ways step.move.repair plain (rules.only_repairs_enter step.move step.of_model broken))

    pub back_into : (s t : List ℕ) (k : ℕ) → IsState m s → Covers m base member s → (step : Step m s k t) → step.move.repair ≡ false
        → (ks end : List ℕ) → Run m t ks end → Mending m s end → member step.move.component step.move.target ≡ true
    back_into s t k state covers step plain ks end run mends =
        let c = step.move.component in
        let within : c < length m.components = subst (λ n. c < n) state.full (step_within m s t k step) in
        let there : slice_index t c ≡ step.move.target = step_target m s t k step in
        subst (λ x. member c x ≡ true) there
        (closed m base member rules classes s end state covers mends order ordered t (k ∷ []) ks (run_one m s t k step) run c within
        (subst (λ x. is_broken m.moves c x ≡ false) (sym there) (plain_sound s t k step plain)))

    pub inner_from : (s t : List ℕ) (k : ℕ) → IsState m s → Covers m base member s → (step : Step m s k t)
        → Stands m base member step.move.component step.move.target → InnerStep m base member s k t
    inner_from s t k state covers step into =
        record { step = step; open_move = step_open s t k state covers step; into = into; state = state; covers = covers }

    allowed_inner : (s t : List ℕ) (k : ℕ) → IsState m s → Covers m base member s → Allowed m s k t → InnerStep m base member s k t
    allowed_inner s t k state covers a = inner_from s t k state covers a.step (elim (cases_Bool a.step.move.repair) [
      | inl repair ↦ repair_into s t k state covers a.step repair
      | inr plain ↦ inl (elim a.back [
        | inl repair ↦ absurd (both_ways a.step.move.repair plain repair)
        | inr back ↦ back_into s t k state covers a.step plain back.0 back.1 back.2 back.3
      ])
    ])

    pub stays_covered : (s t : List ℕ) (ks : List ℕ) → IsState m s → Covers m base member s → AllowedPlan m s ks t → IsState m t × Covers m base member t
    stays_covered s t [] state covers plan = subst (λ x. IsState m x × Covers m base member x) (sym plan) (state, covers)
    stays_covered s t (k ∷ ks) state covers plan =
        let inner = allowed_inner s plan.0 k state covers plan.1 in
        stays_covered plan.0 t ks (step_state m s plan.0 k inner.step rules state) (inner_covers m base member s plan.0 k inner) plan.2

    pub reach_inside : (s : List ℕ) → IsState m s → Covers m base member s → (c x : ℕ) → is_broken m.moves c x ≡ false → Reach m s c x → member c x ≡ true
    reach_inside s state covers c x sound reach =
        let end = stays_covered s reach.1 reach.0 state covers reach.2 in
        let at_x = value_at reach.1 c x reach.3 in
        let within : c < length m.components = subst (λ n. c < n) end.0.full (slice_get_within reach.1 c x reach.3) in
        subst (λ v. member c v ≡ true) at_x
        (stands_sound m base member rules classes c (slice_index reach.1 c) (end.1 c within) (subst (λ v. is_broken m.moves c v ≡ false) (sym at_x) sound))

-- ---- the laws

module _ (m : PlantModel) (order base : List ℕ) (member : Test) (s : List ℕ) (g : Setting m order base member s) where
  abbrev rules : RepairRules m
  rules = repair_rules m g.well_formed

  abbrev ordered : IsOrder m order
  ordered = order_from m order g.ordered

  returns : (x y : List ℕ) (k : ℕ) → InnerStep m base member x k y → Returns m x y
  returns x y k inner =
      let back = comes_back m base member rules g.classes g.grounded order ordered x y k inner in
      (back.ks, back.end, back.run, back.mends)

  pub allowed : (x y : List ℕ) (k : ℕ) → InnerStep m base member x k y → Allowed m x k y
  allowed x y k inner = record { step = inner.step; back = inr (returns x y k inner) }

  pub allowed_plan : (x y : List ℕ) (ks : List ℕ) → Inner m base member x ks y → AllowedPlan m x ks y
  allowed_plan x y [] run = run
  allowed_plan x y (k ∷ ks) run = (run.0, allowed x run.0 k run.1, allowed_plan run.0 y ks run.2)

  reached : (c x : ℕ) → member c x ≡ true → Reach m s c x
  reached c x inside =
      let within : c < length m.components = member_within m base member rules g.classes c x inside in
      let want : ℕ → Option ℕ = λ d. cond (d == c) (Some x) None in
      let wanted : IsWished m base member want = λ d y h. elim (cases_Bool (d == c)) [
        | inl same ↦ subst (λ z. member z y ≡ true) (sym (eqb-true d c same))
            (subst (λ v. member c v ≡ true) (same_Some x y (sym (cond-true (d == c) (Some x) None same) ∙ h)) inside)
        | inr other ↦ absurd (none-some y (sym (cond-false (d == c) (Some x) None other) ∙ h))
      ] in
      let a : Rearranged m base member s (λ d. Among d order) want =
      achieve m base member rules g.classes order ordered.effects_first ordered.within s want g.state g.covers wanted in
      let there : slice_index a.t c ≡ x = a.stands c x (ordered.all_there c within) (cond-true (c == c) (Some x) None (eq-eqb c c refl)) in
      (a.ks, a.t, allowed_plan s a.t a.ks a.run, get_at a.t c x (subst (λ n. c < n) (sym a.state.full) within) there)

  reaches : (c x : ℕ) → is_broken m.moves c x ≡ false → Reach m s c x → member c x ≡ true
  reaches c x sound reach = reach_inside m base member rules g.classes g.grounded order ordered s g.state g.covers c x sound reach

pub class_is_reach : ClassIsReach
class_is_reach m order base member s g c x = (
  (λ inside. (member_sound m base member (repair_rules m g.well_formed) g.classes c x inside, reached m order base member s g c x inside)),
  (λ h. reaches m order base member s g c x h.0 h.1),
)

pub one_classes : OneClasses
one_classes m order base member other g k c x =
    let a = class_is_reach m order base member base g c x in
    let b = class_is_reach m order base other base k c x in
    ((λ h. b.1 (a.0 h)), (λ h. a.1 (b.0 h)))

pub returns_inside : ReturnsInside
returns_inside m order base member s g t k step plain = (
  (λ back. back_into m base member (repair_rules m g.well_formed) g.classes g.grounded order (order_from m order g.ordered) s t k g.state g.covers step plain back.0 back.1 back.2
      back.3),
  (λ into. returns m order base member s g s t k
      (inner_from m base member (repair_rules m g.well_formed) g.classes g.grounded order (order_from m order g.ordered) s t k g.state g.covers step (inl into))),
)

pub repairs_lead_in : RepairsLeadIn
repairs_lead_in m order base member s g t k step repair =
    (repair_into m base member (repair_rules m g.well_formed) g.classes g.grounded order (order_from m order g.ordered) s t k g.state g.covers step repair)

pub stays_covered_law : StaysCovered
stays_covered_law m order base member s g t ks plan =
    let end = stays_covered m base member (repair_rules m g.well_formed) g.classes g.grounded order (order_from m order g.ordered) s t ks g.state g.covers plan in
    record { well_formed = g.well_formed; ordered = g.ordered; grounded = g.grounded; classes = g.classes; state = end.0; covers = end.1 }
