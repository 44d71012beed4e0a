-- The closed walk.
use Rattle.std.proofs.Common.{◌≡◌, ◌<◌, ◌+◌, ℕ, true, false, zero, suc, List, [], ◌∷◌, ◌++◌, length, slice_get, slice_index, Some, refl, sym, ap, subst, ◌∙◌, inl, inr}
use Rattle.std.proofs.lemmas.Bool.{cases_eq, cases_Bool, both_ways, false_from_ne_true}
use Rattle.std.proofs.lemmas.List.Elements.{All-contains}
use Rattle.list_laws.proofs.Places.{value_at}
use Rattle.list_laws.proofs.Members.{all_from}
use Rattle.cca_base.specs.PlantModel.{PlantModel}
use Rattle.cca_base.specs.Model.{IsNext, RepairChain, is_broken}
use Rattle.cca_base.specs.Implicants.{Needs}
use Rattle.cca_base.specs.State.{IsState}
use Rattle.cca_base.specs.Repairs.{Mending}
use Rattle.cca_base.specs.Steps.{Step, Run}
use Rattle.reach_laws.specs.Classes.{Test, OpenMove, OpenWalk, Joined, OpenRepairs, IsHome, InClass, AreClasses, IsOnWay, Stands, Covers}
use Rattle.reach_laws.specs.Laws.{Ready, ClosedWalk}
use Rattle.reach_laws.proofs.Facts.{RepairRules, run_one, step_source, step_target, step_other, run_state, join, stay, go_on, repairs_join}
use Rattle.reach_laws.proofs.Order.{repair_rules, Among, AreEffectsFirst, IsOrder, order_from}
use Rattle.reach_laws.proofs.Ready.{steps_are_ready}
use Rattle.cca_base.proofs.NextModes.{next_broken, repair_of}
use Rattle.cca_laws.proofs.PlanLaws.{runs_join}

-- ---- repairs

module _ (m : PlantModel) (member : Test) (rules : RepairRules m) where
  -- an open move that leaves a broken mode is its repair
  pub mended_by : (c a b : ℕ) → is_broken m.moves c a ≡ true → OpenMove m member c a b → IsNext m.moves c a b
  mended_by c a b broken o = record {
    repair = o.move;
    of_model = o.of_model;
    mends = repair_of c a o.move
        (rules.only_repairs_leave o.move o.of_model
        (subst (λ d. is_broken m.moves d o.move.source ≡ true) (sym o.own) (subst (λ x. is_broken m.moves c x ≡ true) (sym o.source) broken)))
        o.own o.source;
    target = o.target;
  }

  pub repairs_from : (c a b n : ℕ) → OpenRepairs m member c a b n → RepairChain m.moves c a b n
  repairs_from c a b zero e = e
  repairs_from c a b (suc n) p = (p.0, mended_by c a p.0 p.1 p.2, repairs_from c p.0 b n p.3)

  -- no open move leads from a sound mode to a broken one
  sound_move : (c a b : ℕ) → OpenMove m member c a b → is_broken m.moves c a ≡ false → is_broken m.moves c b ≡ false
  sound_move c a b o sound = false_from_ne_true (is_broken m.moves c b) (λ broken.
      both_ways (is_broken m.moves c a) sound
      (subst (λ x. is_broken m.moves c x ≡ true) o.source (subst (λ d. is_broken m.moves d o.move.source ≡ true) o.own
      (rules.repairs_leave o.move o.of_model (rules.only_repairs_enter o.move o.of_model
      (subst (λ d. is_broken m.moves d o.move.target ≡ true) (sym o.own) (subst (λ x. is_broken m.moves c x ≡ true) (sym o.target) broken)))))))

  sound_walk : (c a b n : ℕ) → OpenWalk m member c a b n → is_broken m.moves c a ≡ false → is_broken m.moves c b ≡ false
  sound_walk c a b zero e sound = subst (λ x. is_broken m.moves c x ≡ false) e sound
  sound_walk c a b (suc n) p sound = sound_walk c p.0 b n p.2 (sound_move c a p.0 p.1 sound)

  -- repairs lead from a sound mode only to itself
  sound_repairs : (c a b n : ℕ) → RepairChain m.moves c a b n → is_broken m.moves c a ≡ false → a ≡ b
  sound_repairs c a b zero e sound = e
  sound_repairs c a b (suc n) p sound = absurd (both_ways (is_broken m.moves c a) sound (next_broken m.moves c a p.0 p.1))

  -- repairs lead from a mode to one sound mode at most
  pub one_end : (c a b d n k : ℕ) → RepairChain m.moves c a b n → RepairChain m.moves c a d k → is_broken m.moves c b ≡ false → is_broken m.moves c d ≡ false → b ≡ d
  one_end c a b d zero k e q sound_b sound_d = sym e ∙ sound_repairs c a d k q (subst (λ x. is_broken m.moves c x ≡ false) (sym e) sound_b)
  one_end c a b d (suc n) zero p e sound_b sound_d = sym (sound_repairs c a b (suc n) p (subst (λ x. is_broken m.moves c x ≡ false) (sym e) sound_d)) ∙ e
  one_end c a b d (suc n) (suc k) p q sound_b sound_d =
      let same : q.0 ≡ p.0 = rules.one_target c a q.0 p.0 q.1 p.1 in
      one_end c p.0 b d n k p.2 (subst (λ x. RepairChain m.moves c x d k) same q.2) sound_b sound_d

  -- from a mode on the way along open repairs, the same way leads on to its sound end
  pub way_on : (c a x b n k : ℕ) → OpenRepairs m member c a x n → OpenRepairs m member c a b k → is_broken m.moves c b ≡ false
      → (j : ℕ) × OpenRepairs m member c x b j
  way_on c a x b zero k e q sound = (k, subst (λ y. OpenRepairs m member c y b k) e q)
  way_on c a x b (suc n) zero p e sound = absurd (both_ways (is_broken m.moves c a) (subst (λ y. is_broken m.moves c y ≡ false) (sym e) sound) p.1)
  way_on c a x b (suc n) (suc k) p q sound =
      let same : q.0 ≡ p.0 = rules.one_target c a q.0 p.0 (mended_by c a q.0 q.1 q.2) (mended_by c a p.0 p.1 p.2) in
      way_on c p.0 x b n k p.3 (subst (λ y. OpenRepairs m member c y b k) same q.3) sound

  -- a walk to a sound mode begins with open repairs to the first sound mode
  pub record FirstSound (c a b : ℕ) : Type 0 where
    pub home : ℕ
    pub sound : is_broken m.moves c home ≡ false
    pub count : ℕ
    pub way : OpenRepairs m member c a home count
    pub rest : Joined m member c home b

  first_sound : (c a b n : ℕ) → OpenWalk m member c a b n → is_broken m.moves c b ≡ false → FirstSound c a b
  first_sound c a b zero e sound = record {
    home = a;
    sound = subst (λ x. is_broken m.moves c x ≡ false) (sym e) sound;
    count = 0;
    way = refl;
    rest = stay m member c a b e;
  }
  first_sound c a b (suc n) p sound = elim (cases_Bool (is_broken m.moves c a)) [
    | inr whole ↦ record { home = a; sound = whole; count = 0; way = refl; rest = record { count = suc n; walk = p } }
    | inl broken ↦
        let later : FirstSound c p.0 b = first_sound c p.0 b n p.2 sound in
        record { home = later.home; sound = later.sound; count = suc later.count; way = (p.0, broken, p.1, later.way); rest = later.rest }
  ]

-- ---- what classes are

module _ (m : PlantModel) (base : List ℕ) (member : Test) (rules : RepairRules m) (classes : AreClasses m base member) where
  pub one_home : (c a b : ℕ) → IsHome m base member c a → IsHome m base member c b → a ≡ b
  one_home c a b h k =
      one_end m member rules c (slice_index base c) a b h.count k.count
      (repairs_from m member rules c (slice_index base c) a h.count h.way)
      (repairs_from m member rules c (slice_index base c) b k.count k.way) h.sound k.sound

  in_class : (c a x : ℕ) → IsHome m base member c a → Joined m member c a x → Joined m member c x a → member c x ≡ true
  in_class c a x is_home to from = (classes.each c x).1 (record { home = a; is_home = is_home; to = to; from = from })

  pub home_member : (c a : ℕ) → IsHome m base member c a → member c a ≡ true
  home_member c a is_home = in_class c a a is_home (stay m member c a a refl) (stay m member c a a refl)

  -- what is joined both ways with a mode of the class is in the class
  pub near_member : (c x y : ℕ) → member c x ≡ true → Joined m member c x y → Joined m member c y x → member c y ≡ true
  near_member c x y inside to from =
      let k : InClass m base member c x = (classes.each c x).0 inside in
      in_class c k.home y k.is_home (join m member c k.home x y k.to to) (join m member c y x k.home from k.from)

  -- a class holds no broken mode
  pub member_sound : (c x : ℕ) → member c x ≡ true → is_broken m.moves c x ≡ false
  member_sound c x inside =
      let k : InClass m base member c x = (classes.each c x).0 inside in
      sound_walk m member rules c k.home x k.to.count k.to.walk k.is_home.sound

  pub member_within : (c x : ℕ) → member c x ≡ true → c < length m.components
  member_within c x inside = let k : InClass m base member c x = (classes.each c x).0 inside in k.is_home.within

  -- a sound mode in which a covered component stands is in its class
  pub stands_sound : (c x : ℕ) → Stands m base member c x → is_broken m.moves c x ≡ false → member c x ≡ true
  stands_sound c x (inl inside) sound = inside
  stands_sound c x (inr way) sound = absurd (both_ways (is_broken m.moves c x) sound way.broken)

  -- the end of the open repairs is home, from each mode on the way
  pub home_from : (c x h n : ℕ) → c < length m.components → IsOnWay m base member c x → OpenRepairs m member c x h n → is_broken m.moves c h ≡ false → IsHome m base member c h
  home_from c x h n within on way sound = record {
    within = within;
    sound = sound;
    count = on.count + n;
    way = repairs_join m member c (slice_index base c) x h on.count n on.way way;
  }

  -- ---- the closed walk

  module _ (s t : List ℕ) (state : IsState m s) (covers : Covers m base member s) (mends : Mending m s t) where
    -- a run from s to t passes this state
    abbrev OnRun : List ℕ → Type 0
    OnRun mid = (ks ls : List ℕ) × Run m s ks mid × Run m mid ls t

    abbrev Claim : ℕ → Type 0
    Claim c = (mid : List ℕ) → OnRun mid → is_broken m.moves c (slice_index mid c) ≡ false → member c (slice_index mid c) ≡ true

    -- a step of c on the way is an open move
    open_step : (c : ℕ) → ((u : ℕ) → Needs m c u → Claim u) → (x y : List ℕ) (k : ℕ) (step : Step m x k y) → OnRun x → step.move.component ≡ c
        → OpenMove m member c (slice_index x c) (slice_index y c)
    open_step c below x y k step way own =
        let r : Ready m x step.move = steps_are_ready m x y k (run_state m rules s x way.0 state way.2) step in
        record {
          move = step.move;
          of_model = step.of_model;
          own = own;
          source = sym (subst (λ d. slice_index x d ≡ step.move.source) own (step_source m x y k step));
          target = sym (subst (λ d. slice_index y d ≡ step.move.target) own (step_target m x y k step));
          open_move = record {
            cube = r.cube;
            prime = r.prime;
            inside = all_from (λ p. member p.item p.value ≡ true) r.cube (λ p among.
                let stands = All-contains (λ q. (slice_get x q.item ≡ Some q.value) × (is_broken m.moves q.item q.value ≡ false)) r.cube p r.stands among in
                let here = value_at x p.item p.value stands.0 in
                let need : Needs m c p.item = record { move = step.move; of_model = step.of_model; own = own; cube = r.cube; prime = r.prime; mode = p.value; occurs = among } in
                subst (λ v. member p.item v ≡ true) here (below p.item need x way (subst (λ v. is_broken m.moves p.item v ≡ false) (sym here) stands.1)));
          };
        }

    -- the steps between two states on the way join the modes of c there
    walk : (c : ℕ) → ((u : ℕ) → Needs m c u → Claim u) → (ks : List ℕ) (x y : List ℕ) → Run m x ks y
        → (before after : List ℕ) → Run m s before x → Run m y after t → Joined m member c (slice_index x c) (slice_index y c)
    walk c below [] x y run before after first last = stay m member c (slice_index x c) (slice_index y c) (ap (λ z. slice_index z c) (sym run))
    walk c below (k ∷ ks) x y run before after first last =
        let mid = run.0 in
        let step = run.1 in
        let rest : Joined m member c (slice_index mid c) (slice_index y c) =
        walk c below ks mid y run.2 (before ++ k ∷ []) after (runs_join m s x mid before (k ∷ []) first (run_one m x mid k step)) last in
        let way : OnRun x = (before, (k ∷ ks) ++ after, first, runs_join m x y t (k ∷ ks) after run last) in
        elim (cases_eq c step.move.component) [
          | inl own ↦ go_on m member c (slice_index x c) (slice_index mid c) (slice_index y c) (open_step c below x mid k step way (sym own)) rest
          | inr other ↦ subst (λ v. Joined m member c v (slice_index y c)) (step_other m x mid k step c other) rest
        ]

    -- between where c stands in s and a mending of it, the sound modes are in the class
    between : (c x : ℕ) → c < length m.components → is_broken m.moves c x ≡ false
        → Joined m member c (slice_index s c) x → Joined m member c x (slice_index t c) → member c x ≡ true
    between c x within sound to from =
        let repaired = mends.each c (subst (λ n. c < n) (sym state.full) within) in
        let sound_t : is_broken m.moves c (slice_index t c) ≡ false = sound_walk m member rules c x (slice_index t c) from.count from.walk sound in
        elim (covers c within) [
          | inl inside ↦
              let back : slice_index s c ≡ slice_index t c =
              sound_repairs m member rules c (slice_index s c) (slice_index t c) repaired.0 repaired.1 (member_sound c (slice_index s c) inside) in
              near_member c (slice_index s c) x inside to (subst (λ v. Joined m member c x v) (sym back) from)
          | inr on ↦
              let f : FirstSound m member rules c (slice_index s c) x = first_sound m member rules c (slice_index s c) x to.count to.walk sound in
              let back : slice_index t c ≡ f.home = one_end m member rules c (slice_index s c) (slice_index t c) f.home repaired.0 f.count
              repaired.1 (repairs_from m member rules c (slice_index s c) f.home f.count f.way) sound_t f.sound in
              in_class c f.home x (home_from c (slice_index s c) f.home f.count within on f.way f.sound) f.rest (subst (λ v. Joined m member c x v) back from)
        ]

    -- one component, after those that it needs
    here : (c : ℕ) → c < length m.components → ((u : ℕ) → Needs m c u → Claim u) → Claim c
    here c within below mid way sound =
        between c (slice_index mid c) within sound (walk c below way.0 s mid way.2 [] way.1 refl way.3) (walk c below way.1 mid t way.3 way.0 [] way.2 refl)

    along : (order : List ℕ) → ((c : ℕ) → Among c order → c < length m.components) → AreEffectsFirst m order → (c : ℕ) → Among c order → Claim c
    along [] all first c among = absurd among
    along (d ∷ rest) all first c among = elim among [
      | inl e ↦ subst Claim (sym e) (here d (all d (inl refl)) (λ u need. along rest (λ v there. all v (inr there)) first.2 u (first.0 u need)))
      | inr there ↦ along rest (λ v w. all v (inr w)) first.2 c there
    ]

    pub closed : (order : List ℕ) → IsOrder m order → (mid : List ℕ) (ks ls : List ℕ) → Run m s ks mid → Run m mid ls t → (c : ℕ) → c < length m.components → is_broken m.moves c (slice_index mid c) ≡ false → member c (slice_index mid c) ≡ true
    closed order ordered mid ks ls run rest c within sound = along order ordered.within ordered.effects_first c (ordered.all_there c within) mid (ks, ls, run, rest) sound

pub closed_walk : ClosedWalk
closed_walk m order base member s g mid t ks ls run rest mending c within sound =
    closed m base member (repair_rules m g.well_formed) g.classes s t g.state g.covers mending order (order_from m order g.ordered) mid ks ls run rest c within sound
