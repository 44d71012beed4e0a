-- What the classes and the cells answer is good, and is what is picked; plans inside the classes; ways back.
use Rattle.std.proofs.Common.{◌≡◌, ◌<◌, ◌⊎◌, ℕ, true, false, zero, suc, List, [], ◌∷◌, length, slice_index, Contains, refl, sym, ap, subst, ◌∙◌, inl, inr}
use Rattle.std.proofs.lemmas.Bool.{cases_Bool, both_ways}
use Rattle.std.proofs.lemmas.List.Elements.{All-contains, Contains-append_right}
use Rattle.list_laws.proofs.Places.{value_at}
use Rattle.list_laws.proofs.Members.{all_from, contains_here}
use Rattle.cca_base.specs.declared.cube.Pair.{Pair}
use Rattle.cca_base.specs.declared.events.Reply.{Reply}
use Rattle.cca_base.specs.declared.events.Reply.TheVariants.{Idle, Send, Achieved, Unreachable}
use Rattle.cca_base.specs.PlantModel.{PlantModel}
use Rattle.cca_base.specs.Accepted.{CompiledModel, IsCompiled}
use Rattle.cca_base.specs.Goals.{BeginsPlan, IsFirstUnreached}
use Rattle.cca_base.specs.Model.{WellFormed, MendsAtOnce, IsMended, IsInChain, is_broken}
use Rattle.cca_base.specs.Orders.{AreInOrder, IsFirstMissing}
use Rattle.cca_base.specs.Repairs.{Mending}
use Rattle.cca_base.specs.State.{IsState, Extends}
use Rattle.cca_base.specs.Steps.{Step, AllowedPlan, Reach}
use Rattle.cca_base.specs.Choice.{PicksForGoal, IsChosenReply}
use Rattle.cca_base.specs.Plans.{Whole, IsWanted, IsBackGoal}
use Rattle.cca_base.proofs.Replies.{same_send, achieved_send, unreachable_send}
use Rattle.reach_laws.specs.declared.cell.Cell.TheVariants as cell
use Rattle.reach_laws.specs.Classes.{Test, AreInside, OpenRepairs, IsHome, IsOnWay, Covers}
use Rattle.reach_laws.specs.Laws.{Setting}
use Rattle.reach_laws.specs.Cells.{Cells, IsPolicy, Finds, FindsForGoal}
use Rattle.reach_laws.specs.Plans.{IsAnswer, IsFirstOutside, IsSoundGoal, AnswersAreChosen, WholeIsAllowed, EmptyStays, StaysOnChain, WayBack}
use Rattle.reach_laws.proofs.Facts.{RepairRules, get_at, step_other, step_state}
use Rattle.reach_laws.proofs.Order.{Among, repair_rules}
use Rattle.reach_laws.proofs.Walk.{mended_by, repairs_from, way_on, member_sound, home_member}
use Rattle.reach_laws.proofs.Sound.{Inner, HasNone, inner_covers, find_home, allowed_plan, class_is_reach}
use Rattle.reach_laws.proofs.Cells.{missing_among, found_picks}
use Rattle.reach_laws.proofs.Serial.{Done, Led, led_inner, led_end, whole_led}
use Rattle.cca_laws.proofs.GoalLaws.{one_first_missing, Held}
use Rattle.cca_laws.proofs.PlanLaws.{whole_stands}
use Rattle.reach_laws.proofs.Needed.{Landed, landed, landed_inner, picks_are_needed}

-- ---- one command at most is found

same_command : (a b c d e f : ℕ) (p q : List Pair) → cell.Step a b p c ≡ cell.Step d e q f → b ≡ e
same_command a b c d e f p q h = cc

same_cube : (a b c d e f : ℕ) (p q : List Pair) → cell.Step a b p c ≡ cell.Step d e q f → p ≡ q
same_cube a b c d e f p q h = cc

one_found : (cells : Cells) (s : List ℕ) (n j c to k l : ℕ) → Finds cells s c to k n → Finds cells s c to l j → k ≡ l
one_found cells s zero j c to k l x y = absurd x
one_found cells s (suc n) zero c to k l x y = absurd y
one_found cells s (suc n) (suc j) c to k l x y =
    let e : cell.Step x.0 x.1 x.2 x.3 ≡ cell.Step y.0 y.1 y.2 y.3 = sym x.4 ∙ y.4 in
    let command : x.1 ≡ y.1 = same_command x.0 x.1 x.3 y.0 y.1 y.3 x.2 y.2 e in
    let cube : x.2 ≡ y.2 = same_cube x.0 x.1 x.3 y.0 y.1 y.3 x.2 y.2 e in
    elim x.5 [
      | inl now ↦ elim y.5 [
        | inl too ↦ now.1 ∙ command ∙ sym too.1
        | inr next ↦ absurd (next.1.missing (All-contains (Held s) x.2 next.0 now.0 (subst (λ z. Contains z next.0) (sym cube) (missing_among s y.2 next.0 next.1))))
      ]
      | inr next ↦ elim y.5 [
        | inl now ↦ absurd (next.1.missing (All-contains (Held s) y.2 next.0 now.0 (subst (λ z. Contains z next.0) cube (missing_among s x.2 next.0 next.1))))
        | inr more ↦
            let same : next.0 ≡ more.0 = one_first_missing s y.2 next.0 more.0 (subst (λ z. IsFirstMissing s z next.0) cube next.1) more.1 in
            one_found cells s n j more.0.item more.0.value k l (subst (λ z. Finds cells s z.item z.value k n) same next.2) more.2
      ]
    ]

one_found_goal : (cells : Cells) (s : List ℕ) (goal : List Pair) (n j k l : ℕ) → FindsForGoal cells s goal k n → FindsForGoal cells s goal l j → k ≡ l
one_found_goal cells s goal n j k l x y =
    let same : x.0 ≡ y.0 = one_first_missing s goal x.0 y.0 x.1 y.1 in
    one_found cells s n j y.0.item y.0.value k l (subst (λ z. Finds cells s z.item z.value k n) same x.2) y.2

-- ---- answers

module _ (b : CompiledModel) (base : List ℕ) (member : Test) (cells : Cells) (compiled : IsCompiled b) (policy : IsPolicy b base member cells)
    (s : List ℕ) (g : Setting b.model b.order base member s) (goal : List Pair) (along : AreInOrder b.order goal) where
  begins : (each : (p : Pair) → Contains goal p → member p.item p.value ≡ true) → (k n : ℕ) → (Extends s goal → ⊥) → FindsForGoal cells s goal k n → (t : List ℕ) (ks : List ℕ)
      → Led b.model base member cells (λ d. Among d b.order) goal s ks t → BeginsPlan b.model s goal k
  begins each k n not_held found t [] led = absurd (not_held led.0)
  begins each k n not_held found t (l ∷ ks) led =
      let same : l ≡ k = one_found_goal cells s goal led.0.0 n l k led.0.1 found in
      record {
        others = ks;
        last = t;
        plan = subst (λ z. AllowedPlan b.model s (z ∷ ks) t) same
            (allowed_plan b.model b.order base member s g s t (l ∷ ks) (led_inner b.model base member cells (λ d. Among d b.order) goal s t (l ∷ ks) led));
        stands = led_end b.model base member cells (λ d. Among d b.order) goal s t (l ∷ ks) led;
      }

  picked : (each : (p : Pair) → Contains goal p → member p.item p.value ≡ true) → (k n : ℕ) → FindsForGoal cells s goal k n → PicksForGoal b s goal k
  picked each k n (p, first, found) =
      (p, first, found_picks b base member cells policy s g n p.item p.value k (each p (missing_among s goal p first)) found)

  sends : (k : ℕ) → IsAnswer member cells s goal (Send k) → IsChosenReply b s goal (Send k)
  sends k (not_held, inside, (n, found)) =
      let each : (p : Pair) → Contains goal p → member p.item p.value ≡ true = λ p among. All-contains (λ q. member q.item q.value ≡ true) goal p inside among in
      let done : Done b base member cells policy compiled.bounds s g b.order goal s = whole_led b base member cells policy compiled.bounds s g goal along each in
      let picks : PicksForGoal b s goal k = picked each k n found in
      record {
        good = (picks_are_needed b s goal k picks, begins each k n not_held found done.t done.ks done.led);
        picked = λ l e. subst (PicksForGoal b s goal) (same_send k l e) picks;
      }

  unreached : (c mode : ℕ) → IsSoundGoal b.model goal → IsFirstOutside member goal (record { item = c; value = mode }) → IsFirstUnreached b.model s goal (record { item = c; value = mode })
  unreached c mode sound h =
      let p : Pair = record { item = c; value = mode } in
      let among : Contains goal p = subst (λ l. Contains l p) (sym h.split) (Contains-append_right h.before (p ∷ h.after) p (contains_here p p h.after refl)) in
      record {
        before = h.before;
        after = h.after;
        split = h.split;
        reached = all_from (λ q. Reach b.model s q.item q.value) h.before (λ q in_before.
            ((class_is_reach b.model b.order base member s g q.item q.value).0 (All-contains (λ r. member r.item r.value ≡ true) h.before q h.inside in_before)).1);
        unreached = λ reach. both_ways (member c mode) h.outside
            ((class_is_reach b.model b.order base member s g c mode).1 (All-contains (λ r. is_broken b.model.moves r.item r.value ≡ false) goal p sound among, reach));
      }

  pub answers : IsSoundGoal b.model goal → (reply : Reply) → IsAnswer member cells s goal reply → IsChosenReply b s goal reply
  answers sound Idle h = absurd h
  answers sound Achieved h = record { good = h; picked = λ k e. absurd (achieved_send k e) }
  answers sound (Send k) h = sends k h
  answers sound (Unreachable c mode) h = record { good = unreached c mode sound h.1; picked = λ k e. absurd (unreachable_send c mode k e) }

pub answers_are_chosen : AnswersAreChosen
answers_are_chosen b base member cells compiled policy s g goal along sound reply h = answers b base member cells compiled policy s g goal along sound reply h

-- ---- plans inside the classes

-- a whole plan is one of inner steps, and moves no component whose class is empty
pub record WholeInner (b : CompiledModel) (base : List ℕ) (member : Test) (s ks last : List ℕ) : Type 0 where
  pub run : Inner b.model base member s ks last
  pub state : IsState b.model last
  pub covers : Covers b.model base member last
  pub empty : (d : ℕ) → HasNone member d → slice_index last d ≡ slice_index s d

-- after a picked command the same classes cover the state
pub next_setting : (b : CompiledModel) (base : List ℕ) (member : Test) (goal : List Pair) → AreInside member goal → (s next : List ℕ) (k : ℕ) → Setting b.model b.order base member s
    → PicksForGoal b s goal k → Step b.model s k next → Setting b.model b.order base member next
next_setting b base member goal inside s next k g (p, first, picks) step =
    let inside_p : member p.item p.value ≡ true = All-contains (λ q. member q.item q.value ≡ true) goal p inside (missing_among s goal p first) in
    let made = landed_inner b.model b.order base member s next g k (landed b base member s g p.item p.value k picks inside_p) step in
    record {
      well_formed = g.well_formed;
      ordered = g.ordered;
      grounded = g.grounded;
      classes = g.classes;
      state = step_state b.model s next k made.0.step (repair_rules b.model g.well_formed) g.state;
      covers = inner_covers b.model base member s next k made.0;
    }

whole_inner : (b : CompiledModel) (base : List ℕ) (member : Test) (goal : List Pair) → AreInside member goal → (s ks last : List ℕ) → Setting b.model b.order base member s
    → Whole b goal s ks last → WholeInner b base member s ks last
whole_inner b base member goal inside s [] last g whole = record {
  run = whole.1;
  state = subst (IsState b.model) (sym whole.1) g.state;
  covers = subst (Covers b.model base member) (sym whole.1) g.covers;
  empty = λ d none. ap (λ x. slice_index x d) whole.1;
}
whole_inner b base member goal inside s (k ∷ ks) last g whole =
    let p : Pair = whole.1.0 in
    let next : List ℕ = whole.2 in
    let step : Step b.model s k next = whole.3 in
    let inside_p : member p.item p.value ≡ true = All-contains (λ q. member q.item q.value ≡ true) goal p inside (missing_among s goal p whole.1.1) in
    let h : Landed b.model base member s k = landed b base member s g p.item p.value k whole.1.2 inside_p in
    let made = landed_inner b.model b.order base member s next g k h step in
    let g_next : Setting b.model b.order base member next = next_setting b base member goal inside s next k g whole.1 step in
    let rest : WholeInner b base member next ks last = whole_inner b base member goal inside next ks last g_next whole.4 in
    record {
      run = (next, made.0, rest.run);
      state = rest.state;
      covers = rest.covers;
      empty = λ d none. rest.empty d none
          ∙ step_other b.model s next k step d (λ e. none h.to (subst (λ c. member c h.to ≡ true) (sym e) made.1));
    }

pub whole_is_allowed : WholeIsAllowed
whole_is_allowed b base member s g goal ks last inside whole =
    let made : WholeInner b base member s ks last = whole_inner b base member goal inside s ks last g whole in (
      allowed_plan b.model b.order base member s g s last ks made.run,
      whole_stands b goal ks s last whole,
      record { well_formed = g.well_formed; ordered = g.ordered; grounded = g.grounded; classes = g.classes; state = made.state; covers = made.covers },
    )

pub empty_stays : EmptyStays
empty_stays b base member s g goal ks last inside whole d none =
    let made : WholeInner b base member s ks last = whole_inner b base member goal inside s ks last g whole in made.empty d none

-- ---- ways back

-- where no repair leads to a broken mode, a broken mode on the way is the base mode
pub on_way_base : (m : PlantModel) (base : List ℕ) (member : Test) → WellFormed m → MendsAtOnce m.moves → (c a x n : ℕ) → is_broken m.moves c x ≡ true → OpenRepairs m member c a x n → x ≡ a
on_way_base m base member w at_once c a x zero broken e = sym e
on_way_base m base member w at_once c a x (suc n) broken p =
    let rules = repair_rules m w in
    let sound : is_broken m.moves c p.0 ≡ false = at_once c a p.0 (mended_by m member rules c a p.0 p.1 p.2) in
    absurd (both_ways (is_broken m.moves c x) (later c p.0 x n sound p.3) broken)
  where
    later : (c a x n : ℕ) → is_broken m.moves c a ≡ false → OpenRepairs m member c a x n → is_broken m.moves c x ≡ false
    later c a x zero sound e = subst (λ y. is_broken m.moves c y ≡ false) e sound
    later c a x (suc n) sound p = absurd (both_ways (is_broken m.moves c a) sound p.1)

module _ (b : CompiledModel) (base : List ℕ) (member : Test) (from s : List ℕ) (g : Setting b.model b.order base member s)
    (state : IsState b.model from) (covers : Covers b.model base member from) (stays : StaysOnChain b.model member from s) (goal : List Pair) (back : IsBackGoal b s goal) where
  abbrev rules : RepairRules b.model
  rules = repair_rules b.model g.well_formed

  back_inside : AreInside member goal
  back_inside = all_from (λ p. member p.item p.value ≡ true) goal (λ p among. elim ((back.each p).0 among) [
    | inl held ↦ (class_is_reach b.model b.order base member s g p.item p.value).1 (held.1, ([], s, refl, held.0))
    | inr mended ↦ (class_is_reach b.model b.order base member s g p.item p.value).1 (mended.2.sound, mended.3)
  ])

  wanted_stands : (last : List ℕ) → Extends last goal → (p : Pair) → IsWanted b.model s p → slice_index last p.item ≡ p.value
  wanted_stands last stands p wanted = value_at last p.item p.value (All-contains (Held last) goal p stands ((back.each p).1 wanted))

  mends_broken : (ks last : List ℕ) → Extends last goal → WholeInner b base member from ks last → (c : ℕ) → c < length b.model.components → is_broken b.model.moves c (slice_index s c) ≡ true
      → (on : IsOnWay b.model base member c (slice_index s c)) → ((a : ℕ) × IsHome b.model base member c a) ⊎ HasNone member c
      → IsInChain b.model.moves c (slice_index s c) (slice_index last c)
  mends_broken ks last stands made c within broken on (inl found) =
      let way = way_on b.model member rules c (slice_index base c) (slice_index s c) found.0 on.count found.1.count on.way found.1.way found.1.sound in
      let chain = repairs_from b.model member rules c (slice_index s c) found.0 way.0 way.1 in
      let mended : IsMended b.model.moves c (slice_index s c) found.0 = record { broken = broken; sound = found.1.sound; count = way.0; chain = chain } in
      let reach = ((class_is_reach b.model b.order base member s g c found.0).0 (home_member b.model base member rules g.classes c found.0 found.1)).1 in
      let there : slice_index last c ≡ found.0 = wanted_stands last stands (record { item = c; value = found.0 })
      (inr (slice_index s c, get_at s c (subst (λ n. c < n) (sym g.state.full) within), mended, reach)) in
      subst (IsInChain b.model.moves c (slice_index s c)) (sym there) (way.0, chain)
  mends_broken ks last stands made c within broken on (inr none) =
      subst (IsInChain b.model.moves c (slice_index s c)) (sym (made.empty c none)) (stays c within broken none)

  back_mends : (ks last : List ℕ) → Whole b goal from ks last → Mending b.model s last
  back_mends ks last whole =
      let g_from : Setting b.model b.order base member from = record { well_formed = g.well_formed; ordered = g.ordered; grounded = g.grounded; classes = g.classes; state = state; covers = covers } in
      let made : WholeInner b base member from ks last = whole_inner b base member goal back_inside from ks last g_from whole in
      let stands : Extends last goal = whole_stands b goal ks from last whole in
      record {
        full = made.state.full ∙ sym g.state.full;
        each = λ c lt.
            let within : c < length b.model.components = subst (λ n. c < n) g.state.full lt in
            elim (cases_Bool (is_broken b.model.moves c (slice_index s c))) [
              | inr sound ↦ (0, sym (wanted_stands last stands (record { item = c; value = slice_index s c }) (inl (get_at s c lt, sound))))
              | inl broken ↦ elim (g.covers c within) [
                | inl inside ↦ absurd (both_ways (is_broken b.model.moves c (slice_index s c)) (member_sound b.model base member rules g.classes c (slice_index s c) inside) broken)
                | inr on ↦ mends_broken ks last stands made c within broken on (find_home b.model base member rules g.classes g.grounded c)
              ]
            ];
      }

pub way_back : WayBack
way_back b base member from s g state covers stays goal back =
    (back_inside b base member from s g state covers stays goal back, back_mends b base member from s g state covers stays goal back)
