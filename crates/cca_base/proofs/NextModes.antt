-- What repairs lead to: next modes, and mended modes.
use Rattle.std.proofs.Common.{◌≡◌, ◌==◌, ◌&&◌, ◌<◌, ◌≤◌, ◌+◌, ℕ, zero, suc, true, false, eqb, List, [], ◌∷◌, length, slice_index, All, IsTrue, Contains, refl, sym, ap, subst, ◌∙◌, inl, inr, arith}
use Rattle.std.specs.List.{AllByRecursion, IsDistinct, list_any}
use Rattle.std.proofs.lemmas.Bool.{eq-eqb, eqb-true, ne_eqb, both_ways, and_parts, and_from}
use Rattle.std.proofs.lemmas.Map.Steps.{length-le_from_distinct_below}
use Rattle.std.proofs.lemmas.List.{get_or-map}
use Rattle.std.proofs.lemmas.List.Elements.{All-contains, All-weaker}
use Rattle.std.proofs.lemmas.List.Folds.{list_any-from_Any, Any-from_list_any}
use Rattle.list_laws.proofs.Members.{contains_cases, contains_here, contains_there, contains_none}
use Rattle.cca_base.specs.declared.model.Move.{Move}
use Rattle.cca_base.specs.PlantModel.{PlantModel}
use Rattle.cca_base.specs.Model.{WellFormed, IsMove, HasMode, mode_counts, is_broken, is_repair_of, IsNext, IsMended, IsInChain, RepairChain, RepairsFit, MendsAtOnce}
use Rattle.cca_base.specs.declared.model.Component.{Component}
use Rattle.cca_base.specs.declared.limits.TheConstants.{MAX_CHOICES}
use Rattle.cca_base.proofs.Within.{mode_within}

pub repair_of : (c mode : ℕ) (move : Move) → move.repair ≡ true → move.component ≡ c → move.source ≡ mode → is_repair_of c mode move ≡ true
repair_of c mode move repair own source =
    and_from move.repair (move.component == c && move.source == mode) repair
    (and_from (move.component == c) (move.source == mode) (eq-eqb move.component c own) (eq-eqb move.source mode source))

pub repair_parts : (c mode : ℕ) (move : Move) → is_repair_of c mode move ≡ true → (move.repair ≡ true) × (move.component ≡ c) × (move.source ≡ mode)
repair_parts c mode move h =
    let first = and_parts move.repair (move.component == c && move.source == mode) h in
    let rest = and_parts (move.component == c) (move.source == mode) first.1 in
    (first.0, eqb-true move.component c rest.0, eqb-true move.source mode rest.1)

-- a mode that has a next one is broken
pub next_broken : (moves : List Move) (c a b : ℕ) → IsNext moves c a b → is_broken moves c a ≡ true
next_broken moves c a b h =
    let among : Contains moves h.repair = h.of_model in
    list_any-from_Any (is_repair_of c a) moves (among.0, h.repair, among.1, among.2, h.mends)

-- ---- chains

pub chain_join : (moves : List Move) (c a b d n k : ℕ) → RepairChain moves c a b n → RepairChain moves c b d k → RepairChain moves c a d (n + k)
chain_join moves c a b d zero k e q =
    let same : k ≡ zero + k = omega arith in subst (RepairChain moves c a d) same (subst (λ x. RepairChain moves c x d k) (sym e) q)
chain_join moves c a b d (suc n) k p q =
    let same : suc (n + k) ≡ suc n + k = omega arith in
    subst (RepairChain moves c a d) same (p.0, p.1, chain_join moves c p.0 b d n k p.2 q)

pub chain_one : (moves : List Move) (c a b : ℕ) → IsNext moves c a b → RepairChain moves c a b 1
chain_one moves c a b h = (b, h, refl)

-- the chain of a mode that is not broken is that mode alone
pub sound_chain : (moves : List Move) (c a b n : ℕ) → RepairChain moves c a b n → is_broken moves c a ≡ false → a ≡ b
sound_chain moves c a b zero e sound = e
sound_chain moves c a b (suc n) p sound = absurd (both_ways (is_broken moves c a) sound (next_broken moves c a p.0 p.1))

pub of_chain_sound : (moves : List Move) (c a b : ℕ) → IsInChain moves c a b → is_broken moves c a ≡ false → b ≡ a
of_chain_sound moves c a b h sound = sym (sound_chain moves c a b h.0 h.1 sound)

module _ (version : ℕ) (moves : List Move) (fit : RepairsFit version moves) where
  -- repairs lead from a mode to one mode at most that is not broken
  pub one_end : (c a b d n k : ℕ) → RepairChain moves c a b n → RepairChain moves c a d k → is_broken moves c b ≡ false → is_broken moves c d ≡ false → b ≡ d
  one_end c a b d zero k e q sound_b sound_d = sym e ∙ sound_chain moves c a d k q (subst (λ x. is_broken moves c x ≡ false) (sym e) sound_b)
  one_end c a b d (suc n) zero p e sound_b sound_d = sym (sound_chain moves c a b (suc n) p (subst (λ x. is_broken moves c x ≡ false) (sym e) sound_d)) ∙ e
  one_end c a b d (suc n) (suc k) p q sound_b sound_d =
      let same : q.0 ≡ p.0 = fit.one_target c a q.0 p.0 q.1 p.1 in
      one_end c p.0 b d n k p.2 (subst (λ x. RepairChain moves c x d k) same q.2) sound_b sound_d

  -- a mode has one mended mode
  pub one_mended : (c mode a b : ℕ) → IsMended moves c mode a → IsMended moves c mode b → a ≡ b
  one_mended c mode a b h k = one_end c mode a b h.count k.count h.chain k.chain h.sound k.sound

  -- where the next mode is not broken, it is the mended mode
  pub mended_of_next : (c a b : ℕ) → IsNext moves c a b → is_broken moves c b ≡ false → IsMended moves c a b
  mended_of_next c a b h sound = record { broken = next_broken moves c a b h; sound = sound; count = 1; chain = chain_one moves c a b h }

  -- what stands in a chain after the mode itself stands in the chain of the next mode
  pub chain_after : (c a next b : ℕ) → IsNext moves c a next → (a ≡ b → ⊥) → IsInChain moves c a b → IsInChain moves c next b
  chain_after c a next b h other (zero, e) = absurd (other e)
  chain_after c a next b h other (suc n, p) = (n, subst (λ x. RepairChain moves c x b n) (fit.one_target c a p.0 next p.1 h) p.2)

-- where no next mode is broken, the mended mode is the next one
pub next_of_mended : (moves : List Move) → MendsAtOnce moves → (c a b : ℕ) → IsMended moves c a b → IsNext moves c a b
next_of_mended moves at_once c a b h = along h.count h.chain
  where
    along : (n : ℕ) → RepairChain moves c a b n → IsNext moves c a b
    along zero e = absurd (both_ways (is_broken moves c b) h.sound (subst (λ x. is_broken moves c x ≡ true) e h.broken))
    along (suc n) p = subst (IsNext moves c a) (sound_chain moves c p.0 b n p.2 (at_once c a p.0 p.1)) p.1

-- where nothing leads into a broken mode, the rules of both versions hold
pub at_once_fits : (version : ℕ) (moves : List Move) → ((c mode a b : ℕ) → IsNext moves c mode a → IsNext moves c mode b → a ≡ b)
    → All (λ move. is_broken moves move.component move.target ≡ false) moves
    → All (λ move. IsTrue (is_broken moves move.component move.source) → IsTrue move.repair) moves → RepairsFit version moves
at_once_fits version moves one none_into leave =
    let at_once : MendsAtOnce moves = λ c a b r.
    let own : r.repair.component ≡ c = (repair_parts c a r.repair r.mends).1 in
    subst (λ d. is_broken moves d b ≡ false) own (subst (λ x. is_broken moves r.repair.component x ≡ false) r.target
    (All-contains (λ x. is_broken moves x.component x.target ≡ false) moves r.repair none_into r.of_model)) in
    record {
      one_target = one;
      no_cycle = λ c mode n p.
          let sound = at_once c mode p.0 p.1 in
          both_ways (is_broken moves c mode) (subst (λ x. is_broken moves c x ≡ false) (sound_chain moves c p.0 mode n p.2 sound) sound) (next_broken moves c mode p.0 p.1);
      at_once = λ _. at_once;
      only_repairs_enter = All-weaker (λ move. is_broken moves move.component move.target ≡ false) (λ move. IsTrue (is_broken moves move.component move.target) → IsTrue move.repair)
          (λ move none some. absurd (both_ways (is_broken moves move.component move.target) none some)) moves none_into;
      only_repairs_leave = leave;
    }

-- ---- how long chains are

pub by_recursion : (P : ℕ → Type 0) (xs : List ℕ) → ((x : ℕ) → Contains xs x → P x) → AllByRecursion P xs
by_recursion P [] h = tt
by_recursion P (x ∷ xs) h = (h x (contains_here x x xs refl), by_recursion P xs (λ y among. h y (contains_there x y xs among)))

any_contains : (q : ℕ) (xs : List ℕ) → list_any (eqb q) xs ≡ true → Contains xs q
any_contains q xs h =
    let found = Any-from_list_any (eqb q) xs h in
    let same : q ≡ found.1 = eqb-true q found.1 found.4 in
    subst (Contains xs) (sym same) (found.0, found.2, found.3)

-- different numbers below n are at most n
pub few_below : (n : ℕ) (xs : List ℕ) → IsDistinct eqb xs → ((x : ℕ) → Contains xs x → x < n) → length xs ≤ n
few_below n xs distinct below = length-le_from_distinct_below xs n distinct (λ q h. below q (any_contains q xs h))

-- steps that meet no place twice are fewer than the places: at no place can it be two numbers of steps to the end
module _ (Ahead : ℕ → ℕ → Type 0) (next : (n x : ℕ) → Ahead (suc n) x → (y : ℕ) × Ahead n y) (once : (n k x : ℕ) → Ahead n x → Ahead k x → k < n → ⊥) where
  record Places (n : ℕ) : Type 0 where
    places : List ℕ
    long : length places ≡ suc n
    distinct : IsDistinct eqb places
    each : (x : ℕ) → Contains places x → (k : ℕ) × (k ≤ n) × Ahead k x

  places : (n x : ℕ) → Ahead n x → Places n
  unfolding IsDistinct
  places zero x h = record {
    places = x ∷ [];
    long = refl;
    distinct = (tt, tt);
    each = λ y among. elim (contains_cases x y [] among) [
      | inl same ↦ (0, omega arith, subst (Ahead 0) same h)
      | inr none ↦ absurd (contains_none y none)
    ];
  }
  places (suc n) x h =
      let after = next n x h in
      let later : Places n = places n after.0 after.1 in
      record {
        places = x ∷ later.places;
        long = ap suc later.long;
        distinct = (
          by_recursion (λ y. eqb x y ≡ false) later.places (λ y among. ne_eqb x y (λ same.
              let there = later.each y among in once (suc n) there.0 x h (subst (Ahead there.0) (sym same) there.2) (omega (arith, there.1)))),
          later.distinct,
        );
        each = λ y among. elim (contains_cases x y later.places among) [
          | inl same ↦ (suc n, omega arith, subst (Ahead (suc n)) same h)
          | inr there ↦ let old = later.each y there in (old.0, omega (arith, old.1), old.2)
        ];
      }

  pub few_steps : (count n x : ℕ) → ((k y : ℕ) → Ahead k y → y < count) → Ahead n x → n < count
  few_steps count n x below h =
      let all : Places n = places n x h in
      let few : length all.places ≤ count = few_below count all.places all.distinct (λ y among. let there = all.each y among in below there.0 y there.2) in
      omega (arith, few, all.long)

pub few_modes : (m : PlantModel) → WellFormed m → (c : ℕ) → c < length m.components → slice_index (mode_counts m) c ≤ MAX_CHOICES
few_modes m well c within =
    let none : Component = record { name = []; modes = []; start = 0 } in
    let count = get_or-map (λ (x : Component). length x.modes) m.components c none 0 within in
    omega (arith, count, (well.components c none within).modes.few)

module _ (m : PlantModel) (well : WellFormed m) (c : ℕ) where
  next_mode : (a b : ℕ) → IsNext m.moves c a b → HasMode m c a × HasMode m c b
  next_mode a b h =
      let parts = repair_parts c a h.repair h.mends in
      let good : IsMove m h.repair = All-contains (IsMove m) m.moves h.repair well.moves h.of_model in (
        subst (λ d. HasMode m d a) parts.1 (subst (HasMode m h.repair.component) parts.2 good.source),
        subst (λ d. HasMode m d b) parts.1 (subst (HasMode m h.repair.component) h.target good.target),
      )

  -- a mode has one number of repairs ahead, since its chain meets it once
  chain_once : (b n k x : ℕ) → RepairChain m.moves c x b n → RepairChain m.moves c x b k → k < n → ⊥
  chain_once b zero k x p q less = absurd (omega (arith, less))
  chain_once b (suc n) zero x p e less = well.repairs.no_cycle c x n (subst (λ y. RepairChain m.moves c x y (suc n)) (sym e) p)
  chain_once b (suc n) (suc k) x p q less =
      let same : q.0 ≡ p.0 = well.repairs.one_target c x q.0 p.0 q.1 p.1 in
      chain_once b n k p.0 p.2 (subst (λ y. RepairChain m.moves c y b k) same q.2) (omega (arith, less))

  -- fewer repairs than the component has modes
  pub chain_few : (a b n : ℕ) → RepairChain m.moves c a b n → HasMode m c a → n < slice_index (mode_counts m) c
  chain_few a b n p has = few_steps (λ k x. HasMode m c x × RepairChain m.moves c x b k)
      (λ k x h. (h.1.0, ((next_mode x h.1.0 h.1.1).1, h.1.2)))
      (λ k j x h l. chain_once b k j x h.1 l.1)
      (slice_index (mode_counts m) c) n a (λ k x h. h.0) (has, p)

  pub chain_short : (a b n : ℕ) → RepairChain m.moves c a b n → n < MAX_CHOICES
  chain_short a b zero e = omega arith
  chain_short a b (suc n) p =
      let has = (next_mode a p.0 p.1).0 in
      let few = chain_few a b (suc n) p has in
      omega (arith, few, few_modes m well c (mode_within m c a has))

-- only a component of the model has a broken mode
pub broken_within : (m : PlantModel) → WellFormed m → (c mode : ℕ) → is_broken m.moves c mode ≡ true → c < length m.components
broken_within m good c mode h =
    let some = Any-from_list_any (is_repair_of c mode) m.moves h in
    let among : Contains m.moves some.1 = (some.0, some.2, some.3) in
    subst (λ d. d < length m.components) (repair_parts c mode some.1 some.4).1
    (mode_within m some.1.component some.1.source (All-contains (IsMove m) m.moves some.1 good.moves among).source)
