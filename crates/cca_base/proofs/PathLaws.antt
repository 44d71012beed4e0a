-- Paths and orders of a relation.
use Rattle.std.proofs.Common.{◌≡◌, ◌≢◌, ◌<◌, ◌==◌, ◌↔◌, ℕ, zero, suc, not, List, [], ◌∷◌, ◌++◌, length, All, AllPairs, Contains, filter, inl, inr, refl, sym, ap, subst, ◌∙◌, arith}
use Rattle.std.proofs.lemmas.Bool.{cases_Bool, cases_eq, cases_order, eqb-true, eq-eqb, ne_eqb, not_from_false, not_from_true, cond-true, cond-false}
use Rattle.std.proofs.lemmas.List.{length-append}
use Rattle.std.proofs.lemmas.List.Elements.{All-contains, All-head, All-tail, Contains-append_left, Contains-push, Contains-push_cases}
use Rattle.std.proofs.lemmas.List.Kept.{AllPairs-cons}
use Rattle.list_laws.proofs.Pairwise.{AllPairs-head, AllPairs-tail}
use Rattle.list_laws.proofs.Members.{all_from, contains_here, contains_there, contains_none, to_filter, from_filter}
use Rattle.cca_base.specs.Relations.{numbers_below, PathBy, AncestorBy, IsAcyclicBy, IsFreeBy, TakesEffectsFirstBy, IsCycleBy, IsShownCycleBy}

-- ---- numbers in order

rising_push : (xs : List ℕ) (y : ℕ) → AllPairs (λ a b. a < b) xs → All (λ x. x < y) xs → AllPairs (λ a b. a < b) (xs ++ y ∷ [])
rising_push [] y h below = λ i j d lt within. absurd (omega arith)
rising_push (x ∷ xs) y h below =
    AllPairs-cons (λ a b. a < b) x (xs ++ y ∷ [])
    (all_from (λ b. x < b) (xs ++ y ∷ []) (λ b among. elim (Contains-push_cases xs y b among) [
      | inl there ↦ All-contains (λ b. x < b) xs b (AllPairs-head (λ a b. a < b) x xs h) there
      | inr e ↦ subst (λ b. x < b) e (All-head (λ x. x < y) x xs below)
    ]))
    (rising_push xs y (AllPairs-tail (λ a b. a < b) x xs h) (All-tail (λ x. x < y) x xs below))

pub length-numbers : (n : ℕ) → length (numbers_below n) ≡ n
length-numbers zero = refl
length-numbers (suc n) = omega (arith, length-append (numbers_below n) (n ∷ []), length-numbers n)

pub below_contains : (n c : ℕ) → c < n → Contains (numbers_below n) c
below_contains zero c h = absurd (omega arith)
below_contains (suc n) c h = elim (cases_order c n) [
  | inl e ↦ subst (Contains (numbers_below (suc n))) (sym e) (Contains-push (numbers_below n) n)
  | inr (inl below) ↦ Contains-append_left (numbers_below n) (n ∷ []) c (below_contains n c below)
  | inr (inr above) ↦ absurd (omega (arith, h, above))
]

pub numbers_within : (n c : ℕ) → Contains (numbers_below n) c → c < n
numbers_within zero c h = absurd (contains_none c h)
numbers_within (suc n) c h = elim (Contains-push_cases (numbers_below n) n c h) [
  | inl before ↦ omega (arith, numbers_within n c before)
  | inr e ↦ omega (arith, e)
]

pub numbers_are_below : (n : ℕ) → All (λ x. x < n) (numbers_below n)
numbers_are_below n = all_from (λ x. x < n) (numbers_below n) (numbers_within n)

pub numbers_rise : (n : ℕ) → AllPairs (λ a b. a < b) (numbers_below n)
numbers_rise zero = λ i j d lt within. absurd (omega arith)
numbers_rise (suc n) = rising_push (numbers_below n) n (numbers_rise n) (numbers_are_below n)

-- without c, numbers that are all greater stay
keeps_all : (c : ℕ) (xs : List ℕ) → All (λ x. c < x) xs → filter (λ d. not (d == c)) xs ≡ xs
keeps_all c [] above = refl
keeps_all c (x ∷ xs) above =
    let other : x ≢ c = λ e. (let lt : c < x = All-head (λ x. c < x) x xs above in omega (arith, e)) in
    cond-true (not (x == c)) (x ∷ filter (λ d. not (d == c)) xs) (filter (λ d. not (d == c)) xs) (not_from_false (x == c) (ne_eqb x c other))
    ∙ ap (λ l. x ∷ l) (keeps_all c xs (All-tail (λ x. c < x) x xs above))

-- without their head, rising numbers are their tail
pub takes_out : (c : ℕ) (xs : List ℕ) → All (λ x. c < x) xs → xs ≡ filter (λ d. not (d == c)) (c ∷ xs)
takes_out c xs above =
    sym (cond-false (not (c == c)) (c ∷ filter (λ d. not (d == c)) xs) (filter (λ d. not (d == c)) xs) (not_from_true (c == c) (eq-eqb c c refl)) ∙ keeps_all c xs above)

pub other_stays : (c d : ℕ) (remaining : List ℕ) → (d ≡ c → ⊥) → Contains remaining d → Contains (filter (λ x. not (x == c)) remaining) d
other_stays c d remaining ne among = to_filter (λ x. not (x == c)) remaining d (elim (cases_Bool (d == c)) [
  | inl yes_d ↦ absurd (ne (eqb-true d c yes_d))
  | inr no_d ↦ not_from_false (d == c) no_d
]) among

module _ (relation : ℕ → ℕ → Type 0) where
  -- ---- paths

  path_join : (c : ℕ) (first : List ℕ) (d : ℕ) (later : List ℕ) (u : ℕ) → PathBy relation c first d → PathBy relation d later u → PathBy relation c (first ++ d ∷ later) u
  path_join c [] d later u h k = (h, k)
  path_join c (x ∷ first) d later u h k = (h.0, path_join x first d later u h.1 k)

  pub ancestor_join : (c d u : ℕ) → AncestorBy relation c d → AncestorBy relation d u → AncestorBy relation c u
  ancestor_join c d u h k = (h.0 ++ d ∷ k.0, path_join c h.0 d k.0 u h.1 k.1)

  pub ancestor_direct : (c u : ℕ) → relation c u → AncestorBy relation c u
  ancestor_direct c u h = ([], h)

  -- ---- orders

  -- all that remain are taken
  pub all_taken : (remaining order : List ℕ) → TakesEffectsFirstBy relation remaining order → (d : ℕ) → Contains remaining d → Contains order d
  all_taken remaining [] h d among = subst (λ l. Contains l d) h among
  all_taken remaining (c ∷ order) h d among = elim (cases_eq d c) [
    | inl e ↦ contains_here c d order (sym e)
    | inr ne ↦ contains_there c d order (all_taken (filter (λ x. not (x == c)) remaining) order h.3 d (other_stays c d remaining ne among))
  ]

  -- what the remaining need remains
  abbrev pub IsClosedUnder : List ℕ → Type 0
  IsClosedUnder remaining = (d u : ℕ) → Contains remaining d → relation d u → Contains remaining u

  last_needs : (remaining : List ℕ) → IsClosedUnder remaining → (c : ℕ) (between : List ℕ) (u : ℕ) → Contains remaining c → PathBy relation c between u
      → (d : ℕ) × Contains remaining d × relation d u
  last_needs remaining closed c [] u among h = (c, among, h)
  last_needs remaining closed c (x ∷ between) u among h = last_needs remaining closed x between u (closed c x among h.0) h.1

  -- where all are taken in order, none is its own ancestor
  pub order_acyclic : (remaining order : List ℕ) → TakesEffectsFirstBy relation remaining order → IsClosedUnder remaining
      → (c : ℕ) (between : List ℕ) → Contains remaining c → PathBy relation c between c → ⊥
  order_acyclic remaining [] h closed c between among path = contains_none c (subst (λ l. Contains l c) h among)
  order_acyclic remaining (e ∷ order) h closed c between among path =
      let left : List ℕ = filter (λ z. not (z == e)) remaining in
      let before : (d : ℕ) → Contains left d → Contains remaining d = λ d there. (from_filter (λ z. not (z == e)) remaining d there).1 in
      let other : (d u : ℕ) → Contains remaining d → relation d u → (u ≡ e → ⊥) = λ d u there needs same. h.1 d there (subst (relation d) same needs) in
      let last = last_needs remaining closed c between c among path in
      order_acyclic left order h.3
      (λ d u there needs. other_stays e u remaining (other d u (before d there) needs) (closed d u (before d there) needs))
      c between (other_stays e c remaining (other last.0 c last.1 last.2) among) path

-- ---- relations that say the same

-- a path of one relation is one of another that has all its needs
pub path_along : (R S : ℕ → ℕ → Type 0) → ((c u : ℕ) → R c u → S c u) → (c : ℕ) (between : List ℕ) (u : ℕ) → PathBy R c between u → PathBy S c between u
path_along R S along c [] u h = along c u h
path_along R S along c (d ∷ between) u h = (along c d h.0, path_along R S along d between u h.1)

pub ancestor_along : (R S : ℕ → ℕ → Type 0) → ((c u : ℕ) → R c u → S c u) → (c u : ℕ) → AncestorBy R c u → AncestorBy S c u
ancestor_along R S along c u h = (h.0, path_along R S along c h.0 u h.1)

module _ (R S : ℕ → ℕ → Type 0) (same : (c u : ℕ) → R c u ↔ S c u) where
  free_same : (remaining : List ℕ) (c : ℕ) → IsFreeBy R remaining c → IsFreeBy S remaining c
  free_same remaining c h d among needs = h d among ((same d c).1 needs)

  free_back : (remaining : List ℕ) (c : ℕ) → IsFreeBy S remaining c → IsFreeBy R remaining c
  free_back remaining c h d among needs = h d among ((same d c).0 needs)

  pub takes_same : (remaining order : List ℕ) → TakesEffectsFirstBy R remaining order → TakesEffectsFirstBy S remaining order
  takes_same remaining [] h = h
  takes_same remaining (c ∷ order) h =
      (h.0, free_same remaining c h.1, λ d lt among free_d. h.2 d lt among (free_back remaining d free_d), takes_same (filter (λ d. not (d == c)) remaining) order h.3)

  pub acyclic_same : IsAcyclicBy R → IsAcyclicBy S
  acyclic_same h c way = h c (ancestor_along S R (λ d u. (same d u).1) c c way)

  cycle_same : (list : List ℕ) (first : ℕ) → IsCycleBy R list first → IsCycleBy S list first
  cycle_same list first h = record { between = h.between; ends = h.ends; differ = h.differ; needs = path_along R S (λ d u. (same d u).0) first h.between first h.needs }

  cycle_back : (list : List ℕ) (first : ℕ) → IsCycleBy S list first → IsCycleBy R list first
  cycle_back list first h = record { between = h.between; ends = h.ends; differ = h.differ; needs = path_along S R (λ d u. (same d u).1) first h.between first h.needs }

  pub shown_same : (list : List ℕ) → IsShownCycleBy R list → IsShownCycleBy S list
  shown_same list h = record {
    first = h.first;
    cycle = cycle_same list h.first h.cycle;
    least = λ c way. h.least c (ancestor_along S R (λ d u. (same d u).1) c c way);
    shortest = λ other o. h.shortest other (cycle_back other h.first o);
    earliest = λ other o long earlier. h.earliest other (cycle_back other h.first o) long earlier;
  }
