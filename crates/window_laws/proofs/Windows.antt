-- The window of a tick.
use Rattle.std.proofs.Common.{◌≡◌, inl, inr, ℕ, ◌+◌, ◌<◌, ◌≤◌, min, false, nat_lt, List, [], ◌∷◌, ◌++◌, length, drop, get_or, Option, refl, sym, ap, subst, arith}
use Rattle.std.proofs.lemmas.List.{length-append, length-drop}
use Rattle.std.proofs.lemmas.Bool.Decides.{nat_tests}
use Rattle.std.proofs.lemmas.Bool.{cases_Bool, cond-true, cond-false}
use Rattle.cca_base.specs.PlantModel.{PlantModel}
use Rattle.cca_base.specs.Shown.{CanShow}
use Rattle.window_laws.specs.Trajectories.{Entry, Trajectory, Best}
use Rattle.window_laws.specs.Ticks.{TrackerState, FindsBest, KeepsBest, window, going, next_anchor, next_records}
use Rattle.window_laws.proofs.Paths.{tails_best, length-trajectory}

slid : (m : PlantModel) (anchor : List ℕ) (records : List Entry) (states : List (List ℕ)) (cost : ℕ) → 0 < length records → Best m anchor records states cost
    → (rest : ℕ) × Best m (get_or states 0 anchor) (drop 1 records) (drop 1 states) rest
slid m anchor [] states cost some b = absurd (omega arith)
slid m anchor (r ∷ records) [] cost some b = absurd b.trajectory
slid m anchor (r ∷ records) (s ∷ states) cost some b = tails_best m anchor s r records states cost b

pub slides_keep_best : (m : PlantModel) (x : TrackerState) → KeepsBest m x → x.holding ≡ false
    → (rest : ℕ) × Best m (next_anchor x) (drop (going x) x.records) (drop (going x) x.last) rest
slides_keep_best m x keeps awake =
    let (cost, best) = keeps.best awake in
    elim (cases_Bool (nat_lt (length x.records) window)) [
      | inl short ↦ (
          let lt : length x.records < 8 = grind (arith, nat_tests, short) in
          let none : going x ≡ 0 = omega arith in (
            cost,
            subst (λ n. Best m (next_anchor x) (drop n x.records) (drop n x.last) cost) (sym none)
                (subst (λ a. Best m a x.records x.last cost) (sym (cond-true (nat_lt (length x.records) window) x.anchor (get_or x.last 0 x.anchor) short)) best),
          ))
      | inr full ↦ (
          let ge : 8 ≤ length x.records = grind (arith, nat_tests, full) in
          let one : going x ≡ 1 = omega (arith, keeps.few) in
          let long : 0 < length x.records = omega arith in
          let (rest, tail) = slid m x.anchor x.records x.last cost long best in (
            rest,
            subst (λ n. Best m (next_anchor x) (drop n x.records) (drop n x.last) rest) (sym one)
                (subst (λ a. Best m a (drop 1 x.records) (drop 1 x.last) rest) (sym (cond-false (nat_lt (length x.records) window) x.anchor (get_or x.last 0 x.anchor) full)) tail),
          ))
    ]

shows_last : (m : PlantModel) (anchor : List ℕ) (records : List Entry) (r : Entry) (states : List (List ℕ)) (cost : ℕ) → Trajectory m anchor (records ++ r ∷ []) states cost
    → (before : List (List ℕ)) × (s : List ℕ) × (states ≡ before ++ s ∷ []) × CanShow m s r.seen
shows_last m anchor [] r [] cost t = absurd t
shows_last m anchor [] r (s ∷ []) cost (own, rest, consistent, tail, e) = ([], s, refl, (consistent.world, consistent.is_world, consistent.agrees))
shows_last m anchor [] r (s ∷ o ∷ states) cost (own, rest, consistent, tail, e) = absurd tail
shows_last m anchor (q ∷ records) r [] cost t = absurd t
shows_last m anchor (q ∷ records) r (o ∷ states) cost (own, rest, consistent, tail, e) =
    let (before, s, parts, shows) = shows_last m o records r states rest tail in
    (o ∷ before, s, ap (λ l. o ∷ l) parts, shows)

pub shows_latest : (m : PlantModel) (x y : TrackerState) (entry : Entry) (states : List (List ℕ)) (cost : ℕ) (revised : Option ℕ) → FindsBest m x entry y states cost revised
    → (before : List (List ℕ)) × (s : List ℕ) × (states ≡ before ++ s ∷ []) × CanShow m s entry.seen
shows_latest m x y entry states cost revised f = shows_last m (next_anchor x) (drop (going x) x.records) entry states cost f.best.trajectory

pub window_fills : (m : PlantModel) (x y : TrackerState) (entry : Entry) (states : List (List ℕ)) (cost : ℕ) (revised : Option ℕ) → KeepsBest m x → FindsBest m x entry y states cost revised
    → length states ≡ min 8 (length x.records + 1)
window_fills m x y entry states cost revised keeps f =
    let a : length states ≡ length (next_records x entry) = length-trajectory m (next_anchor x) (next_records x entry) states cost f.best.trajectory in
    omega (arith, a, keeps.few, length-append (drop (going x) x.records) (entry ∷ []), length-drop (going x) x.records)
