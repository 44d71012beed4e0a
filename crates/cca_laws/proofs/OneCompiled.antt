-- What is compiled from a model is determined.
use Rattle.std.proofs.Common.{◌≡◌, ◌<◌, ◌+◌, ◌-◌, ◌*◌, ◌==◌, ℕ, not, suc, List, [], ◌∷◌, length, slice_index, slice_get, Some, Contains, filter, sum_by, inl, inr, refl, sym, ap, subst, ◌∙◌, arith}
use Rattle.std.proofs.lemmas.Bool.{cases_order}
use Rattle.std.proofs.lemmas.List.Sums.{sum_by-cons}
use Rattle.std.proofs.lemmas.Option.{slice_get_within}
use Rattle.std.proofs.lemmas.List.{ext_get_or}
use Rattle.list_laws.proofs.Places.{some_at}
use Rattle.list_laws.proofs.Members.{contains_cases, contains_here, contains_there, contains_none, from_filter}
use Rattle.cca_base.specs.declared.cube.Pair.{Pair}
use Rattle.cca_base.specs.declared.model.Move.{Move}
use Rattle.cca_base.proofs.PathLaws.{all_taken, below_contains, numbers_within, other_stays}
use Rattle.cca_base.proofs.Within.{needed_component}
use Rattle.cca_base.specs.PlantModel.{PlantModel}
use Rattle.cca_base.specs.Model.{mode_counts}
use Rattle.cca_base.specs.Cube.{IsBeforeCube}
use Rattle.cca_base.specs.Implicants.{Needs}
use Rattle.cca_base.specs.Orders.{numbers_below, TakesEffectsFirst, IsEffectsFirst}
use Rattle.cca_base.specs.Bounds.{AreNeeds, AreBounds}
use Rattle.cca_base.specs.Accepted.{AreWays, IsCompiled}
use Rattle.cca_laws.proofs.OneOrder.{same_by_order, one_way_cubes}

-- ---- the order

pub one_order : (m : PlantModel) (remaining a b : List ℕ) → TakesEffectsFirst m remaining a → TakesEffectsFirst m remaining b → a ≡ b
one_order m remaining [] [] h k = refl
one_order m remaining [] (d ∷ b) h k = absurd (contains_none d (subst (λ l. Contains l d) h k.0))
one_order m remaining (c ∷ a) [] h k = absurd (contains_none c (subst (λ l. Contains l c) k h.0))
one_order m remaining (c ∷ a) (d ∷ b) h k =
    let heads : c ≡ d = elim (cases_order c d) [
      | inl e ↦ e
      | inr (inl below) ↦ absurd (k.2 c below h.0 h.1)
      | inr (inr above) ↦ absurd (h.2 d above k.0 k.1)
    ]
    in
    let tails : a ≡ b = one_order m (filter (λ x. not (x == c)) remaining) a b h.3 (subst (λ e. TakesEffectsFirst m (filter (λ x. not (x == e)) remaining) b) (sym heads) k.3) in
    λ i. heads i ∷ tails i

-- ---- the bounds

one_needs : (m : PlantModel) (c : ℕ) (us vs : List ℕ) → AreNeeds m c us → AreNeeds m c vs → us ≡ vs
one_needs m c us vs h k = same_by_order (λ u v. u < v) (λ u v below above. omega (arith, below, above)) us vs h.rising k.rising
    (λ u among. (k.each u).1 ((h.each u).0 among), λ u among. (h.each u).1 ((k.each u).0 among))

module _ (m : PlantModel) (a b : List ℕ) (x : AreBounds m a) (y : AreBounds m b) where
  abbrev Same : ℕ → Type 0
  Same c = slice_index a c ≡ slice_index b c

  same_sum : (us : List ℕ) → ((u : ℕ) → Contains us u → Same u) → sum_by (slice_index a) us ≡ sum_by (slice_index b) us
  same_sum [] same = refl
  same_sum (u ∷ us) same =
      let head : Same u = same u (contains_here u u us refl) in
      let rest = same_sum us (λ v among. same v (contains_there u v us among)) in
      omega (arith, head, rest, sum_by-cons (slice_index a) u us, sum_by-cons (slice_index b) u us)

  same_bound : (c : ℕ) → c < length m.components → ((u : ℕ) → Needs m c u → Same u) → Same c
  same_bound c within same =
      let p = x.each c within in
      let q = y.each c within in
      let needs : p.needs ≡ q.needs = one_needs m c p.needs q.needs p.are_needs q.are_needs in
      let sums = same_sum p.needs (λ u among. same u ((p.are_needs.each u).0 among)) ∙ ap (sum_by (slice_index b)) needs in
      p.equation ∙ ap (λ n. (slice_index (mode_counts m) c - 1) * (1 + n)) sums ∙ sym q.equation

  -- what the remaining components need remains
  abbrev IsClosed : List ℕ → Type 0
  IsClosed remaining = (d u : ℕ) → Contains remaining d → Needs m d u → Contains remaining u

  same_along : (remaining order : List ℕ) → TakesEffectsFirst m remaining order → IsClosed remaining → ((d : ℕ) → Contains remaining d → d < length m.components)
      → (c : ℕ) → Contains order c → Same c
  same_along remaining [] h closed within c among = absurd (contains_none c among)
  same_along remaining (e ∷ order) h closed within c among =
      let left : List ℕ = filter (λ z. not (z == e)) remaining in
      let before : (d : ℕ) → Contains left d → Contains remaining d = λ d there. (from_filter (λ z. not (z == e)) remaining d there).1 in
      let keeps : (d u : ℕ) → Contains remaining d → Needs m d u → Contains left u =
      λ d u there needs. other_stays e u remaining (λ same. h.1 d there (subst (Needs m d) same needs)) (closed d u there needs)
      in
      let rest : (d : ℕ) → Contains order d → Same d =
      same_along left order h.3 (λ d u there needs. keeps d u (before d there) needs) (λ d there. within d (before d there))
      in
      elim (contains_cases e c order among) [
        | inl here ↦ subst Same here (same_bound e (within e h.0) (λ u needs. rest u (all_taken (Needs m) left order h.3 u (keeps e u h.0 needs))))
        | inr there ↦ rest c there
      ]

  pub one_bounds : (order : List ℕ) → IsEffectsFirst m order → a ≡ b
  one_bounds order h =
      let all : List ℕ = numbers_below (length m.components) in
      ext_get_or 0 a b (x.full ∙ sym y.full) (λ c within.
      let there : Contains all c = below_contains (length m.components) c (omega (arith, within, x.full)) in
      same_along all order h (λ d u among needs. below_contains (length m.components) u (needed_component m d u needs)) (numbers_within (length m.components)) c (all_taken (Needs m) all order h c there))

-- ---- the ways

same_ways : (m : PlantModel) (move : Move) (a b : List (List Pair)) → AreWays m move a → AreWays m move b → a ≡ b
same_ways m move a b h k = same_by_order IsBeforeCube one_way_cubes a b h.in_order k.in_order
    (λ cube among. (k.each cube).1 ((h.each cube).0 among), λ cube among. (h.each cube).1 ((k.each cube).0 among))

same_at_each : {X : Type 0} (xs ys : List X) → length xs ≡ length ys → ((i : ℕ) (x y : X) → slice_get xs i ≡ Some x → slice_get ys i ≡ Some y → x ≡ y) → xs ≡ ys
same_at_each [] [] n h = refl
same_at_each [] (y ∷ ys) n h = absurd (omega arith)
same_at_each (x ∷ xs) [] n h = absurd (omega arith)
same_at_each (x ∷ xs) (y ∷ ys) n h = λ i. h 0 x y refl refl i ∷ same_at_each xs ys (omega arith) (λ j. h (suc j)) i

pub one_compiled : (m : PlantModel) (ways others : List (List (List Pair))) (order another bounds more : List ℕ)
    → IsCompiled (record { model = m; ways = ways; order = order; bounds = bounds }) → IsCompiled (record { model = m; ways = others; order = another; bounds = more })
    → (ways ≡ others) × (order ≡ another) × (bounds ≡ more)
one_compiled m ways others order another bounds more h k = (
  same_at_each ways others (h.ways_full ∙ sym k.ways_full) (λ i a b at there.
      let within : i < length m.moves = omega (arith, slice_get_within ways i a at, h.ways_full) in
      let move = some_at m.moves i within in
      same_ways m move.0 a b (h.ways i move.0 a move.1 at) (k.ways i move.0 b move.1 there)),
  one_order m (numbers_below (length m.components)) order another h.order k.order,
  one_bounds m bounds more h.bounds k.bounds order h.order,
)
