-- A model is refused in one way at most.
use Rattle.std.proofs.Common.{◌≡◌, ◌<◌, ◌≤◌, ◌+◌, ◌⊎◌, ℕ, List, [], ◌∷◌, ◌++◌, length, slice_index, sum_by, inl, inr, sym, ap, subst, ◌∙◌, arith}
use Rattle.std.proofs.lemmas.Bool.{cases_order}
use Rattle.std.proofs.lemmas.List.Sums.{sum_by-append, sum_by-cons}
use Rattle.cca_base.specs.declared.codes.TheConstants.{CLASH, WAYS, CYCLE, DEEP}
use Rattle.cca_base.specs.declared.cube.Pair.{Pair}
use Rattle.cca_base.specs.declared.events.Refusal.{Refusal}
use Rattle.cca_base.specs.declared.events.Detail.TheVariants.{Pairs, OfMove, Components}
use Rattle.cca_base.specs.declared.limits.TheConstants.{MAX_BOUND}
use Rattle.cca_base.specs.PlantModel.{PlantModel}
use Rattle.cca_base.specs.Implicants.{Needs, IsAcyclic}
use Rattle.cca_base.specs.Orders.{numbers_below}
use Rattle.cca_base.specs.Relations.{IsCycleBy}
use Rattle.cca_base.specs.Shown.{IsConflict, IsShownClash, IsShownCycle}
use Rattle.cca_laws.proofs.OneCompiled.{one_order, one_bounds}
use Rattle.cca_laws.proofs.EstimateLaws.{neither}
use Rattle.consistency.proofs.MinimalConflict.{there_is_one_conflict}
use Rattle.acceptance.specs.Laws.{ThereIsOneRefusal}
use Rattle.acceptance.specs.Refusals.{HasClash, HasMany, IsFirstWithMany, IsTooDeep, RefusesWays, RefusesCycle, RefusesDeep}
use Rattle.acceptance.proofs.RefusalSteps.{shows}

-- ---- one example of each kind

one_clash : (m : PlantModel) (a b : List Pair) → IsShownClash m a → IsShownClash m b → a ≡ b
one_clash m a b h k =
    let states : h.state ≡ k.state = neither h.state k.state (k.first h.state h.is_state h.conflict.0) (h.first k.state k.is_state k.conflict.0) in
    there_is_one_conflict m k.state [] a b (subst (λ s. IsConflict m s [] a) states h.conflict) k.conflict

one_first : (m : PlantModel) (i j : ℕ) → IsFirstWithMany m i → IsFirstWithMany m j → i ≡ j
one_first m i j h k = elim (cases_order i j) [
  | inl e ↦ e
  | inr (inl below) ↦ absurd (k.first i below h.many)
  | inr (inr above) ↦ absurd (h.first j above k.many)
]

one_cycle : (m : PlantModel) (a b : List ℕ) → IsShownCycle m a → IsShownCycle m b → a ≡ b
one_cycle m a b h k =
    let firsts : h.first ≡ k.first = omega (arith, h.least k.first (k.cycle.between, k.cycle.needs), k.least h.first (h.cycle.between, h.cycle.needs)) in
    let cycle_a : IsCycleBy (Needs m) a k.first = subst (IsCycleBy (Needs m) a) firsts h.cycle in
    let cycle_b : IsCycleBy (Needs m) b h.first = subst (IsCycleBy (Needs m) b) (sym firsts) k.cycle in
    neither a b (k.earliest a cycle_a (omega (arith, k.shortest a cycle_a, h.shortest b cycle_b))) (h.earliest b cycle_b (omega (arith, k.shortest a cycle_a, h.shortest b cycle_b)))

-- a sum from the back passes a number at one place
one_place : (f : ℕ → ℕ) (most : ℕ) (front others : List ℕ) (c d : ℕ) (back behind : List ℕ) → front ++ c ∷ back ≡ others ++ d ∷ behind → sum_by f back ≤ most → most < sum_by f back + f c
    → sum_by f behind ≤ most → most < sum_by f behind + f d → c ≡ d
one_place f most [] [] c d back behind same fits passes fit pass = cc
one_place f most [] (x ∷ others) c d back behind same fits passes fit pass =
    let rest : back ≡ others ++ d ∷ behind = cc in
    absurd (omega (arith, ap (sum_by f) rest, sum_by-append f others (d ∷ behind), sum_by-cons f d behind, fits, pass))
one_place f most (x ∷ front) [] c d back behind same fits passes fit pass =
    let rest : front ++ c ∷ back ≡ behind = cc in
    absurd (omega (arith, ap (sum_by f) rest, sum_by-append f front (c ∷ back), sum_by-cons f c back, fit, passes))
one_place f most (x ∷ front) (y ∷ others) c d back behind same fits passes fit pass =
    let rest : front ++ c ∷ back ≡ others ++ d ∷ behind = cc in
    one_place f most front others c d back behind rest fits passes fit pass

one_depth : (m : PlantModel) (c d : ℕ) → IsTooDeep m c → IsTooDeep m d → c ≡ d
one_depth m c d h k =
    let orders : h.order ≡ k.order = one_order m (numbers_below (length m.components)) h.order k.order h.is_order k.is_order in
    let bounds : h.bounds ≡ k.bounds = one_bounds m h.bounds k.bounds h.are_bounds k.are_bounds h.order h.is_order in
    one_place (slice_index k.bounds) MAX_BOUND h.effects k.effects c d h.causes k.causes (sym h.split ∙ orders ∙ k.split)
    (subst (λ l. sum_by (slice_index l) h.causes ≤ MAX_BOUND) bounds h.fits) (subst (λ l. MAX_BOUND < sum_by (slice_index l) h.causes + slice_index l c) bounds h.passes) k.fits k.passes

-- ---- one kind

clash_is : (m : PlantModel) (cube : List Pair) → IsShownClash m cube → HasClash m
clash_is m cube h = (h.state, h.is_state, λ w. h.conflict.0 (shows m h.state w))

acyclic_not : (m : PlantModel) (list : List ℕ) → IsShownCycle m list → IsAcyclic m → ⊥
acyclic_not m list h none = none h.first (h.cycle.between, h.cycle.needs)

module _ (m : PlantModel) (a b : Refusal) where
  late : RefusesCycle m a ⊎ RefusesDeep m a → RefusesCycle m b ⊎ RefusesDeep m b → a ≡ b
  late (inl h) (inl k) = h.is ∙ ap (λ l. record { code = CYCLE; detail = Components l }) (one_cycle m h.list k.list h.shown k.shown) ∙ sym k.is
  late (inl h) (inr k) = absurd (acyclic_not m h.list h.shown k.acyclic)
  late (inr h) (inl k) = absurd (acyclic_not m k.list k.shown h.acyclic)
  late (inr h) (inr k) = h.is ∙ ap (λ c. record { code = DEEP; detail = Components (c ∷ []) }) (one_depth m h.component k.component h.shown k.shown) ∙ sym k.is

few_late : (m : PlantModel) (r : Refusal) → RefusesCycle m r ⊎ RefusesDeep m r → HasMany m → ⊥
few_late m r (inl h) = h.few_ways
few_late m r (inr h) = h.few_ways

worlds_later : (m : PlantModel) (r : Refusal) → RefusesWays m r ⊎ (RefusesCycle m r ⊎ RefusesDeep m r) → HasClash m → ⊥
worlds_later m r (inl h) = h.no_clash
worlds_later m r (inr (inl h)) = h.no_clash
worlds_later m r (inr (inr h)) = h.no_clash

later : (m : PlantModel) (a b : Refusal) → RefusesWays m a ⊎ (RefusesCycle m a ⊎ RefusesDeep m a) → RefusesWays m b ⊎ (RefusesCycle m b ⊎ RefusesDeep m b) → a ≡ b
later m a b (inl h) (inl k) = h.is ∙ ap (λ i. record { code = WAYS; detail = OfMove i }) (one_first m h.move_number k.move_number h.shown k.shown) ∙ sym k.is
later m a b (inl h) (inr k) = absurd (few_late m b k (h.move_number, h.shown.many))
later m a b (inr h) (inl k) = absurd (few_late m a h (k.move_number, k.shown.many))
later m a b (inr h) (inr k) = late m a b h k

pub there_is_one_refusal : ThereIsOneRefusal
there_is_one_refusal m a b (inl h) (inl k) = h.is ∙ ap (λ cube. record { code = CLASH; detail = Pairs cube }) (one_clash m h.cube k.cube h.shown k.shown) ∙ sym k.is
there_is_one_refusal m a b (inl h) (inr k) = absurd (worlds_later m b k (clash_is m h.cube h.shown))
there_is_one_refusal m a b (inr h) (inl k) = absurd (worlds_later m a h (clash_is m k.cube k.shown))
there_is_one_refusal m a b (inr h) (inr k) = later m a b h k
