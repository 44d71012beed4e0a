-- The guard that names more than it needs.
use Rattle.std.proofs.Common.{◌≡◌, ◌≢◌, ◌<◌, ℕ, zero, suc, Bool, inl, inr, true, false, List, [], ◌∷◌, Some, All, Contains, refl, sym, ap, subst, ◌∙◌, arith}
use Rattle.std.specs.Prelude.{slice_get, slice_index, IsTrue}
use Rattle.std.specs.List.{list_all, list_any}
use Rattle.std.proofs.lemmas.Bool.{false≢true}
use Rattle.std.proofs.lemmas.List.Elements.{All-nil}
use Rattle.list_laws.proofs.Places.{value_at}
use Rattle.list_laws.proofs.Members.{contains_cases, contains_none}
use Rattle.cca_base.specs.declared.cube.Pair.{Pair}
use Rattle.cca_base.specs.declared.model.Move.{Move}
use Rattle.cca_base.specs.Formula.{truth}
use Rattle.cca_base.specs.Sets.{has}
use Rattle.cca_base.specs.Cube.{IsPart}
use Rattle.cca_base.specs.Model.{HasMode}
use Rattle.cca_base.specs.State.{IsState, IsWorld, Extends}
use Rattle.cca_base.specs.Implicants.{PrimeImplicant, Suffices, Needs, source_pair}
use Rattle.cca_base.specs.Orders.{IsFree}
use Rattle.list_laws.proofs.Few.{one_at, two_at, three_at, below_two, below_three}
use Rattle.cca_laws.proofs.FreeMoves.{single_prime}
use Rattle.cca_laws.proofs.FormulaExamples.{truth_mode, truth_both, truth_either}
use Rattle.cca_laws.specs.FormulaExamples.{mode_in, both}
use Rattle.cca_laws.specs.OrderExamples.{wordy_guard, wordy_move, wordy, b_is_q, OneImplicant, OneNeed, CauseComesLast}

abbrev says : ℕ → ℕ → Bool
says a b = list_any (λ x. x) (list_all (λ x. x) (has 1 a ∷ has 2 b ∷ []) ∷ list_all (λ x. x) (has 2 a ∷ has 2 b ∷ []) ∷ [])

guard_is : (s w : List ℕ) → truth s w wordy_guard ≡ says (slice_index s 0) (slice_index s 1)
guard_is s w =
    truth_either s w (both (mode_in 0 1) (mode_in 1 2)) (both (mode_in 0 2) (mode_in 1 2)) _ _
    (truth_both s w (mode_in 0 1) (mode_in 1 2) _ _ (truth_mode s w 0 1) (truth_mode s w 1 2))
    (truth_both s w (mode_in 0 2) (mode_in 1 2) _ _ (truth_mode s w 0 2) (truth_mode s w 1 2))

state_of : (a : ℕ) → a < 2 → IsState wordy (a ∷ 0 ∷ 0 ∷ [])
state_of a h = record { full = refl; modes = below_three (λ c. HasMode wordy c (slice_index (a ∷ 0 ∷ 0 ∷ []) c)) h (omega arith) (omega arith) }

world_of : (s : List ℕ) → IsWorld wordy s []
world_of s = record { full = refl; values = λ v h. absurd (omega arith); rules = All-nil (λ rule. IsTrue (truth s [] rule)) }

-- pairs that hold while b is n don't suffice
too_little : (a : ℕ) → a < 2 → (pairs : List Pair) → Extends (a ∷ 0 ∷ 0 ∷ []) (source_pair wordy_move ∷ pairs) → Suffices wordy wordy_move pairs → ⊥
too_little a h pairs extends suffices =
    let no : says a 0 ≡ false = below_two (λ x. says x 0 ≡ false) refl refl a h in
    false≢true (sym (guard_is (a ∷ 0 ∷ 0 ∷ []) [] ∙ no) ∙ suffices (a ∷ 0 ∷ 0 ∷ []) (state_of a h) extends [] (world_of (a ∷ 0 ∷ 0 ∷ [])))

b_suffices : Suffices wordy wordy_move (b_is_q ∷ [])
b_suffices s state extends w world =
    let q : slice_index s 1 ≡ 1 = value_at s 1 1 (extends 1 b_is_q (omega arith)) in
    guard_is s w ∙ ap (says (slice_index s 0)) q ∙ below_two (λ x. says x 1 ≡ true) refl refl (slice_index s 0) (state.modes 0 (omega arith))

nothing_is_too_little : Suffices wordy wordy_move [] → ⊥
nothing_is_too_little = too_little 0 (omega arith) [] (one_at (λ (p : Pair). slice_get (0 ∷ 0 ∷ 0 ∷ []) p.item ≡ Some p.value) (source_pair wordy_move) refl)

b_is_prime : PrimeImplicant wordy wordy_move (b_is_q ∷ [])
b_is_prime = single_prime wordy wordy_move b_is_q (omega arith) (λ e. absurd (omega (arith, e))) b_suffices nothing_is_too_little

-- a pair of a cube is of a or of b
limits : (i v : ℕ) → v < slice_index (2 ∷ 2 ∷ 2 ∷ []) i → i ≢ 2 → (i < 2) × (v < 2)
limits zero v h other = (omega arith, omega arith)
limits (suc zero) v h other = (omega arith, omega arith)
limits (suc (suc zero)) v h other = absurd (other refl)
limits (suc (suc (suc i))) v h other = absurd (omega arith)

limits_at : (cube : List Pair) → PrimeImplicant wordy wordy_move cube → All (λ (q : Pair). (q.item < 2) × (q.value < 2)) cube
limits_at cube h i d lt = limits _ _ (h.modes i d lt) (h.others i d lt)

-- a single pair
one_pair : (i v : ℕ) → i < 2 → v < 2 → Suffices wordy wordy_move (record { item = i; value = v } ∷ []) → record { item = i; value = v } ≡ b_is_q
one_pair zero v h k suffices =
    absurd (too_little v k (record { item = 0; value = v } ∷ [])
    (two_at (λ (p : Pair). slice_get (v ∷ 0 ∷ 0 ∷ []) p.item ≡ Some p.value) (source_pair wordy_move) (record { item = 0; value = v }) refl refl) suffices)
one_pair (suc zero) zero h k suffices =
    absurd (too_little 0 (omega arith) (record { item = 1; value = 0 } ∷ [])
    (two_at (λ (p : Pair). slice_get (0 ∷ 0 ∷ 0 ∷ []) p.item ≡ Some p.value) (source_pair wordy_move) (record { item = 1; value = 0 }) refl refl) suffices)
one_pair (suc zero) (suc zero) h k suffices = refl
one_pair (suc zero) (suc (suc v)) h k suffices = absurd (omega arith)
one_pair (suc (suc i)) v h k suffices = absurd (omega arith)

-- two pairs
two_pairs : (i v j u : ℕ) → i < j → j < 2 → v < 2 → u < 2 → PrimeImplicant wordy wordy_move (record { item = i; value = v } ∷ record { item = j; value = u } ∷ []) → ⊥
two_pairs zero v (suc zero) zero lt h k l prime =
    too_little v k (record { item = 0; value = v } ∷ record { item = 1; value = 0 } ∷ [])
    (three_at (λ (p : Pair). slice_get (v ∷ 0 ∷ 0 ∷ []) p.item ≡ Some p.value) (source_pair wordy_move) (record { item = 0; value = v }) (record { item = 1; value = 0 }) refl refl refl)
    prime.suffices
two_pairs zero v (suc zero) (suc zero) lt h k l prime =
    let whole : IsPart (record { item = 0; value = v } ∷ b_is_q ∷ []) (b_is_q ∷ []) =
    prime.minimal (b_is_q ∷ []) (one_at (Contains (record { item = 0; value = v } ∷ b_is_q ∷ [])) b_is_q (1, omega arith, refl)) b_suffices in
    elim (contains_cases b_is_q (record { item = 0; value = v }) [] (whole 0 b_is_q (omega arith))) [
      | inl e ↦ omega (arith, ap (λ (p : Pair). p.item) e)
      | inr none ↦ contains_none (record { item = 0; value = v }) none
    ]
two_pairs zero v (suc zero) (suc (suc u)) lt h k l prime = absurd (omega arith)
two_pairs zero v zero u lt h k l prime = absurd (omega arith)
two_pairs zero v (suc (suc j)) u lt h k l prime = absurd (omega arith)
two_pairs (suc i) v j u lt h k l prime = absurd (omega arith)

only_b : (cube : List Pair) → PrimeImplicant wordy wordy_move cube → cube ≡ b_is_q ∷ []
only_b [] prime = absurd (nothing_is_too_little prime.suffices)
only_b (p ∷ []) prime =
    let at : (p.item < 2) × (p.value < 2) = limits_at (p ∷ []) prime 0 p (omega arith) in
    ap (λ (q : Pair). q ∷ []) (one_pair p.item p.value at.0 at.1 prime.suffices)
only_b (p ∷ q ∷ []) prime =
    let at : (p.item < 2) × (p.value < 2) = limits_at (p ∷ q ∷ []) prime 0 p (omega arith) in
    let next : (q.item < 2) × (q.value < 2) = limits_at (p ∷ q ∷ []) prime 1 p (omega arith) in
    absurd (two_pairs p.item p.value q.item q.value (prime.rising 0 1 p (omega arith) (omega arith)) next.0 at.1 next.1 prime)
only_b (p ∷ q ∷ r ∷ cube) prime =
    let first : p.item < q.item = prime.rising 0 1 p (omega arith) (omega arith) in
    let second : q.item < r.item = prime.rising 1 2 p (omega arith) (omega arith) in
    let last : (r.item < 2) × (r.value < 2) = limits_at (p ∷ q ∷ r ∷ cube) prime 2 p (omega arith) in
    absurd (omega (arith, last.0))

pub one_implicant : OneImplicant
one_implicant cube = (only_b cube, λ e. subst (PrimeImplicant wordy wordy_move) (sym e) b_is_prime)

the_need : Needs wordy 2 1
the_need = record { move = wordy_move; of_model = (0, omega arith, refl); own = refl; cube = b_is_q ∷ []; prime = b_is_prime; mode = 1; occurs = (0, omega arith, refl) }

need_of : (c u : ℕ) → (h : Needs wordy c u) → wordy_move ≡ h.move → (c ≡ 2) × (u ≡ 1)
need_of c u h e =
    let only : h.cube ≡ b_is_q ∷ [] = only_b h.cube (subst (λ (y : Move). PrimeImplicant wordy y h.cube) (sym e) h.prime) in (
      sym h.own ∙ ap (λ (y : Move). y.component) (sym e),
      elim (contains_cases b_is_q (record { item = u; value = h.mode }) [] (subst (λ (cube : List Pair). Contains cube (record { item = u; value = h.mode })) only h.occurs)) [
        | inl same ↦ sym (ap (λ (p : Pair). p.item) same)
        | inr none ↦ absurd (contains_none (record { item = u; value = h.mode }) none)
      ],
    )

needs_only : (c u : ℕ) → Needs wordy c u → (c ≡ 2) × (u ≡ 1)
needs_only c u h = elim (contains_cases wordy_move h.move [] h.of_model) [ inl e ↦ need_of c u h e | inr none ↦ absurd (contains_none h.move none) ]

pub one_need : OneNeed
one_need c u = (needs_only c u, λ h. subst (λ n. Needs wordy n u) (sym h.0) (subst (Needs wordy 2) (sym h.1) the_need))

-- only b is not free, and only while c remains
free_but_b : (remaining : List ℕ) (u : ℕ) → u ≢ 1 → IsFree wordy remaining u
free_but_b remaining u other d among need = other (needs_only d u need).1

no_two : Contains {X = ℕ} (1 ∷ []) 2 → ⊥
no_two (zero, h, e) = omega (arith, e)
no_two (suc k, h, e) = omega arith

no_zero : (d : ℕ) → d < 1 → Contains (1 ∷ []) d → ⊥
no_zero d lt (zero, h, e) = omega (arith, e)
no_zero d lt (suc k, h, e) = omega arith

earlier : (d : ℕ) → d < 2 → Contains (1 ∷ 2 ∷ []) d → IsFree wordy (1 ∷ 2 ∷ []) d → ⊥
earlier zero lt (zero, h, e) is_free = omega (arith, e)
earlier zero lt (suc zero, h, e) is_free = omega (arith, e)
earlier zero lt (suc (suc k), h, e) is_free = omega arith
earlier (suc zero) lt among is_free = is_free 2 (1, omega arith, refl) the_need
earlier (suc (suc d)) lt among is_free = omega arith

pub cause_comes_last : CauseComesLast
cause_comes_last = (
  (0, omega arith, refl),
  free_but_b (0 ∷ 1 ∷ 2 ∷ []) 0 (λ e. absurd (omega (arith, e))),
  λ d lt among is_free. absurd (omega arith),
  (
    (1, omega arith, refl),
    free_but_b (1 ∷ 2 ∷ []) 2 (λ e. absurd (omega (arith, e))),
    earlier,
    ((0, omega arith, refl), λ d among need. no_two (subst (Contains (1 ∷ [])) (needs_only d 1 need).0 among), λ d lt among is_free. no_zero d lt among, refl),
  ),
)
