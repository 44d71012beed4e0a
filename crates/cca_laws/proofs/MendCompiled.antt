-- The model with a reset is compiled: its needs, its order and its bounds.
use Rattle.std.proofs.Common.{◌≡◌, ℕ, zero, suc, inl, inr, List, [], ◌∷◌, Contains, refl, sym, ap, subst, arith}
use Rattle.list_laws.proofs.Members.{contains_cases, contains_here, contains_none}
use Rattle.cca_base.specs.declared.cube.Pair.{Pair}
use Rattle.cca_base.specs.declared.model.Move.{Move}
use Rattle.cca_base.specs.Accepted.{Accepted, AreWays, HasFewWays}
use Rattle.cca_base.specs.Bounds.{AreBounds, IsBound}
use Rattle.cca_base.specs.Implicants.{PrimeImplicant, Needs, IsAcyclic, Path}
use Rattle.cca_base.specs.Orders.{IsEffectsFirst, IsFree}
use Rattle.list_laws.proofs.Few.{five_at, below_two}
use Rattle.cca_laws.proofs.FreeMoves.{free_ways, free_lacks, free_needs_nothing}
use Rattle.cca_laws.specs.Examples.{always_true}
use Rattle.cca_laws.specs.MendExamples.{reset_move, z_move, ok_move, go_move, back_move, mending, c_is_z, MendingIsCompiled}
use Rattle.cca_laws.proofs.MendModel.{well_formed, used}
use Rattle.cca_laws.proofs.MendImplicants.{only_world, z_is_prime, only_z, back_ways, ways}

few : (move : Move) (cube : List Pair) → AreWays mending move (cube ∷ []) → HasFewWays mending move
few move cube h = (cube ∷ [], λ other. (h.each other).1, omega arith)

c_needs_nothing : (u : ℕ) → Needs mending 0 u → ⊥
c_needs_nothing = free_needs_nothing mending 0
    (five_at (λ (move : Move). move.component ≡ 0 → move.guard ≡ always_true) reset_move z_move ok_move go_move back_move (λ e. refl) (λ e. refl) (λ e. refl) (λ e. refl)
    (λ e. absurd (omega (arith, e))))

b_needs_c : Needs mending 1 0
b_needs_c = record { move = back_move; of_model = (4, omega arith, refl); own = refl; cube = c_is_z ∷ []; prime = z_is_prime; mode = 2; occurs = (0, omega arith, refl) }

needs_at : (c u : ℕ) → (h : Needs mending (suc c) u) → Contains mending.moves h.move → (0 ≡ c) × (0 ≡ u)
needs_at c u h (zero, lt, e) = absurd (omega (arith, ap (λ (y : Move). y.component) e, h.own))
needs_at c u h (suc zero, lt, e) = absurd (omega (arith, ap (λ (y : Move). y.component) e, h.own))
needs_at c u h (suc (suc zero), lt, e) = absurd (omega (arith, ap (λ (y : Move). y.component) e, h.own))
needs_at c u h (suc (suc (suc zero)), lt, e) =
    absurd (free_lacks mending h.move (ap (λ (y : Move). y.guard) (sym e)) h.cube h.prime (record { item = u; value = h.mode }) h.occurs)
needs_at c u h (suc (suc (suc (suc zero))), lt, e) =
    let p : Pair = record { item = u; value = h.mode } in
    let only : c_is_z ∷ [] ≡ h.cube = only_z h.cube (subst (λ (y : Move). PrimeImplicant mending y h.cube) (sym e) h.prime) in (
      omega (arith, ap (λ (y : Move). y.component) e, h.own),
      elim (contains_cases c_is_z p [] (subst (λ l. Contains l p) (sym only) h.occurs)) [ inl same ↦ ap (λ (q : Pair). q.item) same | inr none ↦ absurd (contains_none p none) ],
    )
needs_at c u h (suc (suc (suc (suc (suc k)))), lt, e) = absurd (omega arith)

-- b needs c, and that is all
needs_only : (c u : ℕ) → Needs mending c u → (1 ≡ c) × (0 ≡ u)
needs_only zero u h = absurd (c_needs_nothing u h)
needs_only (suc c) u h = let found = needs_at c u h h.of_model in (ap suc found.0, found.1)

none_from_c : (between : List ℕ) (c u : ℕ) → 0 ≡ c → Path mending c between u → ⊥
none_from_c [] c u e h = omega (arith, e, (needs_only c u h).0)
none_from_c (d ∷ between) c u e h = omega (arith, e, (needs_only c d h.0).0)

acyclic : IsAcyclic mending
acyclic c ([], h) = omega (arith, (needs_only c c h).0, (needs_only c c h).1)
acyclic c (d ∷ between, h) = none_from_c between d c (needs_only c d h.0).1 h.1

free_but_c : (remaining : List ℕ) (u : ℕ) → (0 ≡ u → ⊥) → IsFree mending remaining u
free_but_c remaining u other d among need = other (needs_only d u need).1

order : IsEffectsFirst mending (1 ∷ 0 ∷ [])
order = (
  (1, omega arith, refl),
  free_but_c (0 ∷ 1 ∷ []) 1 (λ e. omega (arith, e)),
  λ d lt among is_free. is_free 1 (1, omega arith, refl) (subst (Needs mending 1) (omega arith) b_needs_c),
  (
    (0, omega arith, refl),
    λ d among need. elim (contains_cases 0 d [] among) [ inl e ↦ omega (arith, e, (needs_only d 0 need).0) | inr none ↦ contains_none d none ],
    λ d lt among is_free. absurd (omega arith),
    refl,
  ),
)

bound_of_c : IsBound mending (2 ∷ 3 ∷ []) 0
bound_of_c = record {
  needs = [];
  are_needs = record { rising = λ i j d lt h. absurd (omega arith); each = λ u. (λ among. absurd (contains_none u among), λ need. absurd (c_needs_nothing u need)) };
  equation = refl;
}

bound_of_b : IsBound mending (2 ∷ 3 ∷ []) 1
bound_of_b = record {
  needs = 0 ∷ [];
  are_needs = record {
    rising = λ i j d lt h. absurd (omega arith);
    each = λ u. (
      λ among. elim (contains_cases 0 u [] among) [ inl e ↦ subst (Needs mending 1) e b_needs_c | inr none ↦ absurd (contains_none u none) ],
      λ need. contains_here 0 u [] (needs_only 1 u need).1,
    );
  };
  equation = refl;
}

bounds : AreBounds mending (2 ∷ 3 ∷ [])
bounds = record { full = refl; each = below_two (IsBound mending (2 ∷ 3 ∷ [])) bound_of_c bound_of_b }

accepted : Accepted mending
accepted = record {
  well_formed = well_formed;
  complete = used;
  worlds = λ s state. ([], only_world s);
  few_ways = five_at (HasFewWays mending) reset_move z_move ok_move go_move back_move (few reset_move [] (free_ways mending reset_move refl))
      (few z_move [] (free_ways mending z_move refl)) (few ok_move [] (free_ways mending ok_move refl)) (few go_move [] (free_ways mending go_move refl))
      (few back_move (c_is_z ∷ []) back_ways);
  acyclic = acyclic;
  bounded = (2 ∷ 3 ∷ [], bounds, omega arith);
}

pub mending_is_compiled : MendingIsCompiled
mending_is_compiled = record { accepted = accepted; ways_full = refl; ways = ways; order = order; bounds = bounds; sum_fits = omega arith }
