-- What successors of small models cost, by what each component's change costs.
use Rattle.std.proofs.Common.{◌≡◌, ◌≢◌, ◌<◌, ◌≤◌, ◌==◌, ◌↔◌, ◌&&◌, ◌||◌, not, ℕ, ◌+◌, ◌*◌, zero, suc, Bool, true, inl, inr, List, [], ◌∷◌, length, sum, Option, None, refl, sym, ap, subst, ◌∙◌, arith, eq-eqb}
use Rattle.std.specs.Prelude.{slice_index}
use Rattle.std.specs.List.{list_all}
use Rattle.std.proofs.lemmas.Bool.{false≢true, and_from}
use Rattle.std.proofs.lemmas.List.Elements.{All-contains}
use Rattle.std.proofs.lemmas.List.Sums.{AllPass-from_list_all}
use Rattle.std.proofs.lemmas.Option.{none-some}
use Rattle.list_laws.proofs.Tests.{either}
use Rattle.cca_base.specs.declared.model.Failure.{Failure}
use Rattle.cca_base.specs.PlantModel.{PlantModel}
use Rattle.cca_base.specs.State.{IsState}
use Rattle.cca_base.specs.Successors.{Costs, Nominal, ChangeCosts, HasFailure}
use Rattle.list_laws.proofs.Few.{below_two}

pub sum_two : (parts : List ℕ) → length parts ≡ 2 → sum parts ≡ slice_index parts 0 + slice_index parts 1
sum_two [] e = absurd (omega arith)
sum_two (x ∷ []) e = absurd (omega arith)
sum_two (x ∷ y ∷ []) e = omega arith
sum_two (x ∷ y ∷ z ∷ parts) e = absurd (omega arith)

-- ---- one component

-- to go to the nominal mode is free
pub nominal_costs : (m : PlantModel) (c from to x : ℕ) → ChangeCosts m c from to to x ↔ (x ≡ 0)
nominal_costs m c from to x = (λ h. elim h [ inl at ↦ at.1 | inr away ↦ absurd (away.0 refl) ], λ e. inl (refl, e))

-- to go to another mode costs what the cheapest failure costs
pub failure_costs : (m : PlantModel) (c from nominal to n : ℕ) → to ≢ nominal → HasFailure m c from to n → ((other : ℕ) → HasFailure m c from to other → n ≤ other)
    → (x : ℕ) → ChangeCosts m c from nominal to x ↔ (x ≡ n)
failure_costs m c from nominal to n away fails least x = (
  λ h. elim h [
    | inl at ↦ absurd (away at.0)
    | inr other ↦ omega (arith, least x other.1, other.2 n fails)
  ],
  λ e. inr (away, subst (HasFailure m c from to) (sym e) fails, λ other h. omega (arith, e, least other h)),
)

-- what a test says of the cost of each failure of a component from one mode to another
pub each_failure : (m : PlantModel) (test : ℕ → Bool) (c from to : ℕ) → list_all (λ f. not (f.component == c && (f.source == from && f.target == to)) || test f.cost) m.failures ≡ true
    → (cost : ℕ) → HasFailure m c from to cost → test cost ≡ true
each_failure m test c from to h cost fails =
    let passes : Failure → Bool = λ f. not (f.component == c && (f.source == from && f.target == to)) || test f.cost in
    let failure : Failure = record { component = c; source = from; target = to; cost = cost } in
    let same : (c == c && (from == from && to == to)) ≡ true = and_from (c == c) _ (eq-eqb c c refl) (and_from (from == from) (to == to) (eq-eqb from from refl) (eq-eqb to to refl)) in
    either (not (c == c && (from == from && to == to))) (test cost) (All-contains (λ f. passes f ≡ true) m.failures failure (AllPass-from_list_all passes m.failures h) fails)
    (λ no. absurd (false≢true (sym (ap not same) ∙ no))) (λ is. is)

-- each change from mode 0 costs its failure
change : (m : PlantModel) (c to cost n : ℕ) → to < 2 → ((k : ℕ) → HasFailure m c 0 1 k → k ≡ n) → ChangeCosts m c 0 0 to cost → cost ≡ n * to
change m c zero cost n h only x = elim x [ inl y ↦ omega (arith, y.1) | inr y ↦ absurd (y.0 refl) ]
change m c (suc zero) cost n h only x = elim x [ inl y ↦ absurd (omega (arith, y.0)) | inr y ↦ only cost y.1 ∙ omega arith ]
change m c (suc (suc to)) cost n h only x = absurd (omega arith)

-- ---- whole states

-- without a command nothing moves
pub unmoved : (m : PlantModel) (s nominal : List ℕ) → Nominal m s None nominal → nominal ≡ s
unmoved m s nominal h = elim h [ inl x ↦ absurd (none-some x.0.command x.1.command) | inr x ↦ x.1 ]

-- the part of a component that stood in mode 0, of which one failure at one cost leads to mode 1
pub part_from_start : (m : PlantModel) (s other : List ℕ) (more : ℕ) (h : Costs m s None other more) (c n : ℕ) → c < length other → slice_index s c ≡ 0 → slice_index other c < 2
    → ((k : ℕ) → HasFailure m c 0 1 k → k ≡ n) → slice_index h.parts c ≡ n * slice_index other c
part_from_start m s other more h c n within start below only =
    change m c (slice_index other c) (slice_index h.parts c) n below only
    (subst (λ from. ChangeCosts m c from from (slice_index other c) (slice_index h.parts c)) start
    (subst (λ (nominal : List ℕ). ChangeCosts m c (slice_index s c) (slice_index nominal c) (slice_index other c) (slice_index h.parts c)) (unmoved m s h.nominal h.is_nominal) (h.each c within)))

-- the cost of a state of two components, of which one nominal state is known
module _ (m : PlantModel) (k : Option ℕ) (s nominal to : List ℕ) (a b : ℕ) (state : IsState m to) (two : length to ≡ 2) where
  abbrev ChangeOf : List ℕ → ℕ → ℕ → Type 0
  ChangeOf n c x = ChangeCosts m c (slice_index s c) (slice_index n c) (slice_index to c) x

  pub costs_of_two : Nominal m s k nominal → ((n : List ℕ) → Nominal m s k n → n ≡ nominal) → ((x : ℕ) → ChangeOf nominal 0 x ↔ (x ≡ a)) → ((x : ℕ) → ChangeOf nominal 1 x ↔ (x ≡ b))
      → (cost : ℕ) → Costs m s k to cost ↔ (cost ≡ a + b)
  costs_of_two is_nominal one first second cost = (
    λ h.
        let e : h.nominal ≡ nominal = one h.nominal h.is_nominal in
        let x : slice_index h.parts 0 ≡ a = (first (slice_index h.parts 0)).0 (subst (λ (n : List ℕ). ChangeOf n 0 (slice_index h.parts 0)) e (h.each 0 (omega (arith, two)))) in
        let y : slice_index h.parts 1 ≡ b = (second (slice_index h.parts 1)).0 (subst (λ (n : List ℕ). ChangeOf n 1 (slice_index h.parts 1)) e (h.each 1 (omega (arith, two)))) in
        omega (arith, h.total, sum_two h.parts (h.full ∙ two), x, y),
    λ e. record {
      state = state;
      nominal = nominal;
      is_nominal = is_nominal;
      parts = a ∷ b ∷ [];
      full = sym two;
      each = λ c within. below_two (λ c. ChangeOf nominal c (slice_index (a ∷ b ∷ []) c)) ((first a).1 refl) ((second b).1 refl) c (omega (arith, within, two));
      total = e ∙ sym (sum_two (a ∷ b ∷ []) refl);
    },
  )
