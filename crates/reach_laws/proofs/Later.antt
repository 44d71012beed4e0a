-- How far components stand from the end of an order.
use Rattle.std.proofs.Common.{◌≡◌, ◌<◌, ◌≤◌, ◌==◌, ℕ, cond, List, [], ◌∷◌, length, sym, ap, subst, inl, inr, arith}
use Rattle.std.proofs.lemmas.Bool.{cases_eq, cond-true, cond-false, eq-eqb, ne_eqb}
use Rattle.cca_base.specs.declared.cube.Pair.{Pair}
use Rattle.cca_base.specs.PlantModel.{PlantModel}
use Rattle.cca_base.specs.Implicants.{Needs}
use Rattle.cca_base.specs.Orders.{AreInOrder}
use Rattle.reach_laws.proofs.Order.{Among, AreEffectsFirst}
use Rattle.reach_laws.proofs.Needed.{needed_among}

-- how many components stand after c in the order
abbrev pub later : List ℕ → ℕ → ℕ
later [] c = 0
later (d ∷ order) c = cond (d == c) (length order) (later order c)

later_here : (d : ℕ) (order : List ℕ) (c : ℕ) → c ≡ d → later (d ∷ order) c ≡ length order
later_here d order c e = cond-true (d == c) (length order) (later order c) (eq-eqb d c (sym e))

later_there : (d : ℕ) (order : List ℕ) (c : ℕ) → (c ≡ d → ⊥) → later (d ∷ order) c ≡ later order c
later_there d order c ne = cond-false (d == c) (length order) (later order c) (ne_eqb d c (λ e. ne (sym e)))

later_below : (order : List ℕ) (c : ℕ) → Among c order → later order c < length order
later_below [] c among = absurd among
later_below (d ∷ order) c among = elim (cases_eq c d) [
  | inl e ↦ omega (arith, later_here d order c e)
  | inr ne ↦ elim among [
    | inl e ↦ absurd (ne e)
    | inr there ↦ omega (arith, later_there d order c ne, later_below order c there)
  ]
]

-- what a component needs stands later
pub later_less : (m : PlantModel) (order : List ℕ) → AreEffectsFirst m order → (c u : ℕ) → Among c order → Needs m c u → later order u < later order c
later_less m [] first c u among needs = absurd among
later_less m (d ∷ order) first c u among needs = elim (cases_eq c d) [
  | inl e ↦
      let u_there : Among u order = first.0 u (subst (λ x. Needs m x u) e needs) in
      let apart : u ≡ d → ⊥ = λ same. first.1 (subst (λ x. Among x order) same u_there) in
      omega (arith, later_here d order c e, later_there d order u apart, later_below order u u_there)
  | inr ne ↦ elim among [
    | inl e ↦ absurd (ne e)
    | inr there ↦
        let u_there : Among u order = needed_among m order first.2 c u there needs in
        let apart : u ≡ d → ⊥ = λ same. first.1 (subst (λ x. Among x order) same u_there) in
        omega (arith, later_there d order c ne, later_there d order u apart, later_less m order first.2 c u there needs)
  ]
]

-- sorted pairs are no more than the components of the order
pub in_order_few : (order : List ℕ) (pairs : List Pair) → AreInOrder order pairs → length pairs ≤ length order
in_order_few [] pairs h = omega (arith, ap length h)
in_order_few (c ∷ order) pairs h = elim h [
  | inl there ↦ let few = in_order_few order pairs there in omega (arith, few)
  | inr first ↦ let few = in_order_few order first.1 first.3 in omega (arith, few, ap length first.2)
]
