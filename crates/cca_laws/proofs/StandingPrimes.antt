-- A guard holds in the source's states exactly where a prime implicant stands.
use Rattle.std.proofs.Common.{◌≡◌, ◌<◌, ◌≢◌, ◌==◌, ℕ, not, List, ◌∷◌, slice_get, Some, Contains, filter, refl, sym, ap, subst, ◌∙◌, inl, inr}
use Rattle.std.proofs.lemmas.Bool.{cases_eq, both_ways, eq-eqb, ne_eqb, not-true, not_from_false}
use Rattle.std.proofs.lemmas.List.Elements.{All-contains, All-cons, All-weaker}
use Rattle.std.proofs.lemmas.List.Kept.{AllPairs-filter}
use Rattle.std.proofs.lemmas.Option.{slice_get_within, get_or_from_slice_get, same_Some}
use Rattle.list_laws.proofs.Members.{all_from, contains_here, contains_there, to_filter, from_filter}
use Rattle.cca_base.specs.declared.cube.Pair.{Pair}
use Rattle.cca_base.specs.declared.model.Move.{Move}
use Rattle.cca_base.specs.PlantModel.{PlantModel}
use Rattle.cca_base.specs.Model.{HasMode}
use Rattle.cca_base.specs.Implicants.{PrimeImplicant, source_pair}
use Rattle.cca_base.specs.Repairs.{pairs_of}
use Rattle.cca_base.specs.State.{IsState, Holds, Extends}
use Rattle.cca_base.proofs.Members.{stands_in}
use Rattle.cca_base.proofs.StateLaws.{same_state}
use Rattle.cca_laws.specs.Conditions.{IsSufficient}
use Rattle.cca_laws.proofs.Minimal.{pairs_rise, prime_parts}

module _ (m : PlantModel) (s : List ℕ) (move : Move) (state : IsState m s) (source : slice_get s move.component ≡ Some move.source) where
  -- the pairs of the components that the move leaves as they are
  abbrev others : List Pair
  others = filter (λ p. not (p.item == move.component)) (pairs_of s)

  other : (p : Pair) → Contains others p → (p.item ≢ move.component) × (slice_get s p.item ≡ Some p.value)
  other p among =
      let found = from_filter (λ q. not (q.item == move.component)) (pairs_of s) p among in
      (λ e. both_ways (p.item == move.component) (not-true (p.item == move.component) found.0) (eq-eqb p.item move.component e), stands_in s p found.1)

  extends_all : (t : List ℕ) → Extends t (source_pair move ∷ others) → Extends t (pairs_of s)
  extends_all t extends =
      let own : Pair = source_pair move in
      let Has : Pair → Type 0 = λ q. slice_get t q.item ≡ Some q.value in
      all_from Has (pairs_of s) (λ p among. elim (cases_eq p.item move.component) [
        | inl e ↦
            let value : move.source ≡ p.value = same_Some move.source p.value (sym source ∙ subst (λ d. slice_get s d ≡ Some p.value) e (stands_in s p among)) in
            subst (λ d. slice_get t d ≡ Some p.value) (sym e)
            (All-contains Has (own ∷ others) own extends (contains_here own own others refl) ∙ ap (λ v. Some v) value)
        | inr ne ↦ All-contains Has (own ∷ others) p extends
            (contains_there own p others (to_filter (λ q. not (q.item == move.component)) (pairs_of s) p (not_from_false (p.item == move.component) (ne_eqb p.item move.component ne)) among))
      ])

  others_suffice : Holds m s move.guard → IsSufficient m move others
  others_suffice holds = record {
    rising = AllPairs-filter (λ a b. a.item < b.item) (λ p. not (p.item == move.component)) (pairs_of s) (pairs_rise 0 s);
    modes = all_from (λ p. HasMode m p.item p.value) others (λ p among.
        let here = (other p among).1 in
        subst (HasMode m p.item) (get_or_from_slice_get s p.item p.value 0 here)
        (state.modes p.item (subst (λ n. p.item < n) state.full (slice_get_within s p.item p.value here))));
    others = all_from (λ p. p.item ≢ move.component) others (λ p among. (other p among).0);
    suffices = λ t there extends. subst (λ x. Holds m x move.guard) (sym (same_state s t (there.full ∙ sym state.full) (extends_all t extends))) holds;
  }

  -- where the guard holds, one of the move's prime implicants stands
  pub holds_by_prime : Holds m s move.guard → (prime : List Pair) × PrimeImplicant m move prime × Extends s prime
  holds_by_prime holds =
      let found = prime_parts m move others (others_suffice holds) in
      (found.0, found.1, All-weaker (Contains others) (λ p. slice_get s p.item ≡ Some p.value) (λ p among. (other p among).1) found.0 found.2)

  -- and where one stands, the guard holds
  pub prime_holds : (prime : List Pair) → PrimeImplicant m move prime → Extends s prime → Holds m s move.guard
  prime_holds prime p extends = p.suffices s state (All-cons (λ q. slice_get s q.item ≡ Some q.value) (source_pair move) prime source extends)
