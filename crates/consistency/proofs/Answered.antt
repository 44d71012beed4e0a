-- What fits and has a denied formula false, as what is asked of a caller's question.
use Rattle.std.proofs.Common.{◌≡◌, ℕ, Bool, true, false, not, List, [], Option, Some, None, Result, IfOk, IsNone, inl, inr, refl, sym, ap}
use Rattle.std.proofs.lemmas.Bool.{cases_Bool}
use Rattle.std.proofs.lemmas.List.Elements.{All-nil}
use Rattle.std.proofs.lemmas.Result.{IfOk-weaker}
use Rattle.std.specs.List.{slice_get}
use Rattle.cca_base.specs.declared.cube.Pair.{Pair}
use Rattle.cca_base.specs.declared.formula.Formula.{Formula}
use Rattle.cca_base.specs.PlantModel.{PlantModel}
use Rattle.cca_base.specs.Formula.{truth}
use Rattle.cca_base.specs.State.{Follows}
use Rattle.consistency.specs.declared.found.Found.{Found}
use Rattle.consistency.specs.Found.{FitsSeen, Counters, FitsAndDenies, IsFirstFound, IsFirstOf}

-- the first of what is the same
first_same : (P Q : List ℕ → List ℕ → Type 0) → ((s w : List ℕ) → P s w → Q s w) → ((s w : List ℕ) → Q s w → P s w) → (s w : List ℕ) → IsFirstOf P s w → IsFirstOf Q s w
first_same P Q to from s w h = record {
  is_one = to s w h.is_one;
  states = λ s2 w2 k. h.states s2 w2 (from s2 w2 k);
  worlds = λ w2 k. h.worlds w2 (from s w2 k);
}

found_same : (P Q : List ℕ → List ℕ → Type 0) → ((s w : List ℕ) → P s w → Q s w) → ((s w : List ℕ) → Q s w → P s w) → (o : Option Found) → IsFirstFound P o → IsFirstFound Q o
found_same P Q to from None none = λ s w q. none s w (from s w q)
found_same P Q to from (Some f) h = first_same P Q to from f.state.modes f.world.values h

module _ {E : Type 0} (m : PlantModel) (modes seen : List Pair) (r : Result (Option Found) E) where
  pub fits_found : IfOk r (IsFirstFound (FitsAndDenies m modes seen None)) → IfOk r (IsFirstFound (FitsSeen m modes seen))
  fits_found h = IfOk-weaker r _ _ (found_same (FitsAndDenies m modes seen None) (FitsSeen m modes seen) (λ s w x. x.fits) (λ s w x. record { fits = x; denies = refl })) h

module _ {E : Type 0} (m : PlantModel) (modes : List Pair) (formula : Formula) (r : Result (Option Found) E) where
  to_counter : (s w : List ℕ) → FitsAndDenies m modes [] (Some formula) s w → Counters m modes formula s w
  to_counter s w h = record { state = h.fits.state; extends = h.fits.extends; world = h.fits.world; is_false = falsified (truth s w formula) h.denies } where
    falsified : (b : Bool) → not b ≡ true → b ≡ false
    falsified true e = sym e
    falsified false e = refl

  from_counter : (s w : List ℕ) → Counters m modes formula s w → FitsAndDenies m modes [] (Some formula) s w
  from_counter s w h = record {
    fits = record { state = h.state; extends = h.extends; world = h.world; agrees = All-nil (λ p. slice_get w p.item ≡ Some p.value) };
    denies = ap not h.is_false;
  }

  pub counter_found : IfOk r (IsFirstFound (FitsAndDenies m modes [] (Some formula))) → IfOk r (IsFirstFound (Counters m modes formula))
  counter_found h = IfOk-weaker r _ _ (found_same (FitsAndDenies m modes [] (Some formula)) (Counters m modes formula) to_counter from_counter) h

  follows : (o : Option Found) → IsFirstFound (FitsAndDenies m modes [] (Some formula)) o → IsNone o → Follows m modes formula
  follows (Some f) first e = absurd (cc)
  follows None none e = λ s state extends w world. elim (cases_Bool (truth s w formula)) [
    | inl is ↦ is
    | inr no_truth ↦ absurd (none s w (from_counter s w (record { state = state; extends = extends; world = world; is_false = no_truth })))
  ]

  pub none_counters : IfOk r (IsFirstFound (FitsAndDenies m modes [] (Some formula))) → IfOk r (λ o. IsNone o → Follows m modes formula)
  none_counters h = IfOk-weaker r _ _ follows h
