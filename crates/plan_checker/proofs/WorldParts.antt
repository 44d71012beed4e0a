-- A world is values that keep the rules, and what a tick sees is what stands in a list.
use Rattle.std.proofs.Common.{◌≡◌, ℕ, true, false, IsTrue, List, length, slice_get, Some, sym, subst, ◌∙◌}
use Rattle.std.proofs.lemmas.List.{length-map}
use Rattle.std.proofs.lemmas.List.Elements.{All-contains}
use Rattle.list_laws.proofs.Members.{all_from}
use Rattle.cca_base.specs.declared.cube.Pair.{Pair}
use Rattle.cca_base.specs.declared.formula.Formula.{Formula}
use Rattle.cca_base.specs.PlantModel.{PlantModel}
use Rattle.cca_base.specs.Formula.{is_within}
use Rattle.cca_base.specs.Model.{IsFormula, mode_counts, value_counts}
use Rattle.cca_base.specs.State.{IsState, IsWorld, Extends}
use Rattle.cca_base.specs.Trace.{ExecutiveState, Observed}
use Rattle.cca_base.proofs.Within.{fits_within}
use Rattle.plan_checker.specs.Reasons.{ExplainsTick}
use Rattle.plan_checker.specs.Worlds.{AreValues, AreSeen}

module _ (m : PlantModel) (x : ExecutiveState) where
  pub observed_seen : (seen : List Pair) → x.holding ≡ false → Observed m x seen → AreSeen m x seen
  observed_seen seen going observed = record {
    each = λ p. ((λ among. (going, (observed.each p).0 among)), (λ sees. (observed.each p).1 sees.1));
    observed = λ _. observed;
  }

  module _ (s w : List ℕ) (seen : List Pair) (are : AreSeen m x seen) where
    pub explains : IsWorld m s w → Extends w seen → ExplainsTick m x s w
    explains world extends = record {
      world = world;
      agrees = λ p sees. All-contains (λ q. slice_get w q.item ≡ Some q.value) seen p extends ((are.each p).1 sees);
    }

    pub agrees : ExplainsTick m x s w → Extends w seen
    agrees h = all_from (λ p. slice_get w p.item ≡ Some p.value) seen (λ p among. h.agrees p ((are.each p).0 among))

-- a rule can be tried at a state and at values
pub rule_within : (m : PlantModel) (s w : List ℕ) (f : Formula) → IsFormula m f → IsState m s → AreValues m w → IsTrue (is_within (length s) (length w) f)
rule_within m s w f h state values =
    let modes : length (mode_counts m) ≡ length s = length-map m.components (λ c. length c.modes) ∙ sym state.full in
    let counts : length (value_counts m) ≡ length w = length-map m.variables (λ v. length v.values) ∙ sym values.full in
    subst (λ n. is_within n (length w) f ≡ true) modes (subst (λ n. is_within (length (mode_counts m)) n f ≡ true) counts (fits_within (mode_counts m) (value_counts m) f h.fits))
