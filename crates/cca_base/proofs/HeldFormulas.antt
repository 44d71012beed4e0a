-- A formula holds in a state exactly where it follows from the state's pairs.
use Rattle.std.proofs.Common.{◌≡◌, true, ℕ, List, length, IsTrue, sym, subst, ◌∙◌}
use Rattle.std.proofs.lemmas.List.{length-map}
use Rattle.cca_base.specs.declared.formula.Formula.{Formula}
use Rattle.cca_base.specs.Formula.{is_within}
use Rattle.cca_base.specs.Model.{IsFormula, mode_counts, value_counts}
use Rattle.cca_base.specs.PlantModel.{PlantModel}
use Rattle.cca_base.specs.Repairs.{pairs_of}
use Rattle.cca_base.specs.State.{IsState, Follows, Holds}
use Rattle.cca_base.proofs.StateLaws.{same_state}
use Rattle.cca_base.proofs.StatePairs.{extends_own}
use Rattle.cca_base.proofs.Within.{fits_within}

pub formula_within : (m : PlantModel) (f : Formula) → IsFormula m f → IsTrue (is_within (length m.components) (length m.variables) f)
formula_within m f of =
    subst (λ n. is_within n (length m.variables) f ≡ true) (length-map m.components (λ c. length c.modes))
    (subst (λ n. is_within (length (mode_counts m)) n f ≡ true) (length-map m.variables (λ v. length v.values)) (fits_within (mode_counts m) (value_counts m) f of.fits))

pub follows_holds : (m : PlantModel) (s : List ℕ) (f : Formula) → IsState m s → Follows m (pairs_of s) f → Holds m s f
follows_holds m s f state follows = follows s state (extends_own s)

pub holds_follows : (m : PlantModel) (s : List ℕ) (f : Formula) → IsState m s → Holds m s f → Follows m (pairs_of s) f
holds_follows m s f state holds t is extends = subst (λ z. Holds m z f) (sym (same_state s t (is.full ∙ sym state.full) extends)) holds
