-- The first solution is the first state with its first world.
use Rattle.std.proofs.Common.{◌≡◌, ℕ, ◌≤◌, ◌++◌, List, Option, None, length, take, drop, All, sym, ap, subst, ◌∙◌, arith}
use Rattle.std.proofs.lemmas.List.{length-take-le, take-append-drop}
use Rattle.cca_base.specs.declared.cube.Pair.{Pair}
use Rattle.cca_base.specs.declared.formula.Formula.{Formula}
use Rattle.cca_base.specs.PlantModel.{PlantModel}
use Rattle.cca_base.specs.Model.{HasMode}
use Rattle.cca_base.specs.State.{HasValue}
use Rattle.clause_form.specs.declared.clause.Clauses.{Clauses}
use Rattle.clause_form.specs.Formulas.{AreClausesOf}
use Rattle.consistency.specs.Base.{IsBase}
use Rattle.world_search.specs.Worlds.{IsSolution}
use Rattle.consistency.specs.Search.{IsFirst}
use Rattle.consistency.specs.Found.{FitsAndDenies, IsFirstOf}
use Rattle.clause_form.proofs.ModelSizes.{subjects_counted}
use Rattle.consistency.proofs.Bridge.{solution_fits, fits_solution}
use Rattle.consistency.proofs.Orders.{earlier_front, earlier_behind, first_not_after}

module _ (m : PlantModel) (modes seen : List Pair) (denied : Option Formula) (c : Clauses) (components : ℕ) (base : List ℕ)
    (of : AreClausesOf m None denied c) (n : components ≡ length m.components) (b : IsBase c.sizes components modes seen base)
    (modes_in : All (λ p. HasMode m p.item p.value) modes) (seen_in : All (λ p. HasValue m p.item p.value) seen) where
  b' : IsBase c.sizes (length m.components) modes seen base
  b' = subst (λ k. IsBase c.sizes k modes seen base) n b

  to_fit : (s w : List ℕ) → length s ≡ length m.components → IsSolution c.clauses base (s ++ w) → FitsAndDenies m modes seen denied s w
  to_fit s w e h = solution_fits m modes seen denied c base of b' modes_in seen_in s w e h

  to_solution : (s w : List ℕ) → FitsAndDenies m modes seen denied s w → IsSolution c.clauses base (s ++ w)
  to_solution s w h = fits_solution m modes seen denied c base of b' modes_in seen_in s w h.fits.state.full h

  pub none_fits : ((xs : List ℕ) → IsSolution c.clauses base xs → ⊥) → (s w : List ℕ) → FitsAndDenies m modes seen denied s w → ⊥
  none_fits none s w h = none (s ++ w) (to_solution s w h)

  first_at : (s w : List ℕ) → length s ≡ length m.components → IsFirst c.clauses base (s ++ w) → IsFirstOf (FitsAndDenies m modes seen denied) s w
  first_at s w e h = record {
    is_one = to_fit s w e h.solution;
    states = λ s2 w2 fit earlier. first_not_after (s ++ w) (s2 ++ w2) (h.first (s2 ++ w2) (to_solution s2 w2 fit)) (earlier_front s2 w2 s w (fit.fits.state.full ∙ sym e) earlier);
    worlds = λ w2 fit earlier. first_not_after (s ++ w) (s ++ w2) (h.first (s ++ w2) (to_solution s w2 fit)) (earlier_behind s w2 w earlier);
  }

  -- there are enough values for the components
  enough : (xs : List ℕ) → IsSolution c.clauses base xs → components ≤ length xs
  enough xs h =
      let full = h.full in
      let b_full = b.full in
      omega (arith, full, b_full, ap (λ (s : List ℕ). length s) of.sizes, subjects_counted m, n)

  pub first_split : (xs values s w : List ℕ) → values ≡ xs → s ≡ take components values → w ≡ drop components values → IsFirst c.clauses base xs → IsFirstOf (FitsAndDenies m modes seen denied) s w
  first_split xs values s w v front rest h =
      let much = enough xs h.solution in
      let e : length (take components values) ≡ length m.components = length-take-le components values (subst (λ (l : List ℕ). components ≤ length l) (sym v) much) ∙ n in
      let whole : take components values ++ drop components values ≡ xs = take-append-drop components values ∙ v in
      subst (λ (s : List ℕ). IsFirstOf (FitsAndDenies m modes seen denied) s w) (sym front)
      (subst (λ (w : List ℕ). IsFirstOf (FitsAndDenies m modes seen denied) (take components values) w) (sym rest)
      (first_at (take components values) (drop components values) e (subst (IsFirst c.clauses base) (sym whole) h)))
