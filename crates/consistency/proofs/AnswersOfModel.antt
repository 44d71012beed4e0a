-- What an answer of the clauses' solutions says of states with worlds.
use Rattle.std.proofs.Common.{◌≡◌, ◌+◌, ◌<◌, ◌++◌, ℕ, List, [], length, slice_index, take, drop, All, Option, Some, None, sym, ap, subst, ◌∙◌, arith}
use Rattle.std.specs.List.{slice_get}
use Rattle.std.proofs.lemmas.List.{length-take-le, take-append-drop}
use Rattle.std.proofs.lemmas.List.Elements.{All-contains, All-nil}
use Rattle.list_laws.proofs.Places.{value_at, get_at}
use Rattle.list_laws.proofs.Members.{all_from, to_filter}
use Rattle.cca_base.specs.declared.cube.Pair.{Pair}
use Rattle.cca_base.specs.declared.formula.Formula.{Formula}
use Rattle.cca_base.specs.PlantModel.{PlantModel}
use Rattle.cca_base.specs.Model.{HasMode}
use Rattle.cca_base.specs.State.{Extends, HasValue}
use Rattle.cca_base.proofs.Within.{mode_within}
use Rattle.clause_form.specs.declared.clause.Clauses.{Clauses}
use Rattle.clause_form.specs.Formulas.{AreClausesOf}
use Rattle.clause_form.proofs.ModelSizes.{subjects_counted}
use Rattle.clash_analysis.specs.Subjects.{is_in}
use Rattle.world_search.specs.declared.answer.Answer.{Answer}
use Rattle.world_search.specs.declared.answer.Answer.TheVariants.{Agrees, Clash}
use Rattle.world_search.specs.Worlds.{HasAll, IsAnswer, IsSolution}
use Rattle.consistency.specs.Base.{IsBase}
use Rattle.consistency.specs.Cores.{IsFitting, pairs_in}
use Rattle.consistency.proofs.Bridge.{at_mode, fits_solution, solution_fits}

module _ (m : PlantModel) (modes seen : List Pair) (denied : Option Formula) (c : Clauses) (base : List ℕ)
    (of : AreClausesOf m None denied c) (b : IsBase c.sizes (length m.components) [] seen base)
    (modes_in : All (λ p. HasMode m p.item p.value) modes) (seen_in : All (λ p. HasValue m p.item p.value) seen) where
  abbrev n : ℕ
  n = length m.components

  no_modes : All (λ (p : Pair). HasMode m p.item p.value) []
  no_modes = All-nil (λ (p : Pair). HasMode m p.item p.value)

  -- a solution with all pairs has a state that extends them
  extends_all : (xs : List ℕ) → n + length m.variables ≡ length xs → HasAll modes xs → Extends (take n xs) modes
  extends_all xs counted having = all_from (λ p. slice_get (take n xs) p.item ≡ Some p.value) modes (λ p among.
      let inside : p.item < n = mode_within m p.item p.value (All-contains (λ (q : Pair). HasMode m q.item q.value) modes p modes_in among) in
      let e : length (take n xs) ≡ n = length-take-le n xs (omega (arith, counted)) in
      let here : p.item < length (take n xs) = omega (arith, e, inside) in
      get_at (take n xs) p.item p.value here (sym (at_mode m (take n xs) (drop n xs) p.item here) ∙ ap (λ (ys : List ℕ). slice_index ys p.item) (take-append-drop n xs) ∙ having p among))

  -- an answer over what is seen
  pub answer_fits : (world : List ℕ) (answer : Answer) → IsAnswer c.clauses base world modes answer → IsFitting m modes seen denied answer
  answer_fits world Agrees (solution, having) =
      let full = solution.full in
      let counted : n + length m.variables ≡ length world = sym (full ∙ b.full ∙ ap length of.sizes ∙ subjects_counted m) in
      let e : length (take n world) ≡ n = length-take-le n world (omega (arith, counted)) in
      let fits = solution_fits m [] seen denied c base of b no_modes seen_in (take n world) (drop n world) e (subst (IsSolution c.clauses base) (sym (take-append-drop n world)) solution) in (
        take n world,
        drop n world,
        record {
          fits = record { state = fits.fits.state; extends = extends_all world counted having; world = fits.fits.world; agrees = fits.fits.agrees };
          denies = fits.denies;
        },
      )
  answer_fits world (Clash set) none = λ s w fits.
      let full = fits.fits.state.full in
      let solution = fits_solution m [] seen denied c base of b no_modes seen_in s w full (record {
        fits = record { state = fits.fits.state; extends = All-nil (λ (p : Pair). slice_get s p.item ≡ Some p.value); world = fits.fits.world; agrees = fits.fits.agrees };
        denies = fits.denies;
      }) in
      none (s ++ w) solution (λ p among blamed.
      let stands : slice_get s p.item ≡ Some p.value = All-contains (λ (q : Pair). slice_get s q.item ≡ Some q.value) (pairs_in set modes) p fits.fits.extends (to_filter (λ (q : Pair). is_in set q.item) modes p blamed among) in
      let inside : p.item < n = mode_within m p.item p.value (All-contains (λ (q : Pair). HasMode m q.item q.value) modes p modes_in among) in
      at_mode m s w p.item (omega (arith, full, inside)) ∙ value_at s p.item p.value stands)
