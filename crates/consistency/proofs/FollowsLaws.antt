-- A formula follows exactly where no solution of the rules meets the clauses that deny it.
use Rattle.cca_base.specs.Sets.{has}
use Rattle.clause_form.specs.declared.clause.Literal.{Literal}
use Rattle.clause_form.specs.Clauses.{all_met, is_met, is_true, meets}
use Rattle.std.proofs.lemmas.List.{take_more, take-append-drop}
use Rattle.std.proofs.lemmas.List.Folds.{list_all-append, list_any-append}
use Rattle.std.proofs.lemmas.List.Sums.{AllPass-from_list_all, list_all-from_AllPass}
use Rattle.world_search.proofs.ClauseLaws.{none_common}
use Rattle.std.proofs.Common.{◌≡◌, ◌+◌, ◌<◌, ◌||◌, ℕ, Bool, true, false, not, List, [], ◌∷◌, ◌++◌, length, take, drop, bit_and, slice_index, slice_index_or, None, Some, All, inl, inr, refl, sym, ap, subst, ◌∙◌}
use Rattle.std.proofs.lemmas.Bool.{and_parts, both_ways, cases_Bool}
use Rattle.std.proofs.lemmas.List.Elements.{All-append, All-nil}
use Rattle.std.specs.List.{slice_get}
use Rattle.cca_base.specs.declared.cube.Pair.{Pair}
use Rattle.cca_base.specs.declared.formula.Formula.{Formula}
use Rattle.cca_base.specs.PlantModel.{PlantModel}
use Rattle.cca_base.specs.Formula.{truth}
use Rattle.cca_base.specs.Model.{HasMode}
use Rattle.cca_base.specs.State.{Follows, HasValue}
use Rattle.clause_form.specs.declared.clause.Clause.{Clause}
use Rattle.clause_form.specs.declared.clause.Clauses.{Clauses}
use Rattle.clause_form.specs.Formulas.{AreDenying}
use Rattle.clause_form.proofs.ModelSizes.{state_values}
use Rattle.clash_analysis.specs.declared.subjects.SubjectSet.{SubjectSet}
use Rattle.list_laws.proofs.Members.{contains_none}
use Rattle.world_search.specs.declared.answer.Answer.TheVariants.{Agrees, Clash}
use Rattle.consistency.specs.Base.{IsBase}
use Rattle.consistency.specs.Found.{FitsSeen}
use Rattle.world_search.specs.Worlds.{IsAnswer, IsSolution}
use Rattle.consistency.specs.Worlds.{AreWorldsOf}
use Rattle.consistency.proofs.Bridge.{fits_solution, parts_fit, world_values}

-- with a literal more that is false, none is true yet
pub one_more_out : (xs : List ℕ) (literals : List Literal) (i : ℕ) (l : Literal) → i < length literals → l ≡ slice_index_or literals i l → (left : ℕ) → has left (slice_index xs l.subject) ≡ true → bit_and left l.values ≡ 0
    → is_met xs (take i literals) ≡ false → is_met xs (take (i + 1) literals) ≡ false
one_more_out xs literals i l h is left among none before =
    let here : is_true xs l ≡ false = none_common left l.values none (slice_index xs l.subject) among in
    ap (is_met xs) (take_more literals i l h ∙ ap (λ (x : Literal). take i literals ++ x ∷ []) (sym is)) ∙ list_any-append (is_true xs) (take i literals) (l ∷ [])
    ∙ ap (λ b. b || (is_true xs l || false)) before ∙ ap (λ b. b || false) here

denied_false : (b : Bool) → not b ≡ true → b ≡ false
denied_false true e = sym e
denied_false false e = refl

-- clauses of the rules, a formula's denial, and what each subject may be where components have the modes
pub record IsPosed (m : PlantModel) (modes : List Pair) (f : Formula) (rules denied : Clauses) (base : List ℕ) : Type 0 where
  pub of : AreWorldsOf m rules
  pub denying : AreDenying m f denied
  pub sets : IsBase rules.sizes (length m.components) modes [] base
  pub modes_in : All (λ p. HasMode m p.item p.value) modes

-- so it is where the clauses, the pairs and the sets are others by equations
pub posed : (m : PlantModel) (modes pairs : List Pair) (f : Formula) (rules worlds denied clauses : Clauses) (base sets items : List ℕ) → rules ≡ worlds → AreWorldsOf m worlds
    → denied ≡ clauses → AreDenying m f clauses → base ≡ sets → sets ≡ items → IsBase rules.sizes (length m.components) pairs [] items → pairs ≡ modes
    → All (λ p. HasMode m p.item p.value) modes → IsPosed m modes f rules denied base
posed m modes pairs f rules worlds denied clauses base sets items same of is denying at there b own modes_in = record {
  of = subst (AreWorldsOf m) (sym same) of;
  denying = subst (AreDenying m f) (sym is) denying;
  sets = subst (IsBase rules.sizes (length m.components) modes []) (sym (at ∙ there)) (subst (λ (ps : List Pair). IsBase rules.sizes (length m.components) ps [] items) own b);
  modes_in = modes_in;
}

module _ (m : PlantModel) (modes : List Pair) (f : Formula) (rules denied : Clauses) (base : List ℕ) (h : IsPosed m modes f rules denied base) where
  no_values : All (λ (p : Pair). HasValue m p.item p.value) []
  no_values = All-nil (λ (p : Pair). HasValue m p.item p.value)

  -- where no solution of the rules meets the denial's clauses, the formula follows
  pub refuted_follows : (clauses : List Clause) → clauses ≡ denied.clauses → ((xs : List ℕ) → IsSolution rules.clauses base xs → all_met xs clauses ≡ false) → Follows m modes f
  refuted_follows clauses same out s state extends w world =
      let fits : FitsSeen m modes [] s w = record { state = state; extends = extends; world = world; agrees = All-nil (λ p. slice_get w p.item ≡ Some p.value) } in
      let solution = fits_solution m modes [] None rules base h.of h.sets h.modes_in no_values s w state.full (record { fits = fits; denies = refl }) in
      shown (truth s w f) (sym (h.denying.meaning s w (state_values m s state) (world_values m s w world)) ∙ (ap (all_met (s ++ w)) (sym same) ∙ out (s ++ w) solution)) where
        shown : (b : Bool) → not b ≡ false → b ≡ true
        shown true e = refl
        shown false e = sym e

  -- where no solution of the rules meets the denial besides, the formula follows
  pub clash_follows : (world : List ℕ) (set : SubjectSet) → IsAnswer (rules.clauses ++ denied.clauses) base world [] (Clash set) → Follows m modes f
  clash_follows world set none = refuted_follows denied.clauses refl (λ xs solution. elim (cases_Bool (all_met xs denied.clauses)) [
    | inl met ↦ absurd (none xs (record {
      full = solution.full;
      within = solution.within;
      met = All-append (λ (c : Clause). meets xs c ≡ true) rules.clauses denied.clauses solution.met (AllPass-from_list_all (meets xs) denied.clauses met);
    }) (λ p among blamed. absurd (contains_none p among)))
    | inr out ↦ out
  ])

  -- a solution of the rules that meets the denial besides is a world in which the formula is false
  pub countered : (world : List ℕ) → IsAnswer (rules.clauses ++ denied.clauses) base world [] Agrees → Follows m modes f → ⊥
  countered world (solution, having) follows =
      let n = length m.components in
      let all : all_met world (rules.clauses ++ denied.clauses) ≡ true = list_all-from_AllPass (meets world) (rules.clauses ++ denied.clauses) solution.met in
      let both = and_parts (all_met world rules.clauses) (all_met world denied.clauses) (sym (list_all-append (meets world) rules.clauses denied.clauses) ∙ all) in
      let of_rules : IsSolution rules.clauses base world = record { full = solution.full; within = solution.within; met = AllPass-from_list_all (meets world) rules.clauses both.0 } in
      let fits = parts_fit m modes [] rules base h.of h.sets h.modes_in no_values world of_rules in
      let denies : not (truth (take n world) (drop n world) f) ≡ true =
      sym (h.denying.meaning (take n world) (drop n world) (state_values m (take n world) fits.state) (world_values m (take n world) (drop n world) fits.world))
      ∙ (ap (λ (xs : List ℕ). all_met xs denied.clauses) (take-append-drop n world) ∙ both.1) in
      both_ways (truth (take n world) (drop n world) f) (denied_false (truth (take n world) (drop n world) f) denies) (follows (take n world) fits.state fits.extends (drop n world) fits.world)
