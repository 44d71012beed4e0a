-- A prime implicant of a step's move stands on modes that are not broken.
use Rattle.std.proofs.Common.{◌≡◌, ◌<◌, ◌≢◌, ◌==◌, ◌&&◌, ℕ, Bool, true, false, not, List, ◌∷◌, slice_get, Some, Contains, filter, refl, sym, ap, subst, ◌∙◌, inl, inr}
use Rattle.std.proofs.lemmas.Bool.{cases_eq, both_ways, eq-eqb, ne_eqb, not-true, not_from_false, and_parts, and_from}
use Rattle.std.proofs.lemmas.List.Elements.{All-contains}
use Rattle.std.proofs.lemmas.Option.{slice_get_within, same_Some}
use Rattle.std.proofs.lemmas.List.Kept.{AllPairs-filter}
use Rattle.list_laws.proofs.Places.{value_at}
use Rattle.list_laws.proofs.Members.{all_from, contains_cases, contains_here, contains_there, to_filter, from_filter}
use Rattle.cca_base.specs.declared.cube.Pair.{Pair}
use Rattle.cca_base.specs.PlantModel.{PlantModel}
use Rattle.cca_base.specs.Model.{HasMode, is_broken}
use Rattle.cca_base.specs.Implicants.{source_pair}
use Rattle.cca_base.specs.Repairs.{pairs_of, sound_pairs}
use Rattle.cca_base.specs.Steps.{support}
use Rattle.reach_laws.specs.Laws.{EachStepIsReady}
use Rattle.cca_base.proofs.Members.{stands_in}
use Rattle.cca_laws.proofs.Minimal.{Candidate, minimal_part, pairs_rise}

-- the pairs of a state that a step of c may lean on, but for those of c
abbrev sound_others : PlantModel → List ℕ → ℕ → List Pair
sound_others m s c = filter (λ p. not (p.item == c) && not (is_broken m.moves p.item p.value)) (pairs_of s)

pub steps_are_ready : EachStepIsReady
steps_are_ready m s t k state step =
    let c : ℕ = step.move.component in
    let sound : Pair → Bool = λ p. not (is_broken m.moves p.item p.value) in
    let test : Pair → Bool = λ p. not (p.item == c) && not (is_broken m.moves p.item p.value) in
    let cube : List Pair = sound_others m s c in
    let own : Pair = source_pair step.move in
    let told : (p : Pair) → Contains cube p → (p.item ≢ c) × (is_broken m.moves p.item p.value ≡ false) × (slice_get s p.item ≡ Some p.value) =
    λ p among. (let found = from_filter test (pairs_of s) p among in
    let parts = and_parts (not (p.item == c)) (not (is_broken m.moves p.item p.value)) found.0 in
    (λ e. both_ways (p.item == c) (not-true (p.item == c) parts.0) (eq-eqb p.item c e), not-true (is_broken m.moves p.item p.value) parts.1, stands_in s p found.1)) in
    let candidate : Candidate m step.move cube = record {
      rises = AllPairs-filter (λ a b. a.item < b.item) test (pairs_of s) (pairs_rise 0 s);
      modes = λ p among.
          let here = (told p among).2 in
          subst (HasMode m p.item) (value_at s p.item p.value here)
          (state.modes p.item (subst (λ n. p.item < n) state.full (slice_get_within s p.item p.value here)));
      others = λ p among. (told p among).0;
      suffices = λ u there extends. step.guard u there (all_from (λ p. slice_get u p.item ≡ Some p.value) (support m s step.move) (λ p among.
          let Has : Pair → Type 0 = λ q. slice_get u q.item ≡ Some q.value in
          elim (contains_cases own p (sound_pairs m s) among) [
            | inl e ↦ All-contains Has (own ∷ cube) p extends (contains_here own p cube e)
            | inr later ↦
                let found = from_filter sound (pairs_of s) p later in
                elim (cases_eq p.item c) [
                  | inl e ↦
                      let value : step.move.source ≡ p.value = same_Some step.move.source p.value
                      (sym step.source ∙ subst (λ d. slice_get s d ≡ Some p.value) e (stands_in s p found.1)) in
                      subst (λ d. slice_get u d ≡ Some p.value) (sym e)
                      (All-contains Has (own ∷ cube) own extends (contains_here own own cube refl) ∙ ap (λ v. Some v) value)
                  | inr ne ↦
                      let passes : test p ≡ true = and_from (not (p.item == c)) (not (is_broken m.moves p.item p.value)) (not_from_false (p.item == c) (ne_eqb p.item c ne)) found.0 in
                      All-contains Has (own ∷ cube) p extends (contains_there own p cube (to_filter test (pairs_of s) p passes found.1))
                ]
          ]));
    } in
    let found = minimal_part m step.move cube candidate in
    record {
      cube = found.0;
      prime = found.1;
      stands = all_from (λ p. (slice_get s p.item ≡ Some p.value) × (is_broken m.moves p.item p.value ≡ false)) found.0
          (λ p among. let h = told p (found.2 p among) in (h.2, h.1));
    }
