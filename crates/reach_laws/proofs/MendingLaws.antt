-- Mendings in a row are one, what isn't broken stays, and a repair's result is a mending.
use Rattle.std.proofs.Common.{◌≡◌, ◌<◌, ◌+◌, ℕ, Bool, true, false, not, List, length, slice_get, slice_index, Some, Contains, refl, sym, subst, ◌∙◌, inl, inr}
use Rattle.std.proofs.lemmas.Bool.{cases_eq, not-true}
use Rattle.std.proofs.lemmas.List.Elements.{All-contains}
use Rattle.std.proofs.lemmas.Option.{slice_get_within}
use Rattle.list_laws.proofs.Places.{value_at, get_at}
use Rattle.list_laws.proofs.Members.{all_from, contains_cases, contains_here, contains_there, to_filter, from_filter}
use Rattle.cca_base.specs.declared.cube.Pair.{Pair}
use Rattle.cca_base.specs.declared.model.Move.{Move}
use Rattle.cca_base.specs.PlantModel.{PlantModel}
use Rattle.cca_base.specs.Model.{is_broken, IsNext, IsInChain}
use Rattle.cca_base.specs.Implicants.{source_pair}
use Rattle.cca_base.specs.State.{Follows}
use Rattle.cca_base.specs.Repairs.{pairs_of, sound_pairs, Mending}
use Rattle.cca_base.specs.Steps.{support, Step}
use Rattle.cca_base.proofs.Members.{in_pairs, stands_in}
use Rattle.cca_base.proofs.NextModes.{repair_of, chain_one, chain_join, sound_chain}
use Rattle.reach_laws.proofs.Facts.{step_source, step_target, step_other, step_length}

module _ (m : PlantModel) where
  pub mending_join : (s u w : List ℕ) → Mending m s u → Mending m u w → Mending m s w
  mending_join s u w h g = record {
    full = g.full ∙ h.full;
    each = λ c within.
        let p = h.each c within in
        let q = g.each c (subst (λ n. c < n) (sym h.full) within) in
        (p.0 + q.0, chain_join m.moves c (slice_index s c) (slice_index u c) (slice_index w c) p.0 q.0 p.1 q.1);
  }

  -- what is not broken stands as it did
  keeps : (s u : List ℕ) → Mending m s u → (c x : ℕ) → slice_get s c ≡ Some x → is_broken m.moves c x ≡ false → slice_get u c ≡ Some x
  keeps s u h c x stands sound =
      let within : c < length s = slice_get_within s c x stands in
      let at : slice_index s c ≡ x = value_at s c x stands in
      let on = h.each c within in
      let same : slice_index u c ≡ slice_index s c =
      sym (sound_chain m.moves c (slice_index s c) (slice_index u c) on.0 on.1 (subst (λ y. is_broken m.moves c y ≡ false) (sym at) sound)) in
      get_at u c x (subst (λ n. c < n) (sym h.full) within) (same ∙ at)

  stays_sound : (s u : List ℕ) → Mending m s u → (p : Pair) → Contains (sound_pairs m s) p → Contains (sound_pairs m u) p
  stays_sound s u h p among =
      let test : Pair → Bool = λ q. not (is_broken m.moves q.item q.value) in
      let parts = from_filter test (pairs_of s) p among in
      to_filter test (pairs_of u) p parts.0
      (in_pairs u p (keeps s u h p.item p.value (stands_in s p parts.1) (not-true (is_broken m.moves p.item p.value) parts.0)))

  -- a guard that follows in a state follows in its mendings
  pub still_follows : (s u : List ℕ) → Mending m s u → (move : Move) → Follows m (support m s move) move.guard → Follows m (support m u move) move.guard
  still_follows s u h move follows x state extends =
      let own : Pair = source_pair move in
      let Has : Pair → Type 0 = λ p. slice_get x p.item ≡ Some p.value in
      follows x state (all_from Has (support m s move) (λ p among. elim (contains_cases own p (sound_pairs m s) among) [
        | inl e ↦ All-contains Has (support m u move) p extends (contains_here own p (sound_pairs m u) e)
        | inr there ↦ All-contains Has (support m u move) p extends (contains_there own p (sound_pairs m u) (stays_sound s u h p there))
      ]))

  module _ (s t : List ℕ) (k : ℕ) (step : Step m s k t) (repair : step.move.repair ≡ true) where
    -- a repair that is a step leads to the next mode
    pub step_mends : IsNext m.moves step.move.component (slice_index s step.move.component) step.move.target
    step_mends = record {
      repair = step.move;
      of_model = step.of_model;
      mends = repair_of step.move.component (slice_index s step.move.component) step.move repair refl (sym (step_source m s t k step));
      target = refl;
    }

    -- and its result is a mending
    pub repair_leads : Mending m s t
    repair_leads =
        let c : ℕ = step.move.component in
        record {
          full = step_length m s t k step;
          each = λ d within. elim (cases_eq d c) [
            | inl e ↦ subst (λ x. IsInChain m.moves x (slice_index s x) (slice_index t x)) (sym e)
                (subst (IsInChain m.moves c (slice_index s c)) (sym (step_target m s t k step)) (1, chain_one m.moves c (slice_index s c) step.move.target step_mends))
            | inr ne ↦ (0, sym (step_other m s t k step d ne))
          ];
        }
