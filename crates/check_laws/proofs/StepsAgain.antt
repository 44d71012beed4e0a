-- A step is made again from a mending of where it began, or is a repair that is already made; and so are runs.
use Rattle.std.proofs.Common.{◌≡◌, ◌⊎◌, ◌<◌, ℕ, zero, suc, true, List, [], ◌∷◌, length, slice_index, slice_set, refl, sym, subst, ◌∙◌, inl, inr}
use Rattle.std.proofs.lemmas.Bool.{cases_eq}
use Rattle.std.proofs.lemmas.List.Elements.{All-contains}
use Rattle.list_laws.proofs.Places.{get_at}
use Rattle.cca_base.specs.PlantModel.{PlantModel}
use Rattle.cca_base.specs.Model.{RepairsFit, RepairChain, is_broken, IsNext, IsInChain}
use Rattle.cca_base.specs.Repairs.{Mending}
use Rattle.cca_base.specs.Steps.{Step}
use Rattle.cca_base.proofs.NextModes.{next_broken}
use Rattle.reach_laws.proofs.Facts.{step_within, step_source, step_target, step_other, step_length}
use Rattle.check_laws.specs.Laws.{MadeAgain, RunsAreMadeAgain}
use Rattle.reach_laws.proofs.MendingLaws.{still_follows, step_mends}

module _ (m : PlantModel) (fit : RepairsFit m.version m.moves) (s t u : List ℕ) (k : ℕ) (h : Mending m s u) (step : Step m s k t) where
  -- the components that the step leaves alone stand as they did
  others_mended : (w : List ℕ) → ((d : ℕ) → (d ≡ step.move.component → ⊥) → slice_index w d ≡ slice_index u d) → (d : ℕ) → d < length t → (d ≡ step.move.component → ⊥)
      → IsInChain m.moves d (slice_index t d) (slice_index w d)
  others_mended w same d within ne =
      subst (IsInChain m.moves d (slice_index t d)) (sym (same d ne))
      (subst (λ x. IsInChain m.moves d x (slice_index u d)) (sym (step_other m s t k step d ne)) (h.each d (subst (λ n. d < n) (step_length m s t k step) within)))

  -- the repair is already made
  already_made : (next n : ℕ) → IsNext m.moves step.move.component (slice_index s step.move.component) next
      → RepairChain m.moves step.move.component next (slice_index u step.move.component) n → (step.move.repair ≡ true) × Mending m t u
  already_made next n is_next chain =
      let c : ℕ = step.move.component in
      let broken : is_broken m.moves c step.move.source ≡ true =
      subst (λ x. is_broken m.moves c x ≡ true) (step_source m s t k step) (next_broken m.moves c (slice_index s c) next is_next) in
      let repair : step.move.repair ≡ true =
      All-contains (λ x. is_broken m.moves x.component x.source ≡ true → x.repair ≡ true) m.moves step.move fit.only_repairs_leave step.of_model broken in
      let same : next ≡ slice_index t c =
      fit.one_target c (slice_index s c) next step.move.target is_next (step_mends m s t k step repair) ∙ sym (step_target m s t k step) in (
        repair,
        record {
          full = h.full ∙ sym (step_length m s t k step);
          each = λ d within. elim (cases_eq d c) [
            | inl e ↦ subst (λ x. IsInChain m.moves x (slice_index t x) (slice_index u x)) (sym e)
                (n, subst (λ x. RepairChain m.moves c x (slice_index u c) n) same chain)
            | inr ne ↦ others_mended u (λ _ _. refl) d within ne
          ];
        },
      )

  -- the step, where the component stands as it did
  made_again : slice_index u step.move.component ≡ slice_index s step.move.component → (w : List ℕ) × Step m u k w × Mending m t w
  made_again same =
      let c : ℕ = step.move.component in
      let w : List ℕ = slice_set u c step.move.target in
      let within : c < length u = subst (λ n. c < n) (sym h.full) (step_within m s t k step) in
      let again : Step m u k w = record {
        move = step.move;
        of_model = step.of_model;
        command = step.command;
        source = get_at u c step.move.source within (same ∙ step_source m s t k step);
        guard = still_follows m s u h step.move step.guard;
        gives = refl;
      } in (
        w,
        again,
        record {
          full = step_length m u w k again ∙ (h.full ∙ sym (step_length m s t k step));
          each = λ d inside. elim (cases_eq d c) [
            | inl e ↦ subst (λ x. IsInChain m.moves x (slice_index t x) (slice_index w x)) (sym e) (0, step_target m s t k step ∙ sym (step_target m u w k again))
            | inr ne ↦ others_mended w (step_other m u w k again) d inside ne
          ];
        },
      )

  pub step_again : ((step.move.repair ≡ true) × Mending m t u) ⊎ ((w : List ℕ) × Step m u k w × Mending m t w)
  step_again = by_chain (h.each step.move.component (step_within m s t k step))
    where
      by_chain : IsInChain m.moves step.move.component (slice_index s step.move.component) (slice_index u step.move.component)
          → ((step.move.repair ≡ true) × Mending m t u) ⊎ ((w : List ℕ) × Step m u k w × Mending m t w)
      by_chain (zero, same) = inr (made_again (sym same))
      by_chain (suc n, p) = inl (already_made p.0 n p.1 p.2)

-- a run is made again from a mending of its start
pub run_again : RunsAreMadeAgain
run_again m fit s u v [] h r = record { left = []; last = u; run = refl; mends = subst (λ x. Mending m x u) (sym r) h; of_them = refl }
run_again m fit s u v (k ∷ ks) h r = elim (step_again m fit s r.0 u k h r.1) [
  | inl already ↦
      let rest : MadeAgain m u ks v = run_again m fit r.0 u v ks already.1 r.2 in
      record { left = rest.left; last = rest.last; run = rest.run; mends = rest.mends; of_them = inl ((r.1.move, r.1.of_model, already.0, r.1.command), rest.of_them) }
  | inr again ↦
      let rest : MadeAgain m again.0 ks v = run_again m fit r.0 again.0 v ks again.2 r.2 in
      record {
        left = k ∷ rest.left;
        last = rest.last;
        run = (again.0, again.1, rest.run);
        mends = rest.mends;
        of_them = inr (rest.left, refl, rest.of_them);
      }
]
