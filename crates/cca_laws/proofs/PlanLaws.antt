-- Runs and plans.
use Rattle.std.proofs.Common.{◌≡◌, ℕ, false, not, List, [], ◌∷◌, ◌++◌, slice_get, slice_set, Some, Contains, All, IsTrue, inl, refl, sym, subst}
use Rattle.std.proofs.lemmas.Bool.{not_from_false}
use Rattle.std.proofs.lemmas.List.Elements.{All-cons, All-contains}
use Rattle.list_laws.proofs.Members.{contains_here, contains_there, to_filter}
use Rattle.cca_base.specs.declared.cube.Pair.{Pair}
use Rattle.cca_base.specs.declared.model.Move.{Move}
use Rattle.cca_base.proofs.Members.{in_pairs}
use Rattle.cca_base.specs.PlantModel.{PlantModel}
use Rattle.cca_base.specs.Model.{is_broken}
use Rattle.cca_base.specs.State.{Extends}
use Rattle.cca_base.specs.Implicants.{PrimeImplicant, source_pair}
use Rattle.cca_base.specs.Repairs.{Mending, pairs_of, sound_pairs}
use Rattle.cca_base.specs.Steps.{Step, Run, Allowed, AllowedPlan, support}
use Rattle.cca_base.specs.Accepted.{CompiledModel}
use Rattle.cca_base.specs.Plans.{Whole}

pub runs_join : (m : PlantModel) (s t u : List ℕ) (ks ls : List ℕ) → Run m s ks t → Run m t ls u → Run m s (ks ++ ls) u
runs_join m s t u [] ls r q = subst (λ x. Run m x ls u) r q
runs_join m s t u (k ∷ ks) ls r q = (r.0, r.1, runs_join m r.0 t u ks ls r.2 q)

pub allowed_run : (m : PlantModel) (s t : List ℕ) (ks : List ℕ) → AllowedPlan m s ks t → Run m s ks t
allowed_run m s t [] r = r
allowed_run m s t (k ∷ ks) r = (r.0, r.1.step, allowed_run m r.0 t ks r.2)

pub mends_itself : (m : PlantModel) (s : List ℕ) → Mending m s s
mends_itself m s = record { full = refl; each = λ c h. (0, refl) }

pub repair_allowed : (m : PlantModel) (s t : List ℕ) (k : ℕ) → (step : Step m s k t) → IsTrue step.move.repair → Allowed m s k t
repair_allowed m s t k step repair = record { step = step; back = inl repair }

-- the pairs that stand on modes that are not broken are sound
sound : (m : PlantModel) (s : List ℕ) (p : Pair) → slice_get s p.item ≡ Some p.value → is_broken m.moves p.item p.value ≡ false → Contains (sound_pairs m s) p
sound m s p stands whole =
    to_filter (λ q. not (is_broken m.moves q.item q.value)) (pairs_of s) p (not_from_false (is_broken m.moves p.item p.value) whole) (in_pairs s p stands)

pub implicant_gives_step : (m : PlantModel) (s : List ℕ) (move : Move) (cube : List Pair) → Contains m.moves move → slice_get s move.component ≡ Some move.source
    → PrimeImplicant m move cube → Extends s cube → All (λ p. is_broken m.moves p.item p.value ≡ false) cube
    → Step m s move.command (slice_set s move.component move.target)
implicant_gives_step m s move cube of_model source prime stands whole = record {
  move = move;
  of_model = of_model;
  command = refl;
  source = source;
  guard = λ t state extends.
      let Has : Pair → Type 0 = λ p. slice_get t p.item ≡ Some p.value in
      prime.suffices t state (All-cons Has (source_pair move) cube
      (All-contains Has (support m s move) (source_pair move) extends (contains_here (source_pair move) (source_pair move) (sound_pairs m s) refl))
      (λ k d within. All-contains Has (support m s move) _ extends (contains_there (source_pair move) _ (sound_pairs m s) (sound m s _ (stands k d within) (whole k d within)))));
  gives = refl;
}

-- ---- picked commands

module _ (b : CompiledModel) (goal : List Pair) where
  -- the picked commands are steps one after the other
  pub whole_runs : (ks s last : List ℕ) → Whole b goal s ks last → Run b.model s ks last
  whole_runs [] s last h = h.1
  whole_runs (k ∷ ks) s last (short, picks, next, step, rest) = (next, step, whole_runs ks next last rest)

  -- where they lead the goal stands
  pub whole_stands : (ks s last : List ℕ) → Whole b goal s ks last → Extends last goal
  whole_stands [] s last h = subst (λ (z : List ℕ). Extends z goal) (sym h.1) h.0
  whole_stands (k ∷ ks) s last (short, picks, next, step, rest) = whole_stands ks next last rest
